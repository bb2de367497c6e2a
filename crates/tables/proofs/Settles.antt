-- "answers satisfying one promise are proved the same": two results and two final memories that satisfy the promise of `open`
-- at the same entry are the same.
use Prim.Native.Nat.{ℕ}
use mathlib.Core.Path.{◌≡◌, sym, ap, ◌∙◌}
use mathlib.Core.List.{List}
use Rattle.tables.specs.Opening.{OpenPromise}
use Rattle.std.proofs.Common.{Result}
use Rattle.meaning.specs.declared.Refusal.{Refusal}

-- What both equal settles them.
pub one : {A : Type 0} {a b c : A} → a ≡ c → b ≡ c → a ≡ b
one p q = p ∙ sym q

-- Two results of `tables::opening::open` that keep its promise are the same, and so are the words they leave.
pub open_settles : (entry : List ℕ) (d m : ℕ) (factors : List ℕ) (r s : Result Unit Refusal) (after left : List ℕ) →
    OpenPromise entry d m factors r after → OpenPromise entry d m factors s left → (r ≡ s) × (after ≡ left)
open_settles entry d m factors r s after left p q = (ap (λ x. x.0) (one p q), ap (λ x. x.1) (one p q))
