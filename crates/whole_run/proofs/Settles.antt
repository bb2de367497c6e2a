-- "answers satisfying one promise are proved the same": of the public functions of this crate.
use Prim.Native.Nat.{ℕ}
use mathlib.Core.Path.{◌≡◌, sym, ◌∙◌}
use mathlib.Core.List.{List}
use native.Mathlib.Omega.{arith}
use lib.Seq.{ext_get_or}
use Rattle.tables.proofs.Settles.{one}
use Rattle.whole_run.specs.Printing.{RunPromise}
use Rattle.whole_run.specs.Rooms.{Zeros}
use Rattle.std.proofs.Common.{Result}
use Rattle.meaning.specs.declared.Refusal.{Refusal}

-- Two results of `run_plan` that keep its promise are the same, and so are the buffers they leave.
pub run_plan_settles : (plan entry : List ℕ) (r s : Result ℕ Refusal) (after left : List ℕ) → RunPromise plan entry r after
    → RunPromise plan entry s left → (r ≡ s) × (after ≡ left)
run_plan_settles plan entry r s after left p q = (one p.0 q.0, one p.1 q.1)

-- Two results of `zeros`, of bytes or of words.
pub room_settles : (n : ℕ) (a b : List ℕ) → Zeros (λ x. x ≡ 0) n a → Zeros (λ x. x ≡ 0) n b → a ≡ b
room_settles n a b p q =
    let e = p.size in
    ext_get_or 0 a b (sym e ∙ q.size) (λ i h. p.each i 0 (omega arith) ∙ sym (q.each i 0 (omega arith)))
