-- The bound on the divisions in `decimal` is enough: the digits of a number from ten on are those of its tenth, and its last digit.
use Prim.Native.Nat.{ℕ, zero, suc, ◌/◌, ◌%◌, ◌≤◌, ◌<◌}
use mathlib.Core.Path.{◌≡◌, refl, sym, ap, ◌∙◌}
use mathlib.Core.Bool.{Bool, true, false}
use mathlib.Core.List.{List, [], ◌∷◌, ◌++◌}
use native.Mathlib.Omega.{arith}
use lib.Dec.{ltb}
use borrow.Author.Tests.{lt-ltb, le-ltb, ltb-false}
use Rattle.meaning.specs.Lines.{digit, digits_by, decimal}

-- A number below ten is one digit, whatever the bound.
one_digit : (k n : ℕ) → n < 10 → digits_by k (ltb n 10) n ≡ digit n ∷ []
unfolding digits_by
one_digit zero n h = refl
one_digit (suc k) n h = rw (lt-ltb n 10 h) refl

-- Two bounds that are enough give the same digits.
enough : (k m n : ℕ) → n ≤ k → n ≤ m → digits_by k (ltb n 10) n ≡ digits_by m (ltb n 10) n
unfolding digits_by
enough zero m n h l = one_digit zero n (omega arith) ∙ sym (one_digit m n (omega arith))
enough (suc k) zero n h l = one_digit (suc k) n (omega arith) ∙ sym (one_digit zero n (omega arith))
enough (suc k) (suc m) n h l = go (ltb n 10) refl (enough k m (n / 10))
  where
    go : (small : Bool) → ltb n 10 ≡ small
        → (n / 10 ≤ k → n / 10 ≤ m → digits_by k (ltb (n / 10) 10) (n / 10) ≡ digits_by m (ltb (n / 10) 10) (n / 10))
        → digits_by (suc k) small n ≡ digits_by (suc m) small n
    go true e ih = refl
    go false e ih =
        let t = ltb-false n 10 e in
        ap (λ (l : List ℕ). l ++ (digit (n % 10) ∷ [])) (ih (omega arith) (omega arith))

-- "most significant digit first with no leading zeros".
pub decimal_small : (n : ℕ) → n < 10 → decimal n ≡ digit n ∷ []
unfolding decimal
decimal_small n h = one_digit n n h

-- The digits of a number from ten on are those of its tenth, and its last digit.
pub decimal_large : (n : ℕ) → 10 ≤ n → decimal n ≡ decimal (n / 10) ++ (digit (n % 10) ∷ [])
unfolding decimal digits_by
decimal_large zero h = absurd (let z = h in omega arith)
decimal_large (suc k) h =
    rw (le-ltb (suc k) 10 h)
    (ap (λ (l : List ℕ). l ++ (digit (suc k % 10) ∷ [])) (enough k (suc k / 10) (suc k / 10) (omega arith) (omega arith)))
