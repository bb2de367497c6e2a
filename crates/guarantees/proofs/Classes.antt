-- The classes of a box: their factors rise, so class 1 has the least bound, at least D below every other, and dP is the largest.
use Prim.Native.Nat.{ℕ, zero, suc, ◌+◌, ◌-◌, ◌≤◌, ◌<◌}
use mathlib.Core.Path.{◌≡◌}
use mathlib.Core.Bool.{true, and-eq-true_iff}
use mathlib.Core.List.{List, [], ◌∷◌}
use lib.Dec.{ltb}
use lib.ListN.{length, get_or}
use borrow.Author.Tests.{ltb-true}
use native.Mathlib.Nat.{mul-le-mul_right}
use native.Mathlib.Omega.{arith}
use Rattle.meaning.specs.Numbers.{Settings, factor, largest_factor, bound, largest_bound, class_count, rising_above}
use Rattle.meaning.proofs.Facts.{SettingsFacts}
use Rattle.meaning.proofs.KeptByOffer.{factor_within}

-- Every number of a rising list is above the one that it starts from.
rising_above_lem : (low : ℕ) (ns : List ℕ) → rising_above low ns ≡ true → (i : ℕ) → i < length ns → low < get_or ns i 0
unfolding rising_above
rising_above_lem low [] e i h = absurd (omega arith)
rising_above_lem low (n ∷ ns) e zero h = ltb-true low n ((and-eq-true_iff (ltb low n) (rising_above n ns)).0 e).0
rising_above_lem low (n ∷ ns) e (suc i) h =
    let p = (and-eq-true_iff (ltb low n) (rising_above n ns)).0 e in
    let l = ltb-true low n p.0 in
    let r = rising_above_lem n ns p.1 i (omega arith) in
    omega arith

-- Of two numbers of a rising list the later one is above.
rising_apart : (low : ℕ) (ns : List ℕ) → rising_above low ns ≡ true → (i j : ℕ) → i < j → j < length ns → get_or ns i 0 < get_or ns j 0
unfolding rising_above
rising_apart low [] e i j h l = absurd (omega arith)
rising_apart low (n ∷ ns) e i zero h l = absurd (omega arith)
rising_apart low (n ∷ ns) e zero (suc j) h l = rising_above_lem n ns ((and-eq-true_iff (ltb low n) (rising_above n ns)).0 e).1 j (omega arith)
rising_apart low (n ∷ ns) e (suc i) (suc j) h l =
    rising_apart n ns ((and-eq-true_iff (ltb low n) (rising_above n ns)).0 e).1 i j (omega arith) (omega arith)

module _ (set : Settings) (f : SettingsFacts set) where
  -- Every class has a factor of at least 1.
  pub factor_least : (p : ℕ) → 1 ≤ p → p ≤ class_count set → 1 ≤ factor set p
  unfolding factor class_count
  factor_least p h l = rising_above_lem 0 set.factors f.factors_rise (p - 1) (omega arith)

  -- A later class has a larger factor.
  pub factor_rises : (p q : ℕ) → 1 ≤ p → p < q → q ≤ class_count set → factor set p < factor set q
  unfolding factor class_count
  factor_rises p q h l m = rising_apart 0 set.factors f.factors_rise (p - 1) (q - 1) (omega arith) (omega arith)

  -- Every bound is at least 1.
  pub bound_least : (p : ℕ) → 1 ≤ p → p ≤ class_count set → 1 ≤ bound set p
  unfolding bound
  bound_least p h l =
      let m = mul-le-mul_right set.interval (factor_least p h l) in
      let i = f.interval_least in
      omega arith

  -- No bound is above dP.
  pub bound_most : (p : ℕ) → 1 ≤ p → p ≤ class_count set → bound set p ≤ largest_bound set
  unfolding bound largest_bound largest_factor
  bound_most p h l = mul-le-mul_right set.interval (factor_within set p f h l)

  -- Every class above 1 has a bound at least D above d1.
  pub bound_apart : (p : ℕ) → 2 ≤ p → p ≤ class_count set → bound set 1 + set.interval ≤ bound set p
  unfolding bound
  bound_apart p h l =
      let m = mul-le-mul_right set.interval (factor_rises 1 p (omega arith) h l) in
      omega arith
