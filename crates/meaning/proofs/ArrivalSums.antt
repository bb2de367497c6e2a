-- Sums over the arrivals from a slot on, of what each of them counts for.
use Prim.Native.Nat.{ℕ, suc, ◌+◌}
use mathlib.Core.Path.{◌≡◌, refl, sym, ap, ◌∙◌}
use mathlib.Core.Bool.{Bool, true, false, cond}
use mathlib.Core.List.{List, [], ◌∷◌}
use mathlib.Core.Logic.{⊎_elim}
use native.Mathlib.Omega.{arith}
use lib.Dec.{leb, eqb, leb-zero}
use borrow.Author.Tests.{leb-true, leb-false, le-leb, lt-leb, eqb-true, eqb-false}
use Rattle.laws.specs.Tests.{bool_cases}
use Rattle.laws.specs.Lists.{Placed, keep}
use Rattle.laws.specs.Sums.{sum_of, sum_add}
use Rattle.meaning.specs.declared.Arrival.{Arrival}
use Rattle.meaning.specs.Rest.{from}

module _ (size : Placed Arrival → ℕ) where
  -- The sum over the arrivals of a slot counts each arrival, those of other slots for 0.
  pub kept_sum : (slot : ℕ) (l : List (Placed Arrival))
      → sum_of size (keep (λ a. eqb a.entry.slot slot) l) ≡ sum_of (λ a. cond (eqb a.entry.slot slot) (size a) 0) l
  unfolding keep sum_of
  kept_sum slot [] = refl
  kept_sum slot (a ∷ l) = go (eqb a.entry.slot slot) (kept_sum slot l)
    where
      go : (b : Bool) → sum_of size (keep (λ a. eqb a.entry.slot slot) l) ≡ sum_of (λ a. cond (eqb a.entry.slot slot) (size a) 0) l
          → sum_of size (cond b (a ∷ keep (λ a. eqb a.entry.slot slot) l) (keep (λ a. eqb a.entry.slot slot) l))
          ≡ cond b (size a) 0 + sum_of (λ a. cond (eqb a.entry.slot slot) (size a) 0) l
      go true e = ap (λ n. size a + n) e
      go false e = omega arith

  -- The arrivals from a slot on are those of that slot and those from the next one on.
  pub next_slot : (slot : ℕ) (l : List (Placed Arrival))
      → from size slot l ≡ sum_of size (keep (λ a. eqb a.entry.slot slot) l) + from size (suc slot) l
  unfolding from
  next_slot slot l =
      sum_add (λ a. cond (eqb a.entry.slot slot) (size a) 0) (λ a. cond (leb (suc slot) a.entry.slot) (size a) 0)
      (λ a. cond (leb slot a.entry.slot) (size a) 0) l (λ a. split a.entry.slot (size a)) ∙
      ap (λ n. n + sum_of (λ a. cond (leb (suc slot) a.entry.slot) (size a) 0) l) (sym (kept_sum slot l))
    where
      split : (s n : ℕ) → cond (leb slot s) n 0 ≡ cond (eqb s slot) n 0 + cond (leb (suc slot) s) n 0
      split s n =
          ⊎_elim
          (λ (e : eqb s slot ≡ true).
          let q = eqb-true s slot e in
          rw (e, le-leb slot s (omega arith), lt-leb (suc slot) s (omega arith)) (omega arith))
          (λ (e : eqb s slot ≡ false).
          ⊎_elim
          (λ (t : leb (suc slot) s ≡ true). let l = leb-true (suc slot) s t in rw (e, t, le-leb slot s (omega arith)) (omega arith))
          (λ (f : leb (suc slot) s ≡ false).
          let l = leb-false (suc slot) s f in
          let d : mathlib.Core.Logic.◌≢◌ s slot = eqb-false s slot e in
          rw (e, f, lt-leb slot s (omega arith)) (omega arith))
          (bool_cases (leb (suc slot) s)))
          (bool_cases (eqb s slot))

  -- From slot 0 on there are all of them.
  pub from_start : (l : List (Placed Arrival)) → from size 0 l ≡ sum_of size l
  unfolding from sum_of
  from_start [] = refl
  from_start (a ∷ l) = let e = from_start l in rw (leb-zero a.entry.slot) (ap (λ n. size a + n) e)
