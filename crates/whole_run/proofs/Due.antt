-- The arrivals of a slot with their places in the file, and when none remain.
use Prim.Native.Nat.{ℕ, suc, ◌+◌, ◌≤◌, ◌<◌}
use mathlib.Core.Path.{◌≡◌, refl, sym, ap, ◌∙◌}
use mathlib.Core.Bool.{Bool, true, false, cond, ◌&&◌, and-eq-true_iff}
use mathlib.Core.List.{List, [], ◌∷◌}
use native.Mathlib.Omega.{arith}
use native.Mathlib.Decide.{dec_lt}
use lib.ListN.{length, take, drop}
use lib.Dec.{leb, ltb, eqb}
use borrow.Author.Tests.{leb-true, lt-ltb, le-ltb, eq-eqb, ne_eqb}
use Rattle.laws.specs.Tests.{every}
use Rattle.laws.specs.Lists.{Placed, keep, placed_from}
use Rattle.meaning.specs.declared.Arrival.{Arrival}
use Rattle.meaning.specs.Plan.{never_falling_from, arrivals_of}
use Rattle.plan.specs.Parts.{leading}
use Rattle.plan.proofs.Slots.{slot_together}

-- The test of an arrival's slot, of arrivals with their places.
abbrev before : ℕ → Placed Arrival → Bool
before limit a = ltb a.entry.slot limit

-- Where all arrivals are before the limit, and where one is not.
pub all_before : (limit n : ℕ) (l : List Arrival) → length l ≤ leading limit l → every (before limit) (placed_from n l) ≡ true
unfolding every placed_from leading
all_before limit n [] h = refl
all_before limit n (a ∷ l) h = by (ltb a.slot limit) h (all_before limit (suc n) l)
  where
    by : (b : Bool) → suc (length l) ≤ cond b (suc (leading limit l)) 0
        → (length l ≤ leading limit l → every (before limit) (placed_from (suc n) l) ≡ true)
        → (b && every (before limit) (placed_from (suc n) l)) ≡ true
    by true k ih = ih (omega arith)
    by false k ih = absurd (let z = k in omega arith)

-- If the arrivals that lead before a limit are not all of them, some arrival is not before it.
pub one_not_before : (limit n : ℕ) (l : List Arrival) → leading limit l < length l → every (before limit) (placed_from n l) ≡ false
unfolding every placed_from leading
one_not_before limit n [] h = absurd (let z = h in omega arith)
one_not_before limit n (a ∷ l) h = by (ltb a.slot limit) h (one_not_before limit (suc n) l)
  where
    by : (b : Bool) → cond b (suc (leading limit l)) 0 < suc (length l)
        → (leading limit l < length l → every (before limit) (placed_from (suc n) l) ≡ false)
        → (b && every (before limit) (placed_from (suc n) l)) ≡ false
    by true k ih = ih (omega arith)
    by false k ih = refl

-- Slots that never fall from `low` on: none is before it.
none_leads : (limit low : ℕ) (l : List Arrival) → limit ≤ low → never_falling_from low l ≡ true → leading limit l ≡ 0
unfolding never_falling_from leading
none_leads limit low [] h e = refl
none_leads limit low (a ∷ l) h e =
    let k = leb-true low a.slot ((and-eq-true_iff (leb low a.slot) (never_falling_from a.slot l)).0 e).0 in
    rw (le-ltb a.slot limit (omega arith)) refl

-- Where the slots never fall from `low` on, an earlier slot has no arrivals.
none_of : (slot low : ℕ) (l : List Arrival) → slot < low → never_falling_from low l ≡ true → arrivals_of slot l ≡ []
none_of slot low l h e =
    let z = none_leads slot low l (omega arith) e in
    slot_together slot low l e ∙
    ap (λ k. take (leading (slot + 1) (drop k l)) (drop k l)) z ∙
    ap (λ k. take k l) (none_leads (slot + 1) low l (omega arith) e)

-- The arrivals of a slot stand together, behind those that are before it: so their places follow one another.
pub placed_due : (slot low n : ℕ) (l : List Arrival) → never_falling_from low l ≡ true
    → keep (λ a. eqb a.entry.slot slot) (placed_from n l) ≡ placed_from (n + leading slot l) (arrivals_of slot l)
unfolding keep placed_from arrivals_of leading never_falling_from
placed_due slot low n [] e = refl
placed_due slot low n (a ∷ l) e = by (placed_due slot a.slot (suc n) l) (dec_lt a.slot slot) (dec_lt slot a.slot)
  where
    rest : never_falling_from a.slot l ≡ true
    rest = ((and-eq-true_iff (leb low a.slot) (never_falling_from a.slot l)).0 e).1

    by : (never_falling_from a.slot l ≡ true → keep (λ a. eqb a.entry.slot slot) (placed_from (suc n) l) ≡
        placed_from (suc n + leading slot l) (arrivals_of slot l))
        → Dec (a.slot < slot) → Dec (slot < a.slot)
        → keep (λ a. eqb a.entry.slot slot) (placed_from n (a ∷ l)) ≡ placed_from (n + leading slot (a ∷ l)) (arrivals_of slot (a ∷ l))
    by later (yes h) d =
        let k : suc n + leading slot l ≡ n + suc (leading slot l) = omega arith in
        rw (ne_eqb a.slot slot (λ q. omega arith), lt-ltb a.slot slot h) (later rest ∙ ap (λ m. placed_from m (arrivals_of slot l)) k)
    by later (no h) (no q) =
        let same : a.slot ≡ slot = omega arith in
        let z = none_leads slot a.slot l (omega arith) rest in
        let k : suc n + leading slot l ≡ suc (n + 0) = omega (arith, z) in
        let m : n ≡ n + 0 = omega arith in
        rw (eq-eqb a.slot slot same, le-ltb a.slot slot (omega arith))
        (ap (λ x. record { place = x; entry = a } ∷ keep (λ a. eqb a.entry.slot slot) (placed_from (suc n) l)) m ∙
        ap (λ x. record { place = n + 0; entry = a } ∷ x) (later rest ∙ ap (λ x. placed_from x (arrivals_of slot l)) k))
    by later (no h) (yes q) =
        let none = none_of slot a.slot l (omega arith) rest in
        rw (ne_eqb a.slot slot (λ e. omega arith), le-ltb a.slot slot (omega arith))
        (later rest ∙ ap (placed_from (suc n + leading slot l)) none ∙ sym (ap (placed_from (n + 0)) none))
