-- Laws on arrivals whose slots never fall: those of one slot stand together, behind all earlier ones.
use Rattle.std.proofs.Common.{◌≡◌, ℕ, zero, suc, ◌+◌, ◌<◌, ◌≤◌, true, leb, List, [], ◌∷◌, take, drop, sym, refl, ap, ◌∙◌, not-suc-le-zero, arith, le-ltb, lt-ltb, eq-eqb, ne_eqb, le-leb, leb-true}
use mathlib.Core.Bool.{and-eq-true_iff}
use native.Mathlib.Decide.{dec_le}
use Rattle.laws.specs.Lists.{keep}
use Rattle.meaning.specs.declared.Arrival.{Arrival}
use Rattle.meaning.specs.Plan.{never_falling_from, arrivals_of}
use Rattle.plan.specs.Parts.{leading}

-- A list that never falls has its first slot in order, and its rest never falls from there.
falls_not :
    (low : ℕ) (a : Arrival) (l : List Arrival) → never_falling_from low (a ∷ l) ≡ true →
    (low ≤ a.slot) × (never_falling_from a.slot l ≡ true)
unfolding never_falling_from
falls_not low a l e =
    let h = (and-eq-true_iff (leb low a.slot) (never_falling_from a.slot l)).0 e in
    (leb-true _ _ h.0, h.1)

-- A list that never falls from its first slot never falls from anything below that slot.
falls_anew :
    (low : ℕ) (a : Arrival) (l : List Arrival) → low ≤ a.slot → never_falling_from a.slot l ≡ true →
    never_falling_from low (a ∷ l) ≡ true
unfolding never_falling_from
falls_anew low a l h e = (and-eq-true_iff (leb low a.slot) (never_falling_from a.slot l)).1 (le-leb low a.slot h, e)

-- A list that never falls from a slot never falls from anything lower.
falls_lower : (low lower : ℕ) (l : List Arrival) → lower ≤ low → never_falling_from low l ≡ true → never_falling_from lower l ≡ true
unfolding never_falling_from
falls_lower low lower [] h e = refl
falls_lower low lower (a ∷ l) h e =
    let f = falls_not low a l e in
    falls_anew lower a l (omega arith) f.1

-- An arrival before the limit is one more of the leading ones.
leads : (limit : ℕ) (a : Arrival) (l : List Arrival) → a.slot < limit → leading limit (a ∷ l) ≡ suc (leading limit l)
unfolding leading
leads limit a l h = rw (lt-ltb _ _ h)

-- An arrival at the limit or after it ends the leading ones.
stops : (limit : ℕ) (a : Arrival) (l : List Arrival) → limit ≤ a.slot → leading limit (a ∷ l) ≡ 0
unfolding leading
stops limit a l h = rw (le-ltb _ _ h)

-- An arrival of the slot is kept.
kept : (slot : ℕ) (a : Arrival) (l : List Arrival) → a.slot ≡ slot → arrivals_of slot (a ∷ l) ≡ a ∷ arrivals_of slot l
unfolding arrivals_of keep
kept slot a l h = rw (eq-eqb _ _ h)

-- An arrival of another slot is passed over.
passed : (slot : ℕ) (a : Arrival) (l : List Arrival) → (a.slot ≡ slot → ⊥) → arrivals_of slot (a ∷ l) ≡ arrivals_of slot l
unfolding arrivals_of keep
passed slot a l h = rw (ne_eqb _ _ h)

-- Past the slot there is no arrival of it.
none_later : (slot low : ℕ) (l : List Arrival) → slot < low → never_falling_from low l ≡ true → arrivals_of slot l ≡ []
unfolding arrivals_of keep
none_later slot low [] h e = refl
none_later slot low (a ∷ l) h e =
    let f = falls_not low a l e in
    passed slot a l (λ q. omega arith) ∙ none_later slot a.slot l (omega arith) f.1

-- From the slot on, the arrivals of the slot are the leading ones.
pub slot_first :
    (slot : ℕ) (l : List Arrival) → never_falling_from slot l ≡ true → arrivals_of slot l ≡ take (leading (slot + 1) l) l
unfolding arrivals_of keep leading
slot_first slot [] e = refl
slot_first slot (a ∷ l) e = by (dec_le a.slot slot) (slot_first slot l)
  where
    f : (slot ≤ a.slot) × (never_falling_from a.slot l ≡ true)
    f = falls_not slot a l e

    by : Dec (a.slot ≤ slot) → (never_falling_from slot l ≡ true → arrivals_of slot l ≡ take (leading (slot + 1) l) l) →
        arrivals_of slot (a ∷ l) ≡ take (leading (slot + 1) (a ∷ l)) (a ∷ l)
    by (yes h) ih =
        let same : a.slot ≡ slot = omega (arith, f.0) in
        kept slot a l same ∙
        ap (λ m. a ∷ m) (ih (falls_lower a.slot slot l (omega arith) f.1)) ∙
        ap (λ k. take k (a ∷ l)) (sym (leads (slot + 1) a l (omega arith)))
    by (no h) ih =
        passed slot a l (λ q. omega arith) ∙
        none_later slot a.slot l (omega arith) f.1 ∙
        ap (λ k. take k (a ∷ l)) (sym (stops (slot + 1) a l (omega arith)))

-- Behind all earlier arrivals, those of the slot are the leading ones.
pub slot_together :
    (slot low : ℕ) (l : List Arrival) → never_falling_from low l ≡ true → arrivals_of slot l ≡
    take (leading (slot + 1) (drop (leading slot l) l)) (drop (leading slot l) l)
unfolding arrivals_of keep leading
slot_together slot low [] e = refl
slot_together slot low (a ∷ l) e = by (dec_le slot a.slot) (slot_together slot a.slot l f.1)
  where
    f : (low ≤ a.slot) × (never_falling_from a.slot l ≡ true)
    f = falls_not low a l e

    by : Dec (slot ≤ a.slot) → arrivals_of slot l ≡ take (leading (slot + 1) (drop (leading slot l) l)) (drop (leading slot l) l) →
        arrivals_of slot (a ∷ l) ≡
        take (leading (slot + 1) (drop (leading slot (a ∷ l)) (a ∷ l))) (drop (leading slot (a ∷ l)) (a ∷ l))
    by (yes h) ih =
        slot_first slot (a ∷ l) (falls_anew slot a l h f.1) ∙
        ap (λ k. take (leading (slot + 1) (drop k (a ∷ l))) (drop k (a ∷ l))) (sym (stops slot a l h))
    by (no h) ih =
        passed slot a l (λ q. omega arith) ∙
        ih ∙
        ap (λ k. take (leading (slot + 1) (drop k (a ∷ l))) (drop k (a ∷ l))) (sym (leads slot a l (omega arith)))

-- The arrivals before the slot, and those of it, are those before the next slot.
pub leading_next : (slot : ℕ) (l : List Arrival) → leading slot l + leading (slot + 1) (drop (leading slot l) l) ≡ leading (slot + 1) l
unfolding leading
leading_next slot [] = omega arith
leading_next slot (a ∷ l) = by (dec_le slot a.slot) (leading_next slot l)
  where
    by : Dec (slot ≤ a.slot) → leading slot l + leading (slot + 1) (drop (leading slot l) l) ≡ leading (slot + 1) l →
        leading slot (a ∷ l) + leading (slot + 1) (drop (leading slot (a ∷ l)) (a ∷ l)) ≡ leading (slot + 1) (a ∷ l)
    by (yes h) ih =
        ap (λ k. k + leading (slot + 1) (drop k (a ∷ l))) (stops slot a l h) ∙ omega arith
    by (no h) ih =
        ap (λ k. k + leading (slot + 1) (drop k (a ∷ l))) (leads slot a l (omega arith)) ∙
        omega (arith, ih, leads (slot + 1) a l (omega arith))

-- Passing over some of those before a limit changes nothing: the boundary is where it is.
pub leading_passed : (limit from : ℕ) (l : List Arrival) → from ≤ leading limit l → from + leading limit (drop from l) ≡ leading limit l
unfolding leading
leading_passed limit zero l h = omega arith
leading_passed limit (suc from) [] h = absurd (not-suc-le-zero h)
leading_passed limit (suc from) (a ∷ l) h = by (dec_le limit a.slot) (leading_passed limit from l)
  where
    by : Dec (limit ≤ a.slot) → (from ≤ leading limit l → from + leading limit (drop from l) ≡ leading limit l) →
        suc from + leading limit (drop from l) ≡ leading limit (a ∷ l)
    by (yes q) ih = let e = stops limit a l q in absurd (not-suc-le-zero (rw e at h))
    by (no q) ih =
        let e : leading limit (a ∷ l) ≡ suc (leading limit l) = leads limit a l (omega arith) in
        let g : suc from ≤ suc (leading limit l) = rw e at h in
        omega (arith, ih (omega arith), e)

-- No arrival is before slot 0.
pub leading_none : (l : List Arrival) → leading 0 l ≡ 0
unfolding leading
leading_none [] = refl
leading_none (a ∷ l) = rw (le-ltb a.slot 0 (omega arith))
