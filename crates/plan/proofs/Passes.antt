-- What a pass over words or arrivals adds or tests at each step, and what is left at its end.
use Rattle.std.proofs.Common.{◌≡◌, ℕ, suc, ◌+◌, ◌/◌, ◌%◌, ◌^◌, ◌<◌, ◌≤◌, Bool, true, false, not, ◌&&◌, leb, List, [], ◌∷◌, ◌++◌, map, length, get_or, ◌⊎◌, inl, inr, sym, ap, ap₂, ◌∙◌, add_assoc, arith, drop_of_length-le, le-leb, length-append}
use mathlib.Core.Bool.{and-false}
use native.Mathlib.Nat.{mod-add-mod}
use borrow.Author.Tests.{lt-leb}
use lib.ListN.{get_or-append}
use Rattle.std.proofs.lemmas.List.{get_or-map, length-map, map-append, get_or-append_right}
use Rattle.std.specs.List.{fold}
use Rattle.laws.specs.Tests.{every}
use Rattle.laws.specs.Sums.{sum_of}
use Rattle.meaning.specs.declared.Arrival.{Arrival}
use Rattle.meaning.specs.Plan.{never_falling_from, last_arrival_slot, slots_wrong, table, arrival_at}
use Rattle.plan.specs.Parts.{arrivals_of_words, leading, boundary}
use Rattle.plan.proofs.EntryLaws.{table_same, arrival_local}

-- Words added one after another to a first number, each sum modulo 2^32, are their sum added to it, modulo 2^32.
pub sum_wraps :
    {A : Type 0} (word : A → ℕ) (first : ℕ) (ws : List A) → first < 2 ^ 32 →
    fold (λ sum w. (sum + word w) % 2 ^ 32) first ws ≡ (first + sum_of word ws) % 2 ^ 32
unfolding sum_of
sum_wraps word first [] h = omega arith
sum_wraps word first (w ∷ ws) h =
    sum_wraps word ((first + word w) % 2 ^ 32) ws (omega arith) ∙
    mod-add-mod (first + word w) (2 ^ 32) (sum_of word ws) ∙
    ap (λ n. n % 2 ^ 32) (add_assoc first (word w) (sum_of word ws))

-- The slots of arrivals never fall, none is below `low` and none exceeds the largest.
unfoldable pub slots_good_from : ℕ → List Arrival → Bool
slots_good_from low l = never_falling_from low l && every (λ a. leb a.slot last_arrival_slot) l

-- Words that begin with an entry, the first word of which is the slot, and go on behind it.
module _ {A : Type 0} (value : A → ℕ) (words entry rest : List A) (first : A) (slot : ℕ)
    (cut : words ≡ entry ++ rest) (three : length entry ≡ 3) (is : first ≡ get_or entry 0 first) (told : slot ≡ value first) where
  -- The entry is an arrival, and what is behind it are the arrivals behind that.
  next : arrivals_of_words (map value words) ≡ arrival_at (map value entry) 0 ∷ arrivals_of_words (map value rest)
  unfolding arrivals_of_words table
  next =
      let xs = map value entry in
      let ys = map value rest in
      let n = length ys / 3 in
      let long : length xs ≡ 3 = length-map entry value ∙ three in
      let more : length (xs ++ ys) / 3 ≡ suc n = omega (arith, length-append xs ys) in
      ap (λ l. arrivals_of_words (map value l)) cut ∙
      ap arrivals_of_words (map-append value entry rest) ∙
      ap (table arrival_at 3 (xs ++ ys) 0) more ∙
      ap₂ ◌∷◌
      (arrival_local (xs ++ ys) xs 0 0 (λ k h. get_or-append xs ys 0 (0 + k) (omega arith)))
      (table_same arrival_at 3 arrival_local (xs ++ ys) ys 3 0 n (λ k h.
      get_or-append_right xs ys 3 (3 + k) 0 long (omega arith) ∙ ap (λ i. get_or ys i 0) (omega arith)))

  -- The slot of that arrival is its first word.
  slot_is : (arrival_at (map value entry) 0).slot ≡ slot
  unfolding arrival_at
  slot_is = get_or-map value entry 0 first 0 (omega arith) ∙ ap value (sym is) ∙ sym told

  -- An arrival whose slot is in order passes the test, and the rest is tested from its slot on.
  pub slots_next :
      (low : ℕ) → low ≤ slot → slot ≤ last_arrival_slot →
      slots_good_from low (arrivals_of_words (map value words)) ≡ slots_good_from slot (arrivals_of_words (map value rest))
  unfolding slots_good_from never_falling_from every
  slots_next low a b = rw next (rw slot_is (rw (le-leb _ _ a, le-leb _ _ b)))

  -- An arrival whose slot is below the one before it, or exceeds the largest, fails the test.
  pub slots_fail :
      (low : ℕ) → (slot < low) ⊎ ((low ≤ slot) × (last_arrival_slot < slot)) →
      slots_good_from low (arrivals_of_words (map value words)) ≡ false
  unfolding slots_good_from never_falling_from every
  slots_fail low (inl a) = rw next (rw slot_is (rw (lt-leb _ _ a)))
  slots_fail low (inr b) = rw next (rw slot_is (rw (lt-leb _ _ b.1) (and-false _)))

-- Where less than an entry is left, the test passes.
pub slots_end :
    {A : Type 0} (value : A → ℕ) (low : ℕ) (rest : List A) → length rest < 3 →
    slots_good_from low (arrivals_of_words (map value rest)) ≡ true
unfolding slots_good_from never_falling_from every arrivals_of_words table
slots_end value low rest h =
    let none : length (map value rest) / 3 ≡ 0 = omega (arith, length-map rest value) in
    rw none

-- The test of the slots answers the opposite of what the pass found.
pub slots_answer : (l : List Arrival) (good : Bool) → slots_good_from 0 l ≡ good → not good ≡ slots_wrong l
unfolding slots_good_from slots_wrong
slots_answer l good e = ap not (sym e)

-- Where no arrival is left, the boundary is where it is looked for from.
pub boundary_end : (l : List Arrival) (i limit : ℕ) → length l ≤ i → boundary l i limit ≡ i
unfolding boundary leading
boundary_end l i limit h = rw (drop_of_length-le l h) (omega arith)
