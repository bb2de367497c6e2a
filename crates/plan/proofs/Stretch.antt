-- What the stretch of a slot holds, and the walk over the slots in order.
use Rattle.std.proofs.Common.{◌≡◌, ℕ, zero, suc, ◌∷◌, map, cond, nat_lt, slice_index, refl, drop-drop, ◌+◌, ◌-◌, ◌*◌, ◌/◌, ◌<◌, ◌≤◌, true, List, [], length, get_or, take, drop, sym, ap, ◌∙◌, ap₂, arith, length-drop, length-take}
use Rattle.std.proofs.lemmas.List.Folds.{length-prefix_len}
use Rattle.std.specs.List.{prefix_len, take_while, drop-map}
use Rattle.std.specs.Simd.{first_chunks}
use Rattle.meaning.specs.Plan.{words_of, table, arrival_at, never_falling_from, arrivals_of}
use Rattle.plan.specs.Entries.{get_or_table, take_table}
use Rattle.plan.proofs.EntryLaws.{table_same, drop_table, arrival_local}
use Rattle.plan.proofs.WordLaws.{word_of_rest, word_of_part}
use Rattle.plan.specs.Parts.{arrivals_in, leading, boundary, stretch_start, stretch_end, stretch_of, no_arrival}
use Rattle.plan.proofs.LaidOut.{part_table}
use Rattle.plan.proofs.Slots.{slot_together, leading_next, leading_passed, leading_none}
use Rattle.plan.proofs.Passes.{boundary_end}
use Rattle.plan.specs.StretchPlaces.{leading_within, length_arrivals_in, lies, length_stretch}

-- Past the last entry there is no stretch.
pub stretch_past : (bytes : List ℕ) (from slot : ℕ) → length bytes / 12 < from → [] ≡ stretch_of bytes from slot
unfolding stretch_of stretch_end stretch_start
stretch_past bytes from slot h =
    let past : length (arrivals_in bytes) ≤ from = rw length_arrivals_in (omega arith) in
    let none : 12 * (from - from) ≡ 0 = omega arith in
    rw (boundary_end (arrivals_in bytes) from slot past, boundary_end (arrivals_in bytes) from (slot + 1) past, none)

-- The bytes between the two boundaries are the stretch.
pub stretch_is :
    (bytes : List ℕ) (from slot first after : ℕ) → first ≡ boundary (arrivals_in bytes) from slot →
    after ≡ boundary (arrivals_in bytes) first (slot + 1) →
    take (12 * after - 12 * first) (drop (12 * first) bytes) ≡ stretch_of bytes from slot
unfolding stretch_of stretch_end stretch_start
stretch_is bytes from slot first after e f =
    let g : 12 * after - 12 * first ≡ 12 * (after - first) = omega arith in
    rw (g, f, e)

-- An entry by its number is the arrival of that number.
pub arrival_of_table :
    (bytes : List ℕ) (i : ℕ) → i < length bytes / 12 → arrival_at (words_of bytes) (3 * i) ≡ get_or (arrivals_in bytes) i no_arrival
unfolding arrivals_in
arrival_of_table bytes i h =
    sym
    (get_or_table arrival_at 3 (words_of bytes) 0 (length bytes / 12) i no_arrival h ∙ ap (arrival_at (words_of bytes)) (omega arith))

-- The arrivals in a part of whole entries are those arrivals of the whole.
pub arrivals_of_part :
    (bytes : List ℕ) (a n : ℕ) → 12 * a + 12 * n ≤ length bytes → arrivals_in (take (12 * n) (drop (12 * a) bytes)) ≡
    take n (drop a (arrivals_in bytes))
unfolding arrivals_in
arrivals_of_part bytes a n h =
    let long : length (take (12 * n) (drop (12 * a) bytes)) / 12 ≡ n = simp (length-take, length-drop) (omega arith) in
    let size : 12 * n ≡ 4 * (3 * n) = omega arith in
    let start : 12 * a ≡ 4 * (3 * a) = omega arith in
    let at : 3 * a ≡ 0 + 3 * a = omega arith in
    ap (table arrival_at 3 (words_of (take (12 * n) (drop (12 * a) bytes))) 0) long ∙
    ap₂ (λ x y. table arrival_at 3 (words_of (take x (drop y bytes))) 0 n) size start ∙
    part_table arrival_at 3 arrival_local bytes (3 * a) n (omega arith) ∙
    ap (λ i. table arrival_at 3 (words_of bytes) i n) at ∙
    sym
    (ap (take n) (drop_table arrival_at 3 (words_of bytes) 0 (length bytes / 12) a) ∙
    take_table arrival_at 3 (words_of bytes) (0 + 3 * a) (length bytes / 12 - a) n (omega arith))

-- The arrivals in the rest of a table are those behind the entries before it.
pub arrivals_from : (bytes : List ℕ) (a : ℕ) → arrivals_in (drop (12 * a) bytes) ≡ drop a (arrivals_in bytes)
unfolding arrivals_in
arrivals_from bytes a =
    let n = length bytes / 12 - a in
    let long : length (drop (12 * a) bytes) / 12 ≡ n = omega (arith, length-drop (12 * a) bytes) in
    let start : 12 * a ≡ 4 * (3 * a) = omega arith in
    ap (table arrival_at 3 (words_of (drop (12 * a) bytes)) 0) long ∙
    ap (λ x. table arrival_at 3 (words_of (drop x bytes)) 0 n) start ∙
    table_same arrival_at 3 arrival_local (words_of (drop (4 * (3 * a)) bytes)) (words_of bytes) 0 (0 + 3 * a) n (λ k h.
    word_of_rest bytes (3 * a) (0 + k) ∙ ap (λ i. get_or (words_of bytes) i 0) (omega arith)) ∙
    sym (drop_table arrival_at 3 (words_of bytes) 0 (length bytes / 12) a)

-- Chunks of twelve bytes are the arrivals, so many from the entry k on.
arrivals_of_chunks :
    (bytes : List ℕ) (k n : ℕ) → 12 * (k + n) ≤ length bytes →
    map (λ e. arrival_at (words_of e) 0) (first_chunks 12 n (drop (12 * k) bytes)) ≡ table arrival_at 3 (words_of bytes) (3 * k) n
unfolding table
arrivals_of_chunks bytes k zero h = refl
arrivals_of_chunks bytes k (suc n) h =
    let start : 12 * k ≡ 4 * (3 * k) = omega arith in
    let rest : drop 12 (drop (12 * k) bytes) ≡ drop (12 * (k + 1)) bytes = drop-drop 12 (12 * k) bytes ∙ ap (λ i. drop i bytes) (omega arith) in
    let on : 3 * (k + 1) ≡ 3 * k + 3 = omega arith in
    ap₂ ◌∷◌
    (ap (λ i. arrival_at (words_of (take 12 (drop i bytes))) 0) start ∙
    arrival_local (words_of (take 12 (drop (4 * (3 * k)) bytes))) (words_of bytes) 0 (3 * k) (λ i b.
    word_of_part bytes (3 * k) 3 (0 + i) (omega arith) (omega arith) ∙ ap (λ j. get_or (words_of bytes) j 0) (omega arith)))
    (ap (λ b. map (λ e. arrival_at (words_of e) 0) (first_chunks 12 n b)) rest ∙
    arrivals_of_chunks bytes (k + 1) n (omega arith) ∙
    ap (λ i. table arrival_at 3 (words_of bytes) i n) on)

-- As many arrivals lead as there are chunks at the front whose first word is below the limit.
leading_chunks :
    (limit : ℕ) (entries : List (List ℕ)) →
    prefix_len (λ e. nat_lt (slice_index (words_of e) 0) limit) entries ≡ leading limit (map (λ e. arrival_at (words_of e) 0) entries)
unfolding leading arrival_at
leading_chunks limit [] = refl
leading_chunks limit (e ∷ entries) =
    let more : 1 + prefix_len (λ e. nat_lt (slice_index (words_of e) 0) limit) entries ≡
    suc (leading limit (map (λ e. arrival_at (words_of e) 0) entries)) = omega (arith, leading_chunks limit entries) in
    ap (λ n. cond (nat_lt (slice_index (words_of e) 0) limit) n 0) more

-- So many chunks lie between an entry and the boundary.
pub boundary_counts :
    (bytes : List ℕ) (chunks entries : List (List ℕ)) (from limit : ℕ) → chunks ≡ first_chunks 12 (length bytes / 12) bytes →
    entries ≡ drop from chunks →
    from + length (take_while (λ e. nat_lt (slice_index (words_of e) 0) limit) entries) ≡ boundary (arrivals_in bytes) from limit
unfolding boundary arrivals_in
boundary_counts bytes chunks entries from limit e f =
    let n = length bytes / 12 in
    let start : 3 * 0 ≡ 0 = omega arith in
    ap (λ k. from + k)
    (length-prefix_len (λ e. nat_lt (slice_index (words_of e) 0) limit) entries ∙
    leading_chunks limit entries ∙
    ap (leading limit)
    (ap (map (λ e. arrival_at (words_of e) 0)) f ∙
    sym (drop-map (λ e. arrival_at (words_of e) 0) from chunks) ∙
    ap (drop from)
    (ap (map (λ e. arrival_at (words_of e) 0)) e ∙
    arrivals_of_chunks bytes 0 n (omega arith) ∙
    ap (λ i. table arrival_at 3 (words_of bytes) i n) start)))

module _ (bytes : List ℕ) (from slot : ℕ) (inside : from ≤ length bytes / 12) where
  -- The stretch holds the entries from its start up to its end.
  pub stretch_entries :
      arrivals_in (stretch_of bytes from slot) ≡
      take (stretch_end bytes from slot - stretch_start bytes from slot) (drop (stretch_start bytes from slot) (arrivals_in bytes))
  unfolding stretch_of
  stretch_entries =
      let l = lies bytes from slot inside in
      arrivals_of_part bytes (stretch_start bytes from slot) (stretch_end bytes from slot - stretch_start bytes from slot) (omega arith)

-- Where no slot falls, and no more is passed over than what is before the slot:
module _ (bytes : List ℕ) (from slot : ℕ) (before : from ≤ leading slot (arrivals_in bytes)) where
  -- The entry that the stretch is looked for from lies in the table.
  inside : from ≤ length bytes / 12
  inside = omega (arith, leading_within slot (arrivals_in bytes), length_arrivals_in bytes)

  -- The stretch starts behind all arrivals before the slot.
  starts : stretch_start bytes from slot ≡ leading slot (arrivals_in bytes)
  unfolding stretch_start boundary
  starts = leading_passed slot from (arrivals_in bytes) before

  -- The stretch ends behind all arrivals before the next slot.
  ends : stretch_end bytes from slot ≡ leading (slot + 1) (arrivals_in bytes)
  unfolding stretch_end boundary
  ends =
      ap (λ k. k + leading (slot + 1) (drop k (arrivals_in bytes))) starts ∙ leading_next slot (arrivals_in bytes)

  -- "The arrivals of one slot are handed back": all of them and nothing else.
  pub stretch_holds :
      never_falling_from 0 (arrivals_in bytes) ≡ true → arrivals_in (stretch_of bytes from slot) ≡ arrivals_of slot (arrivals_in bytes)
  stretch_holds e =
      let l = arrivals_in bytes in
      let some : leading (slot + 1) l - leading slot l ≡ leading (slot + 1) (drop (leading slot l) l) =
      omega (arith, leading_next slot l) in
      stretch_entries bytes from slot inside ∙
      ap₂ (λ x y. take (y - x) (drop x l)) starts ends ∙
      ap (λ n. take n (drop (leading slot l) l)) some ∙
      sym (slot_together slot 0 l e)

  -- Who has passed over all that is before the slot and adds the stretch has passed over all that is before the next slot.
  pub walk_on :
      from ≡ leading slot (arrivals_in bytes) →
      from + length (stretch_of bytes from slot) / 12 ≡ leading (slot + 1) (arrivals_in bytes)
  walk_on e =
      let l = length_stretch bytes from slot inside in
      omega (arith, starts, ends, leading_next slot (arrivals_in bytes))

-- The walk starts with nothing passed over.
pub walk_starts : (bytes : List ℕ) → 0 ≡ leading 0 (arrivals_in bytes)
walk_starts bytes = sym (leading_none (arrivals_in bytes))
