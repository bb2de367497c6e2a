-- Where a boundary and the stretch of a slot lie in the arrival table.
use Rattle.std.specs.Prelude.{◌≡◌, ℕ, suc, ◌+◌, ◌-◌, ◌*◌, ◌/◌, ◌≤◌, Bool, true, false, cond, List, [], ◌∷◌, length, drop, nat_lt}
use Rattle.std.proofs.Common.{arith, length-take, length-drop}
use Rattle.meaning.specs.declared.Arrival.{Arrival}
use Rattle.meaning.specs.Plan.{words_of, arrival_at}
use Rattle.plan.specs.Entries.{length_table}
use Rattle.plan.specs.Parts.{arrivals_in, leading, boundary, stretch_start, stretch_end, stretch_of}

-- No more arrivals lead than there are.
pub leading_within : (limit : ℕ) (l : List Arrival) → leading limit l ≤ length l
unfolding leading
leading_within limit [] = omega arith
leading_within limit (a ∷ l) = by (nat_lt a.slot limit) (leading_within limit l)
  where
    by : (b : Bool) → leading limit l ≤ length l → cond b (suc (leading limit l)) 0 ≤ suc (length l)
    by true h = omega arith
    by false h = omega arith

-- Bytes hold a twelfth of their number as arrivals.
pub length_arrivals_in : (bytes : List ℕ) → length (arrivals_in bytes) ≡ length bytes / 12
unfolding arrivals_in
length_arrivals_in bytes = length_table arrival_at 3 (words_of bytes) 0 (length bytes / 12)

-- A boundary is not before the entry that it is looked for from, nor behind the last entry.
pub boundary_within :
    (bytes : List ℕ) (from limit : ℕ) → from ≤ length bytes / 12 →
    (from ≤ boundary (arrivals_in bytes) from limit) × (boundary (arrivals_in bytes) from limit ≤ length bytes / 12)
unfolding boundary
boundary_within bytes from limit h =
    let l = arrivals_in bytes in
    (omega arith, omega (arith, leading_within limit (drop from l), length-drop from l, length_arrivals_in bytes))

module _ (bytes : List ℕ) (from slot : ℕ) (inside : from ≤ length bytes / 12) where
  -- The stretch starts at `from` or behind it, and ends within the table.
  pub lies :
      (from ≤ stretch_start bytes from slot) ×
      (stretch_start bytes from slot ≤ stretch_end bytes from slot) ×
      (stretch_end bytes from slot ≤ length bytes / 12)
  unfolding stretch_start stretch_end
  lies =
      let first = boundary_within bytes from slot inside in
      let after = boundary_within bytes (boundary (arrivals_in bytes) from slot) (slot + 1) first.1 in
      (first.0, after.0, after.1)

  -- The stretch holds whole entries.
  pub length_stretch : length (stretch_of bytes from slot) ≡ 12 * (stretch_end bytes from slot - stretch_start bytes from slot)
  unfolding stretch_of
  length_stretch = let l = lies in simp (length-take, length-drop) (omega arith)

  -- Who adds the number of its entries to `from` stays within the table.
  pub stretch_within : from + length (stretch_of bytes from slot) / 12 ≤ length bytes / 12
  stretch_within = let l = lies in omega (arith, length_stretch)
