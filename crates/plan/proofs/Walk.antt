-- The walk over the slots of a plan that reads well: each stretch is exactly the arrivals of its slot in the contents.
use Rattle.std.proofs.Common.{◌≡◌, ℕ, ◌+◌, ◌/◌, ◌≤◌, List, length, refl, ap, ◌∙◌, le_refl}
use Rattle.meaning.specs.declared.Header.{Header}
use Rattle.meaning.specs.Plan.{words_of, contents_of, arrivals_of}
use Rattle.plan.specs.Parts.{part_of, arrivals_in, leading, stretch_of}
use Rattle.plan.proofs.Stretch.{stretch_holds, walk_on, walk_starts}
use Rattle.plan.specs.Readable.{Readable}
use Rattle.plan.proofs.Good.{arrivals_hold, never_falling}

-- How many arrivals of a plan's contents are before a slot.
abbrev earlier : List ℕ → Header → ℕ → ℕ
earlier bytes h slot = leading slot (contents_of (words_of bytes) h).arrivals

module _ (bytes : List ℕ) (h : Header) (r : Readable bytes h) where
  -- The stretch of a slot holds its arrivals, wherever it is looked for from among those before the slot.
  pub stretch_of_plan :
      (from slot : ℕ) → from ≤ earlier bytes h slot →
      arrivals_in (stretch_of (part_of bytes h.arrivals 12) from slot) ≡ arrivals_of slot (contents_of (words_of bytes) h).arrivals
  stretch_of_plan from slot before =
      let same = arrivals_hold bytes h r in
      stretch_holds (part_of bytes h.arrivals 12) from slot (rw same before) (never_falling bytes h r) ∙ ap (arrivals_of slot) same

  -- The walk starts with no arrival passed over.
  pub walk_of_plan_starts : 0 ≡ earlier bytes h 0
  walk_of_plan_starts = walk_starts (part_of bytes h.arrivals 12) ∙ ap (leading 0) (arrivals_hold bytes h r)

  -- The walk goes on by the number of entries of each stretch: all that is before the next slot is passed over.
  pub walk_of_plan_on :
      (slot : ℕ) →
      earlier bytes h slot + length (stretch_of (part_of bytes h.arrivals 12) (earlier bytes h slot) slot) / 12 ≡
      earlier bytes h (slot + 1)
  walk_of_plan_on slot =
      let part = part_of bytes h.arrivals 12 in
      rw (← arrivals_hold bytes h r) (walk_on part (leading slot (arrivals_in part)) slot (le_refl _) refl)
