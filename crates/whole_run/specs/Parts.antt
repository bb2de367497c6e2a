-- The parts of a whole run, as the functions that print them have them: tables and stretches in bytes, the box in words.
use Rattle.std.specs.Prelude.{ℕ, suc, ◌/◌, ◌≤◌, ◌≡◌, true, List, ◌++◌, length, take, leb, Result}
use Rattle.laws.specs.Tests.{every}
use Rattle.laws.specs.Lists.{Placed, placed_from}
use Rattle.meaning.specs.declared.Stepped.{Stepped}
use Rattle.meaning.specs.declared.Connection.{Connection}
use Rattle.meaning.specs.Box.{Box}
use Rattle.meaning.specs.Step.{step_answer, after_step}
use Rattle.meaning.specs.declared.Arrival.{Arrival}
use Rattle.meaning.specs.Plan.{words_of, table, connection_at, never_falling_from, last_arrival_slot}
use Rattle.meaning.specs.Run.{AfterAdmissions, AfterOffers, admit_all, offer_all, departures}
use Rattle.meaning.specs.Lines.{text_of}
use Rattle.meaning.specs.Rest.{potential, due_now, rest_of}
use Rattle.words.specs.Contents.{contents}
use Rattle.plan.specs.Parts.{arrivals_in, leading}
use Rattle.lines.specs.Put.{Put}
use Rattle.whole_run.specs.declared.slots.Slot.{Slot}
use Rattle.meaning.specs.declared.Refusal.{Refusal}
use Rattle.meaning.specs.declared.Line.{Line}

-- The connections of a table of bytes: sixteen bytes each.
unfoldable pub connections_in : List ℕ → List Connection
connections_in bytes = table connection_at 4 (words_of bytes) 0 (length bytes / 16)

-- All admissions of a connection table.
abbrev pub admissions_of : List ℕ → Box → AfterAdmissions
admissions_of bytes box = admit_all 1 (connections_in bytes) box

-- These admissions are printed at the start of the buffer, their numbers stand first, and the words stand for the box after them.
pub record Admits (after : AfterAdmissions) (count : ℕ) (ws numbers before out : List ℕ) (at : ℕ) : Type 0 where
  pub text : Put before out 0 (text_of after.lines) at
  pub numbers_are : take count numbers ≡ after.numbers
  pub stand_for : contents ws ≡ after.box

-- The offers of a stretch; `from` arrivals of the file come before it.
abbrev pub offers_of : List ℕ → List ℕ → ℕ → Box → AfterOffers
offers_of numbers due from box = offer_all numbers (placed_from (suc from) (arrivals_in due)) box

-- These offers are printed from `start` on, and the words stand for the box after them.
pub record Offers (after : AfterOffers) (ws before out : List ℕ) (start at : ℕ) : Type 0 where
  pub text : Put before out start (text_of after.lines) at
  pub stand_for : contents ws ≡ after.box

-- The arrivals of a table with their places in the file.
abbrev pub arrivals_placed : List ℕ → List (Placed Arrival)
arrivals_placed bytes = placed_from 1 (arrivals_in bytes)

-- The slots of the table never fall, none exceeds 1,000,000, and it is no longer than a plan's.
pub record Sorted (bytes : List ℕ) : Type 0 where
  pub never_falling : never_falling_from 0 (arrivals_in bytes) ≡ true
  pub none_exceeds : every (λ a. leb a.slot last_arrival_slot) (arrivals_in bytes) ≡ true
  pub entries_most : length bytes / 12 ≤ 4096

-- So many arrivals are passed: those before the slot to which the counter points.
abbrev pub Walked : List ℕ → Box → ℕ → Type 0
Walked bytes box passed = passed ≡ leading box.counter (arrivals_in bytes)

-- The offers of the slot to which the counter points, and the answer of its step.
abbrev pub offers_now : List ℕ → List ℕ → Box → AfterOffers
offers_now numbers bytes box = offer_all numbers (due_now (arrivals_placed bytes) box) box

-- The answer of the step of the slot to which the counter points.
abbrev pub answer_now : List ℕ → List ℕ → Box → Result Stepped Refusal
answer_now numbers bytes box = step_answer (offers_now numbers bytes box).box

-- The lines of that slot.
abbrev pub lines_of_slot : List ℕ → List ℕ → Box → List Line
lines_of_slot numbers bytes box = (offers_now numbers bytes box).lines ++ departures numbers (answer_now numbers bytes box)

-- The box after it.
abbrev pub box_after_slot : List ℕ → List ℕ → Box → Box
box_after_slot numbers bytes box = after_step (offers_now numbers bytes box).box (answer_now numbers bytes box)

-- A slot is run: its lines are printed from `start` on, and the words stand for the box after it.
pub record RunsSlot (r : Slot) (numbers bytes : List ℕ) (box : Box) (ws before out : List ℕ) (start : ℕ) : Type 0 where
  pub text : Put before out start (text_of (lines_of_slot numbers bytes box)) r.at
  pub passes : r.passed ≡ leading (suc box.counter) (arrivals_in bytes)
  pub answer_is : r.answer ≡ answer_now numbers bytes box
  pub stand_for : contents ws ≡ box_after_slot numbers bytes box

-- Idle slots are passed, perhaps none: the words stand for a box before a later slot, from which the rest of the run has the same lines.
pub record PassesIdle (bytes : List ℕ) (passed : ℕ) (box : Box) (ws : List ℕ) : Type 0 where
  pub walked : Walked bytes (contents ws) passed
  pub later : box.counter ≤ (contents ws).counter
  pub same_rest : (numbers : List ℕ) (departed : ℕ)
      → rest_of (arrivals_placed bytes) numbers box departed ≡ rest_of (arrivals_placed bytes) numbers (contents ws) departed
  pub no_more : potential (arrivals_placed bytes) (contents ws) ≤ potential (arrivals_placed bytes) box

-- The rest of the run from this box on, with nothing departed before.
abbrev pub rest_of_run : List ℕ → List ℕ → Box → List Line
rest_of_run numbers bytes box = rest_of (arrivals_placed bytes) numbers box 0
