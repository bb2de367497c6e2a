-- Document 01, "The program and one whole run": from a plan to the lines that the program prints, as values.
use Rattle.std.specs.Prelude.{ℕ, zero, suc, ◌+◌, ◌-◌, Bool, cond, ◌&&◌, List, [], ◌∷◌, ◌++◌, length, get_or, ltb, eqb, Result, Ok, Err}
use Rattle.laws.specs.Tests.{within, every}
use Rattle.laws.specs.Lists.{Placed, keep, placed_from}
use Rattle.laws.specs.Sums.{sum_of, largest_of}
use Rattle.meaning.specs.declared.Stepped.{Stepped}
use Rattle.meaning.specs.declared.Connection.{Connection}
use Rattle.meaning.specs.Box.{Box, packets}
use Rattle.meaning.specs.Answers.{refusal_number, admitted, offered, stepped}
use Rattle.meaning.specs.Calls.{new_box, opening_answer, admission_answer, after_admission, offer_answer, after_offer}
use Rattle.meaning.specs.Step.{step_answer, after_step}
use Rattle.meaning.specs.declared.Arrival.{Arrival}
use Rattle.meaning.specs.Plan.{Plan, words_of, contents_of, reading_answer}
use Rattle.meaning.specs.declared.Refusal.{Refusal}
use Rattle.meaning.specs.declared.Line.{Line}
use Rattle.meaning.specs.declared.Header.{Header}

-- "`ADMIT` place, answer, t. `OFFER` arrival place, answer, serial or 0. `DEPART` serial, connection's place, arrival, departure.
-- `END` counter, accepted, departed." "`REFUSED` and the number"; "`STOP` and the number".

-- After the admissions: their lines, the number of each place of the file (0 for one that was refused), and the box.
pub record AfterAdmissions : Type 0 where
  pub lines : List Line
  pub numbers : List ℕ
  pub box : Box

-- The line of an admission.
unfoldable pub line_of_admission : ℕ → Result ℕ Refusal → Line
line_of_admission place answer = Line.Admit place (admitted answer).number (get_or (admitted answer).fields 1 0)

-- "admits in file order": the connections from this place on.
unfoldable pub admit_all : ℕ → List Connection → Box → AfterAdmissions
admit_all place [] box = record { lines = []; numbers = []; box = box }
admit_all place (c ∷ cs) box =
    let answer = admission_answer box c in
    let rest = admit_all (suc place) cs (after_admission box c answer) in
    record {
      lines = line_of_admission place answer ∷ rest.lines;
      numbers = get_or (admitted answer).fields 0 0 ∷ rest.numbers;
      box = rest.box;
    }

-- "Arrivals name connections by place in the file, counted from 1; those of a refused connection or of no place get 7": 0 names none.
unfoldable pub number_of : List ℕ → ℕ → ℕ
number_of numbers place = cond (within 1 place (length numbers)) (get_or numbers (place - 1) 0) 0

-- The place in the file of the connection of this number, the places counted from `place`.
unfoldable pub place_of : ℕ → List ℕ → ℕ → ℕ
place_of place [] n = 0
place_of place (m ∷ numbers) n = cond (eqb m n) place (place_of (suc place) numbers n)

-- After the offers of a slot: their lines and the box.
pub record AfterOffers : Type 0 where
  pub lines : List Line
  pub box : Box

-- "offers that slot's arrivals", in order.
unfoldable pub offer_all : List ℕ → List (Placed Arrival) → Box → AfterOffers
offer_all numbers [] box = record { lines = []; box = box }
offer_all numbers (a ∷ rest) box =
    let n = number_of numbers a.entry.place in
    let answer = offer_answer box n a.entry.units in
    let after = offer_all numbers rest (after_offer box n a.entry.units answer) in
    record {
      lines = Line.Offer a.place (offered answer).number (get_or (offered answer).fields 0 0) ∷ after.lines;
      box = after.box;
    }

-- The line of a step, if it has one: that of a departure.
unfoldable pub departures : List ℕ → Result Stepped Refusal → List Line
departures numbers (Ok Stepped.Idle) = []
departures numbers (Ok (Stepped.Sending serial left)) = []
departures numbers (Ok (Stepped.Departed serial connection arrival departure)) =
    Line.Depart serial (place_of 1 numbers connection) arrival departure ∷ []
departures numbers (Err why) = []

-- How a run stands before a slot: it goes on, it is at its end, or a step was refused with this number.
pub data Phase : Type 0 where
  going : Phase
  ended : Phase
  stopped : ℕ → Phase

-- "until no arrivals remain and the box is empty, which is tested before each slot".
unfoldable pub finished : List (Placed Arrival) → Box → Bool
finished arrivals box = every (λ a. ltb a.entry.slot box.counter) arrivals && eqb (length (packets box)) 0

-- How the run stands before a slot, after a step whose answer had this number.
unfoldable pub phase : List (Placed Arrival) → Box → ℕ → Phase
phase arrivals box zero = cond (finished arrivals box) ended going
phase arrivals box (suc n) = stopped (suc n)

-- "then for each slot offers that slot's arrivals and steps"; "a refused step prints `STOP` and the number and ends the run without
-- `END`". The first number bounds the slots: `slots_enough` is enough of them.
unfoldable pub slots : ℕ → Phase → List (Placed Arrival) → List ℕ → Box → ℕ → List Line
slots zero now arrivals numbers box departed = []
slots (suc n) (stopped answer) arrivals numbers box departed = Line.Stop answer ∷ []
slots (suc n) ended arrivals numbers box departed = Line.End box.counter box.accepted departed ∷ []
slots (suc n) going arrivals numbers box departed =
    let after = offer_all numbers (keep (λ a. eqb a.entry.slot box.counter) arrivals) box in
    let answer = step_answer after.box in
    let next = after_step after.box answer in
    let out = departures numbers answer in
    after.lines ++
    out ++
    slots n (phase arrivals next (stepped answer).number) arrivals numbers next (departed + length out)

-- Each slot of a run ends with one arrival slot fewer to come or with less to send, a packet counting for its units and one more.
unfoldable pub slots_enough : List (Placed Arrival) → ℕ
slots_enough arrivals =
    suc (suc (largest_of (λ a. a.entry.slot) arrivals + sum_of (λ a. suc a.entry.units) arrivals))

-- The whole run of a plan's contents, once the box is open.
unfoldable pub open_run : Plan → List Line
open_run plan =
    let admissions = admit_all 1 plan.connections (new_box plan.settings) in
    let arrivals = placed_from 1 plan.arrivals in
    admissions.lines ++
    slots (slots_enough arrivals) (phase arrivals admissions.box 0) arrivals admissions.numbers admissions.box 0

-- "opens a box": the program lends as many words as a box takes, so only 2 can be answered.
unfoldable pub plan_run : Plan → Result Unit Refusal → List Line
plan_run plan (Ok tt) = open_run plan
plan_run plan (Err why) = Line.Refused (refusal_number why) ∷ []

-- "A plan refused by reading or opening prints only `REFUSED` and the number."
unfoldable pub read_run : List ℕ → Result Header Refusal → List Line
read_run bytes (Ok h) =
    let plan = contents_of (words_of bytes) h in
    plan_run plan (opening_answer 0 0 plan.settings)
read_run bytes (Err why) = Line.Refused (refusal_number why) ∷ []

-- "It reads a plan on standard input": the lines for these bytes.
unfoldable pub run : List ℕ → List Line
run bytes = read_run bytes (reading_answer bytes)
