-- The rest of a run from a box on, as lines, without a bound on its slots: what a program that runs slot after slot prints.
use Prim.Native.Nat.{ℕ, zero, suc, ◌+◌, ◌-◌, ◌≤◌, ◌<◌}
use mathlib.Core.Path.{◌≡◌, refl, sym, ap, ◌∙◌}
use mathlib.Core.Bool.{true, false}
use mathlib.Core.List.{List, [], ◌∷◌, ◌++◌, append_assoc}
use native.Mathlib.Omega.{arith}
use lib.ListN.{length}
use Rattle.laws.specs.Lists.{Placed, placed_from}
use Rattle.meaning.specs.declared.Stepped.{Stepped}
use Rattle.meaning.specs.Box.{Box}
use Rattle.meaning.specs.Answers.{refusal_number, refusal, stepped}
use Rattle.meaning.specs.Calls.{new_box}
use Rattle.meaning.specs.Step.{step_answer, moved, after_step}
use Rattle.meaning.specs.declared.Arrival.{Arrival}
use Rattle.meaning.specs.Plan.{Plan}
use Rattle.meaning.specs.Run.{stopped, admit_all, offer_all, departures, finished}
use Rattle.meaning.specs.Run.{phase, slots, slots_enough, open_run}
use Rattle.meaning.specs.Rest.{potential, due_now, rest_of, after_answer}
use Rattle.meaning.proofs.Readings.{refused_phase}
use Rattle.meaning.proofs.SlotsEnough.{falls, enough, start_potential, new_weight, admissions_weight}
use Rattle.std.proofs.Common.{Result, Ok, Err}
use Rattle.meaning.specs.declared.Refusal.{Refusal}
use Rattle.meaning.specs.declared.Line.{Line}

-- Of a run that is finished only the END line is left.
pub rest_ended : (l : List (Placed Arrival)) (numbers : List ℕ) (box : Box) (departed : ℕ) → finished l box ≡ true
    → rest_of l numbers box departed ≡ Line.End box.counter box.accepted departed ∷ []
unfolding rest_of slots phase
rest_ended l numbers box departed e = rw e refl

-- Fewer slots are enough after a step.
rest_from : (n d : ℕ) (l : List (Placed Arrival)) (numbers : List ℕ) (box : Box) → potential l box < n
    → slots n (phase l box 0) l numbers box d ≡ rest_of l numbers box d
unfolding rest_of
rest_from n d l numbers box h =
    let e : suc (potential l box) + (n - suc (potential l box)) ≡ n = omega arith in
    sym (ap (λ k. slots k (phase l box 0) l numbers box d) e) ∙
    enough (suc (potential l box)) (n - suc (potential l box)) l numbers box d (omega arith)

-- A run that has stopped prints the STOP line and nothing more.
stop_line_lem : (n answer : ℕ) (l : List (Placed Arrival)) (numbers : List ℕ) (box : Box) (d : ℕ) → 1 ≤ n
    → slots n (stopped answer) l numbers box d ≡ Line.Stop answer ∷ []
unfolding slots
stop_line_lem zero answer l numbers box d h = absurd (let z = h in omega arith)
stop_line_lem (suc n) answer l numbers box d h = refl

-- The lines after the offers of a slot, for whatever the step answers.
answered : (n : ℕ) (l : List (Placed Arrival)) (numbers : List ℕ) (box : Box) (departed : ℕ) (answer : Result Stepped Refusal)
    → suc (potential l (moved box)) ≤ n
    → slots n (phase l (after_step box answer) (stepped answer).number) l numbers (after_step box answer)
    (departed + length (departures numbers answer))
    ≡ after_answer l numbers box departed answer
unfolding after_step stepped refusal departures after_answer phase
answered n l numbers box departed (Ok Stepped.Idle) h =
    let z : departed + 0 ≡ departed = omega arith in
    ap (λ d. slots n (phase l (moved box) 0) l numbers (moved box) d) z ∙ rest_from n departed l numbers (moved box) h
answered n l numbers box departed (Ok (Stepped.Sending serial left)) h =
    let z : departed + 0 ≡ departed = omega arith in
    ap (λ d. slots n (phase l (moved box) 0) l numbers (moved box) d) z ∙ rest_from n departed l numbers (moved box) h
answered n l numbers box departed (Ok (Stepped.Departed serial connection arrival departure)) h =
    rest_from n (departed + 1) l numbers (moved box) h
answered n l numbers box departed (Err why) h =
    rw (refused_phase l box why) (stop_line_lem n (refusal_number why) l numbers box (departed + 0) (omega arith))

-- One slot of a run that goes on: the lines of its offers, that of a departure, and the rest.
pub rest_goes_on : (l : List (Placed Arrival)) (numbers : List ℕ) (box : Box) (departed : ℕ) → finished l box ≡ false
    → rest_of l numbers box departed
    ≡ (offer_all numbers (due_now l box) box).lines ++
    (departures numbers (step_answer (offer_all numbers (due_now l box) box).box) ++
    after_answer l numbers (offer_all numbers (due_now l box) box).box departed (step_answer (offer_all numbers (due_now l box) box).box))
unfolding rest_of slots phase
rest_goes_on l numbers box departed e =
    let offers = offer_all numbers (due_now l box) box in
    let answer = step_answer offers.box in
    let out = departures numbers answer in
    rw e
    (append_assoc offers.lines out _ ∙
    ap (λ (m : List Line). offers.lines ++ (out ++ m))
    (answered (potential l box) l numbers offers.box departed answer (falls numbers l box e)))

-- The potential falls over a slot, so that a run ends.
pub slot_falls : (l : List (Placed Arrival)) (numbers : List ℕ) (box : Box) → finished l box ≡ false
    → potential l (moved (offer_all numbers (due_now l box) box).box) < potential l box
slot_falls l numbers box e = falls numbers l box e

-- The whole run is the lines of the admissions and the rest from there on.
pub open_run_lem : (plan : Plan)
    → (let admissions = admit_all 1 plan.connections (new_box plan.settings) in
    open_run plan ≡ admissions.lines ++ rest_of (placed_from 1 plan.arrivals) admissions.numbers admissions.box 0)
unfolding open_run new_box
open_run_lem plan =
    let start = new_box plan.settings in
    let admissions = admit_all 1 plan.connections start in
    let l = placed_from 1 plan.arrivals in
    let w = admissions_weight 1 plan.connections start in
    ap (λ (m : List Line). admissions.lines ++ m)
    (rest_from (slots_enough l) 0 l admissions.numbers admissions.box
    (start_potential l admissions.box w.0 (w.1 ∙ new_weight plan.settings)))
