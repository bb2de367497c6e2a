-- What a step's answer prints, and how the run goes on after it.
use Prim.Native.Nat.{ℕ, ◌+◌, ◌≤◌}
use mathlib.Core.Path.{◌≡◌, refl, sym, ap, ◌∙◌, subst}
use mathlib.Core.List.{List, [], ◌∷◌}
use native.Mathlib.Omega.{arith}
use lib.ListN.{length}
use Rattle.laws.specs.Lists.{Placed}
use Rattle.meaning.specs.declared.Stepped.{Stepped}
use Rattle.meaning.specs.Box.{Box}
use Rattle.meaning.specs.Answers.{refusal, refusal_number, stepped}
use Rattle.meaning.specs.Step.{moved, after_step}
use Rattle.meaning.specs.declared.Arrival.{Arrival}
use Rattle.meaning.specs.Run.{place_of, departures}
use Rattle.meaning.specs.Lines.{line_text, text_of}
use Rattle.meaning.specs.Rest.{rest_of, after_answer}
use Rattle.meaning.proofs.Readings.{refusal_range}
use Rattle.lines.specs.Put.{Put}
use Rattle.lines.proofs.Reached.{put_none, text_one, text_none}
use Rattle.std.proofs.Common.{Result, Ok, Err}
use Rattle.meaning.specs.declared.Refusal.{Refusal}
use Rattle.meaning.specs.declared.Line.{Line}

-- The text of a step at which a packet departs is its DEPART line.
pub departed_line : (numbers : List ℕ) (answer : Result Stepped Refusal) (serial connection arrival departure place : ℕ)
    → answer ≡ Ok (Stepped.Departed serial connection arrival departure)
    → place ≡ place_of 1 numbers connection → text_of (departures numbers answer) ≡ line_text (Line.Depart serial place arrival departure)
unfolding departures
departed_line numbers answer serial connection arrival departure place e p =
    ap (λ a. text_of (departures numbers a)) e ∙ text_one (Line.Depart serial (place_of 1 numbers connection) arrival departure) ∙
    ap (λ q. line_text (Line.Depart serial q arrival departure)) (sym p)

-- A step without a line leaves the buffer as it is.
pub no_line : (numbers : List ℕ) (answer : Result Stepped Refusal) (out : List ℕ) (at : ℕ) → departures numbers answer ≡ []
    → Put out out at (text_of (departures numbers answer)) at
no_line numbers answer out at e = subst (λ l. Put out out at l at) (sym (ap text_of e ∙ text_none)) (put_none out at)

-- One departure or none, whatever the numbers.
pub departed_same : (numbers : List ℕ) (answer : Result Stepped Refusal) → length (departures [] answer) ≡ length (departures numbers answer)
unfolding departures
departed_same numbers (Ok Stepped.Idle) = refl
departed_same numbers (Ok (Stepped.Sending serial left)) = refl
departed_same numbers (Ok (Stepped.Departed serial connection arrival departure)) = refl
departed_same numbers (Err why) = refl

-- A step prints at most one line.
pub departed_most : (numbers : List ℕ) (answer : Result Stepped Refusal) → length (departures numbers answer) ≤ 1
unfolding departures
departed_most numbers (Ok Stepped.Idle) = omega arith
departed_most numbers (Ok (Stepped.Sending serial left)) = omega arith
departed_most numbers (Ok (Stepped.Departed serial connection arrival departure)) = omega arith
departed_most numbers (Err why) = omega arith

module _ (l : List (Placed Arrival)) (numbers : List ℕ) (box : Box) (departed : ℕ) where
  -- Adding 0 to the count of departed packets leaves the rest of the run.
  same_departed : rest_of l numbers (moved box) departed ≡ rest_of l numbers (moved box) (departed + 0)
  same_departed = let e : departed ≡ departed + 0 = omega arith in ap (rest_of l numbers (moved box)) e

  -- After a refused step only its STOP line is left.
  pub after_stop : (why : Refusal) → after_answer l numbers box departed (Err why) ≡ Line.Stop (refusal_number why) ∷ []
  unfolding after_answer
  after_stop why = refl

  -- After any other step the run goes on from the box after it.
  pub after_on_lem : (answer : Result Stepped Refusal) → (stepped answer).number ≡ 0
      → after_answer l numbers box departed answer ≡ rest_of l numbers (after_step box answer) (departed + length (departures numbers answer))
  unfolding stepped refusal after_answer after_step departures
  after_on_lem (Ok Stepped.Idle) h = same_departed
  after_on_lem (Ok (Stepped.Sending serial left)) h = same_departed
  after_on_lem (Ok (Stepped.Departed serial connection arrival departure)) h = refl
  after_on_lem (Err why) h = absurd (let r = (refusal_range why).0 in omega (arith, h, r))

-- A step that is not refused has the number 0.
pub not_refused : (answer : Result Stepped Refusal) → ((why : Refusal) → answer ≡ Err why → ⊥) → (stepped answer).number ≡ 0
unfolding stepped
not_refused (Ok Stepped.Idle) h = refl
not_refused (Ok (Stepped.Sending serial left)) h = refl
not_refused (Ok (Stepped.Departed serial connection arrival departure)) h = refl
not_refused (Err why) h = absurd (h why refl)

-- After a step that is not refused the box has moved.
pub after_moved : (box : Box) (answer : Result Stepped Refusal) → (stepped answer).number ≡ 0 → after_step box answer ≡ moved box
unfolding stepped refusal after_step
after_moved box (Ok Stepped.Idle) h = refl
after_moved box (Ok (Stepped.Sending serial left)) h = refl
after_moved box (Ok (Stepped.Departed serial connection arrival departure)) h = refl
after_moved box (Err why) h = absurd (let r = (refusal_range why).0 in omega (arith, h, r))
