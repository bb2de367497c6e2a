-- The slots of a run one after another: what is left of it before each of them.
use Prim.Native.Nat.{ℕ, suc, ◌+◌, ◌≤◌, ◌<◌}
use mathlib.Core.Path.{◌≡◌, refl, sym, ap, ◌∙◌, subst}
use mathlib.Core.Bool.{true, false}
use mathlib.Core.List.{List, [], ◌∷◌, ◌++◌, append_assoc}
use native.Mathlib.Omega.{arith}
use lib.ListN.{length}
use Rattle.laws.specs.Lists.{Placed}
use Rattle.meaning.specs.Numbers.{last_slot}
use Rattle.meaning.specs.Box.{Box}
use Rattle.meaning.specs.Answers.{refusal_number, stepped}
use Rattle.meaning.specs.Calls.{offer_answer, after_offer}
use Rattle.meaning.specs.Step.{moved}
use Rattle.meaning.specs.declared.Arrival.{Arrival}
use Rattle.meaning.specs.Run.{number_of, offer_all, departures, finished}
use Rattle.meaning.specs.Lines.{line_text, text_of}
use Rattle.meaning.specs.Rest.{potential, due_now, rest_of, after_answer}
use Rattle.meaning.proofs.OfferLines.{offer_counter}
use Rattle.meaning.proofs.StepLines.{moved_counter}
use Rattle.meaning.proofs.RestOfRun.{rest_ended, rest_goes_on, slot_falls}
use Rattle.words.specs.Contents.{contents}
use Rattle.plan.specs.Parts.{arrivals_in, leading}
use Rattle.plan.proofs.Stretch.{walk_starts}
use Rattle.lines.specs.Put.{Room, Put}
use Rattle.whole_run.specs.declared.slots.Slot.{Slot}
use Rattle.whole_run.specs.Parts.{RunsSlot, PassesIdle, Walked, arrivals_placed, offers_now, answer_now, lines_of_slot, rest_of_run}
use Rattle.lines.proofs.Reached.{Reached, reached_start, reached_as, reached_room, reached_next, reached_on, reached_last, text_one}
use Rattle.lines.proofs.Reached.{text_append}
use Rattle.whole_run.proofs.Stepping.{after_stop, after_on_lem, after_moved, departed_most, departed_same, not_refused}
use Rattle.std.proofs.Common.{Result, Err}
use Rattle.meaning.specs.declared.Line.{Line}
use Rattle.meaning.specs.declared.Refusal.{Refusal}
use Rattle.meaning.specs.declared.Stepped.{Stepped}

-- Offers do not move the counter.
offers_counter : (numbers : List ℕ) (l : List (Placed Arrival)) (box : Box) → (offer_all numbers l box).box.counter ≡ box.counter
unfolding offer_all
offers_counter numbers [] box = refl
offers_counter numbers (a ∷ l) box =
    let n = number_of numbers a.entry.place in
    let answer = offer_answer box n a.entry.units in
    offers_counter numbers l (after_offer box n a.entry.units answer) ∙ offer_counter box n a.entry.units answer

-- Some slots are run: the words stand for the box before the next one, and the rest of the run is still to be printed.
pub record Going (numbers bytes : List ℕ) (box : Box) (ws before out : List ℕ) (start at passed departed : ℕ) : Type 0 where
  pub walked : Walked bytes (contents ws) passed
  pub few : departed ≤ (contents ws).counter
  pub reached :
      Reached before out start (text_of (rest_of_run numbers bytes box))
      (text_of (rest_of (arrivals_placed bytes) numbers (contents ws) departed)) at

-- Before the first slot the whole rest of the run is still to be printed.
pub going_start : (numbers bytes ws out : List ℕ) (start : ℕ) → (contents ws).counter ≡ 0
    → Going numbers bytes (contents ws) ws out out start start 0 0
going_start numbers bytes ws out start z =
    record {
      walked = walk_starts bytes ∙ ap (λ n. leading n (arrivals_in bytes)) (sym z);
      few = omega arith;
      reached = reached_start out start (text_of (rest_of_run numbers bytes (contents ws)));
    }

-- Idle slots are passed: the rest of the run is the same.
pub going_later :
    {numbers bytes : List ℕ} {box : Box} {ws before out : List ℕ} {start at passed departed : ℕ} {after : List ℕ}
    → Going numbers bytes box ws before out start at passed departed
    → PassesIdle bytes passed (contents ws) after → Going numbers bytes box after before out start at passed departed
going_later {numbers} {departed = departed} g p =
    record {
      walked = p.walked;
      few = omega (arith, g.few, p.later);
      reached = reached_as _ (ap text_of (p.same_rest numbers departed)) g.reached;
    }

module _ {numbers bytes : List ℕ} {box : Box} {ws before out : List ℕ} {start at passed departed : ℕ}
    (room : Room before start (text_of (rest_of_run numbers bytes box)))
    (g : Going numbers bytes box ws before out start at passed departed)
  where
    -- The arrivals with their places in the file.
    abbrev l : List (Placed Arrival)
    l = arrivals_placed bytes

    -- The box before the slot.
    abbrev now : Box
    now = contents ws

    -- the run is at its end: one line is left
    module _ (over : finished (arrivals_placed bytes) (contents ws) ≡ true) (counter accepted : ℕ) (c : counter ≡ (contents ws).counter)
        (a : accepted ≡ (contents ws).accepted)
      where
        -- Where the run is finished, its END line is all that is left.
        last_line : text_of (rest_of l numbers now departed) ≡ line_text (Line.End counter accepted departed)
        last_line =
            ap text_of (rest_ended l numbers now departed over) ∙ text_one (Line.End now.counter now.accepted departed) ∙
            ap (λ n. line_text (Line.End n now.accepted departed)) (sym c) ∙
            ap (λ n. line_text (Line.End counter n departed)) (sym a)

        -- Where the run is finished, the text has come to the END line.
        end_reached : Reached before out start (text_of (rest_of_run numbers bytes box)) (line_text (Line.End counter accepted departed)) at
        end_reached = reached_as _ last_line g.reached

        -- There is room for the END line.
        pub end_room : Room out at (line_text (Line.End counter accepted departed))
        end_room = reached_room room end_reached

        -- With the END line put, the whole rest of the run is put.
        pub end_put : {last : List ℕ} {next : ℕ} → Put out last at (line_text (Line.End counter accepted departed)) next
            → Put before last start (text_of (rest_of_run numbers bytes box)) next
        end_put p = reached_last room end_reached p

    -- the run goes on: the lines of a slot, and then what its step leaves
    module _ (on : finished (arrivals_placed bytes) (contents ws) ≡ false) where
      -- The lines that are left after those of the slot.
      abbrev left : List Line
      left = after_answer l numbers (offers_now numbers bytes now).box departed (answer_now numbers bytes now)

      -- What is left to print is the lines of the slot and those after them.
      slot_reached : Reached before out start (text_of (rest_of_run numbers bytes box))
          (text_of (lines_of_slot numbers bytes now) ++ text_of left) at
      slot_reached =
          reached_as _
          (ap text_of
          (rest_goes_on l numbers now departed on ∙
          sym (append_assoc (offers_now numbers bytes now).lines (departures numbers (answer_now numbers bytes now)) left)) ∙
          text_append (lines_of_slot numbers bytes now) left)
          g.reached

      -- There is room for the lines of the slot.
      pub slot_room : Room out at (text_of (lines_of_slot numbers bytes (contents ws)))
      slot_room = reached_next (text_of (lines_of_slot numbers bytes now)) (text_of left) room slot_reached

      module _ {r : Slot} {after printed : List ℕ} (s : RunsSlot r numbers bytes (contents ws) after out printed at) where
        -- Once the slot is run, what is left to print is the lines after it.
        left_reached : Reached before printed start (text_of (rest_of_run numbers bytes box)) (text_of left) r.at
        left_reached = reached_on (text_of (lines_of_slot numbers bytes now)) (text_of left) room slot_reached s.text

        -- its step was refused
        module _ (why : Refusal) (refused : r.answer ≡ Err why) (number : ℕ) (told : number ≡ refusal_number why) where
          -- After a refused step the text has come to the STOP line.
          stop_reached : Reached before printed start (text_of (rest_of_run numbers bytes box)) (line_text (Line.Stop number)) r.at
          stop_reached =
              reached_as _
              (ap text_of
              (ap (after_answer l numbers (offers_now numbers bytes now).box departed) (sym s.answer_is ∙ refused) ∙
              after_stop l numbers (offers_now numbers bytes now).box departed why) ∙
              text_one (Line.Stop (refusal_number why)) ∙
              ap (λ n. line_text (Line.Stop n)) (sym told))
              left_reached

          -- There is room for the STOP line.
          pub stop_room : Room printed r.at (line_text (Line.Stop number))
          stop_room = reached_room room stop_reached

          -- With the STOP line put, the whole rest of the run is put.
          pub stop_put : {last : List ℕ} {next : ℕ} → Put printed last r.at (line_text (Line.Stop number)) next
              → Put before last start (text_of (rest_of_run numbers bytes box)) next
          stop_put p = reached_last room stop_reached p

        -- its step was not refused
        module _ (fine : (why : Refusal) → r.answer ≡ Err why → ⊥) (more : ℕ) (departs : more ≡ length (departures [] r.answer)) where
          -- The answer of the slot's step has the number 0.
          number_zero : (stepped (answer_now numbers bytes now)).number ≡ 0
          number_zero = ap (λ (a : Result Stepped Refusal). (stepped a).number) (sym s.answer_is) ∙ not_refused r.answer fine

          -- The departed packets are those of its answer.
          departed_are : more ≡ length (departures numbers (answer_now numbers bytes now))
          departed_are =
              departs ∙ departed_same numbers r.answer ∙ ap (λ (a : Result Stepped Refusal). length (departures numbers a)) s.answer_is

          -- The words stand for the box that the step has moved.
          moves : contents after ≡ moved (offers_now numbers bytes now).box
          moves = s.stand_for ∙ after_moved (offers_now numbers bytes now).box (answer_now numbers bytes now) number_zero

          -- The counter is raised by one.
          counts : (contents after).counter ≡ suc now.counter
          counts =
              ap (λ (b : Box). b.counter) moves ∙ moved_counter (offers_now numbers bytes now).box ∙
              ap suc (offers_counter numbers (due_now l now) now)

          -- The departed packets are at most 4,000,000,001, so their count fits a word.
          pub departed_fits : (contents ws).counter ≤ last_slot → departed + more ≤ 4000000001
          departed_fits c =
              let m = departed_most numbers (answer_now numbers bytes now) in
              omega (arith, c, m, g.few, departed_are)

          -- After the slot less is left to do.
          pub falls : potential (arrivals_placed bytes) (contents after) < potential (arrivals_placed bytes) (contents ws)
          falls = subst (λ (b : Box). potential l b < potential l now) (sym moves) (slot_falls l numbers now on)

          -- One slot more is run, and the rest of the run is still to be printed.
          pub going_on : Going numbers bytes box after before printed start r.at r.passed (departed + more)
          going_on =
              let m = departed_most numbers (answer_now numbers bytes now) in
              let d = departed_are in
              record {
                walked = s.passes ∙ ap (λ n. leading n (arrivals_in bytes)) (sym counts);
                few = omega (arith, counts, m, g.few, d);
                reached =
                    reached_as _
                    (ap text_of
                    (after_on_lem l numbers (offers_now numbers bytes now).box departed (answer_now numbers bytes now) number_zero ∙
                    ap (λ (b : Box). rest_of l numbers b (departed + length (departures numbers (answer_now numbers bytes now))))
                    (sym s.stand_for) ∙
                    ap (λ n. rest_of l numbers (contents after) (departed + n)) (sym d)))
                    left_reached;
              }
