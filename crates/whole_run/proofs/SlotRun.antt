-- One slot of a run: the stretch of its arrivals, its offers and its step.
use Prim.Native.Nat.{ℕ, suc, ◌+◌, ◌/◌, ◌≤◌}
use mathlib.Core.Bool.{true}
use mathlib.Core.Path.{◌≡◌, sym, ap, ◌∙◌, subst}
use mathlib.Core.List.{List, [], ◌++◌}
use native.Mathlib.Omega.{arith}
use lib.ListN.{length}
use Rattle.laws.specs.Lists.{placed_from}
use Rattle.meaning.specs.declared.Stepped.{Stepped}
use Rattle.meaning.specs.Box.{Box}
use Rattle.meaning.specs.Step.{step_answer, after_step}
use Rattle.meaning.specs.Plan.{arrivals_of}
use Rattle.meaning.specs.Run.{AfterOffers, offer_all, departures}
use Rattle.meaning.specs.Lines.{text_of}
use Rattle.meaning.specs.Rest.{due_now}
use Rattle.words.specs.Contents.{contents}
use Rattle.words.specs.Sound.{sound_words}
use Rattle.whole_run.proofs.Stepping.{departed_same}
use Rattle.plan.specs.Parts.{arrivals_in, leading, stretch_of}
use Rattle.plan.specs.StretchPlaces.{leading_within, length_arrivals_in, stretch_within}
use Rattle.plan.proofs.Stretch.{stretch_holds, walk_on}
use Rattle.lines.specs.Put.{Room, Put}
use Rattle.lines.proofs.Puts.{then, room_after, room_first}
use Rattle.multiplexer.specs.Promised.{Leaves}
use Rattle.whole_run.specs.Parts.{Offers, RunsSlot, Sorted, Walked, arrivals_placed, offers_of, offers_now, answer_now, lines_of_slot}
use Rattle.lines.proofs.Reached.{text_append}
use Rattle.whole_run.proofs.Due.{placed_due}
use Rattle.std.proofs.Common.{Result}
use Rattle.meaning.specs.declared.Refusal.{Refusal}

module _ (numbers bytes : List ℕ) (box : Box) (passed : ℕ) (walked : Walked bytes box passed) (sorted : Sorted bytes) (due : List ℕ)
    (slot : ℕ) (is : due ≡ stretch_of bytes passed slot) (counted : slot ≡ box.counter)
  where
    -- The arrivals that are passed are no more than those before the slot.
    before : passed ≤ leading slot (arrivals_in bytes)
    before = subst (λ s. passed ≤ leading s (arrivals_in bytes)) (sym counted) (omega (arith, walked))

    -- The stretch holds the arrivals of the slot, with their places.
    due_placed : placed_from (suc passed) (arrivals_in due) ≡ due_now (arrivals_placed bytes) box
    due_placed =
        let arrivals = arrivals_in bytes in
        let at : suc passed ≡ 1 + leading box.counter arrivals = omega (arith, walked) in
        ap (λ n. placed_from n (arrivals_in due)) at ∙
        ap (placed_from (1 + leading box.counter arrivals))
        (ap arrivals_in is ∙ stretch_holds bytes passed slot before sorted.never_falling ∙ ap (λ s. arrivals_of s arrivals) counted) ∙
        sym (placed_due box.counter 0 1 arrivals sorted.never_falling)

    -- The offers of the stretch are those of the slot.
    due_offers : offers_of numbers due passed box ≡ offers_now numbers bytes box
    due_offers = ap (λ l. offer_all numbers l box) due_placed

    -- The arrivals passed and those of the slot are at most 4,096.
    pub due_few : passed + length due / 12 ≤ 4096
    due_few =
        let m = sorted.entries_most in
        let w = leading_within slot (arrivals_in bytes) in
        let l = length_arrivals_in bytes in
        let k = stretch_within bytes passed slot (omega (arith, before, w, l)) in
        subst (λ d. passed + length d / 12 ≤ 4096) (sym is) (omega (arith, k, m))

    -- With those of the slot, all arrivals before the next slot are passed.
    due_passes : passed + length due / 12 ≡ leading (suc box.counter) (arrivals_in bytes)
    due_passes =
        let e : passed ≡ leading slot (arrivals_in bytes) = walked ∙ ap (λ s. leading s (arrivals_in bytes)) (sym counted) in
        let n : slot + 1 ≡ suc box.counter = omega (arith, counted) in
        ap (λ d. passed + length d / 12) is ∙ walk_on bytes passed slot before e ∙ ap (λ s. leading s (arrivals_in bytes)) n

    -- The text of a slot is that of its offers and that of its step.
    text_of_slot : text_of (lines_of_slot numbers bytes box) ≡ text_of (offers_now numbers bytes box).lines ++
        text_of (departures numbers (answer_now numbers bytes box))
    text_of_slot = text_append (offers_now numbers bytes box).lines (departures numbers (answer_now numbers bytes box))

    module _ (out : List ℕ) (start : ℕ) (room : Room out start (text_of (lines_of_slot numbers bytes box))) where
      -- There is room for the text of the offers and that of the step.
      both : Room out start (text_of (offers_now numbers bytes box).lines ++ text_of (departures numbers (answer_now numbers bytes box)))
      both = subst (λ l. Room out start l) text_of_slot room

      -- There is room for the text of the offers.
      pub offers_room : Room out start (text_of (offers_of numbers due passed box).lines)
      offers_room =
          subst (λ (r : AfterOffers). Room out start (text_of r.lines)) (sym due_offers)
          (room_first out start (text_of (offers_now numbers bytes box).lines) (text_of (departures numbers (answer_now numbers bytes box)))
          both)

      module _ {ws printed : List ℕ} {at : ℕ} (o : Offers (offers_of numbers due passed box) ws out printed start at) (answer : Result Stepped Refusal)
          (a : answer ≡ step_answer (contents ws))
        where
          -- After the offers the words stand for the box that the slot's offers leave.
          same : contents ws ≡ (offers_now numbers bytes box).box
          same = o.stand_for ∙ ap (λ (r : AfterOffers). r.box) due_offers

          -- The answer is that of the slot's step.
          now_is : answer ≡ answer_now numbers bytes box
          now_is = a ∙ ap step_answer same

          -- The text of the slot's offers is put.
          offered : Put out printed start (text_of (offers_now numbers bytes box).lines) at
          offered = subst (λ (r : AfterOffers). Put out printed start (text_of r.lines) at) due_offers o.text

          -- There is room for the line of the slot's step.
          pub step_room : Room printed at (text_of (departures numbers answer))
          step_room =
              subst (λ (x : Result Stepped Refusal). Room printed at (text_of (departures numbers x))) (sym now_is)
              (room_after (text_of (departures numbers (answer_now numbers bytes box))) offered both)

          -- With the offers and the step done and their text put, the slot is run; the words are sound, and the departures are those of its answer.
          pub slot_runs :
              {after last : List ℕ} {next : ℕ} → Leaves ws after (after_step (contents ws) (step_answer (contents ws)))
              → Put printed last at (text_of (departures numbers answer)) next
              → RunsSlot (record { at = next; passed = passed + length due / 12; answer = answer }) numbers bytes box after out last start ×
              (sound_words after ≡ true) × (length (departures [] answer) ≡ length (departures numbers (answer_now numbers bytes box)))
          slot_runs {after} {last} {next} l p = (
            record {
              text =
                  subst (λ t. Put out last start t next) (sym text_of_slot)
                  (then offered (subst (λ (x : Result Stepped Refusal). Put printed last at (text_of (departures numbers x)) next) now_is p) both);
              passes = due_passes;
              answer_is = now_is;
              stand_for = l.stand_for ∙ ap (λ b. after_step b (step_answer b)) same;
            },
            l.still_sound,
            departed_same numbers answer ∙ ap (λ (x : Result Stepped Refusal). length (departures numbers x)) now_is,
          )
