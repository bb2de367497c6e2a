-- The offers of a slot, one after another: what is left of `offer_all` at each of them.
use Prim.Native.Nat.{ℕ, suc, ◌+◌, ◌*◌, ◌/◌, ◌<◌}
use mathlib.Core.Path.{◌≡◌, refl, sym, ap, ◌∙◌, subst}
use mathlib.Core.List.{List, [], ◌∷◌, ◌++◌}
use native.Mathlib.Omega.{arith}
use lib.ListN.{length, get_or, drop}
use lib.Seq.{drop-cons, drop-length}
use Rattle.laws.specs.Lists.{placed_from}
use Rattle.meaning.specs.Box.{Box}
use Rattle.meaning.specs.Answers.{offered}
use Rattle.meaning.specs.Calls.{offer_answer, after_offer}
use Rattle.meaning.specs.declared.Arrival.{Arrival}
use Rattle.meaning.specs.Plan.{words_of, arrival_at}
use Rattle.meaning.specs.Run.{AfterOffers, number_of, offer_all}
use Rattle.meaning.specs.Lines.{line_text, text_of}
use Rattle.words.specs.Contents.{contents}
use Rattle.plan.specs.Parts.{arrivals_in}
use Rattle.plan.specs.Entries.{get_or_table}
use Rattle.plan.specs.StretchPlaces.{length_arrivals_in}
use Rattle.lines.specs.Put.{Room, Put}
use Rattle.multiplexer.specs.Promised.{Leaves}
use Rattle.whole_run.specs.Parts.{offers_of, Offers}
use Rattle.lines.proofs.Reached.{Reached, reached_start, reached_as, reached_next, reached_on, reached_end, text_cons, text_none}
use Rattle.std.proofs.Common.{Result}
use Rattle.meaning.specs.declared.Refusal.{Refusal}
use Rattle.meaning.specs.declared.Line.{Line}

-- The offers from the i-th arrival on, counted from 0.
abbrev rest_offered : List ℕ → List ℕ → ℕ → ℕ → Box → AfterOffers
rest_offered numbers due from i box = offer_all numbers (placed_from (suc from + i) (drop i (arrivals_in due))) box

-- The first i offers are done.
pub record Offering (numbers due : List ℕ) (from : ℕ) (box : Box) (i : ℕ) (ws before out : List ℕ) (start at : ℕ) : Type 0 where
  pub box_same : (rest_offered numbers due from i (contents ws)).box ≡ (offers_of numbers due from box).box
  pub reached :
      Reached before out start (text_of (offers_of numbers due from box).lines)
      (text_of (rest_offered numbers due from i (contents ws)).lines) at

-- At the start none is done.
pub offer_start : (numbers due : List ℕ) (from : ℕ) (ws out : List ℕ) (start : ℕ)
    → Offering numbers due from (contents ws) 0 ws out out start start
offer_start numbers due from ws out start =
    let z : suc from ≡ suc from + 0 = omega arith in
    let same = ap (λ n. offer_all numbers (placed_from n (arrivals_in due)) (contents ws)) z in
    record {
      box_same = sym (ap (λ r. r.box) same);
      reached =
          reached_as _ (ap (λ r. text_of r.lines) same)
          (reached_start out start (text_of (offers_of numbers due from (contents ws)).lines));
    }

module _ (numbers due : List ℕ) (from i : ℕ) (a : Arrival) (is : a ≡ arrival_at (words_of due) (3 * i)) (below : i < length due / 12) where
  -- The arrival at place i stands first among those from there on.
  first : drop i (arrivals_in due) ≡ a ∷ drop (suc i) (arrivals_in due)
  unfolding arrivals_in
  first =
      let l = length_arrivals_in due in
      let z : 0 + 3 * i ≡ 3 * i = omega arith in
      drop-cons (arrivals_in due) i a (omega (arith, l, below)) ∙
      ap (λ x. x ∷ drop (suc i) (arrivals_in due))
      (get_or_table arrival_at 3 (words_of due) 0 (length due / 12) i a below ∙ ap (arrival_at (words_of due)) z ∙ sym is)

  -- The answer to the arrival's offer, on a box.
  abbrev answer_on : Box → Result ℕ Refusal
  answer_on box = offer_answer box (number_of numbers a.place) a.units

  -- The box after that answer.
  abbrev after_on : Box → Box
  after_on box = after_offer box (number_of numbers a.place) a.units (answer_on box)

  -- The offer of the i-th arrival, and then the rest.
  abbrev opened : Box → AfterOffers
  opened box =
      let rest = rest_offered numbers due from (suc i) (after_on box) in
      record {
        lines = Line.Offer (suc from + i) (offered (answer_on box)).number (get_or (offered (answer_on box)).fields 0 0) ∷ rest.lines;
        box = rest.box;
      }

  -- The offers from the i-th arrival on are that of this arrival and then the rest.
  opens : (box : Box) → rest_offered numbers due from i box ≡ opened box
  unfolding offer_all placed_from
  opens box =
      let n : suc (suc from + i) ≡ suc from + suc i = omega arith in
      ap (λ l. offer_all numbers (placed_from (suc from + i) l) box) first ∙
      ap
      (λ k.
      let rest = offer_all numbers (placed_from k (drop (suc i) (arrivals_in due))) (after_on box) in
      let whole : AfterOffers = record {
        lines = Line.Offer (suc from + i) (offered (answer_on box)).number (get_or (offered (answer_on box)).fields 0 0) ∷ rest.lines;
        box = rest.box;
      } in whole)
      n

  module _ {box : Box} {ws before out : List ℕ} {start at : ℕ}
      (room : Room before start (text_of (offers_of numbers due from box).lines))
      (o : Offering numbers due from box i ws before out start at) (place number serial : ℕ) (e : place ≡ suc from + i)
      (f : number ≡ (offered (answer_on (contents ws))).number) (g : serial ≡ get_or (offered (answer_on (contents ws))).fields 0 0)
    where
      -- The box after the offer, from the box in the words.
      abbrev after : Box
      after = after_on (contents ws)

      -- Its line, from what the code prints.
      line_is : Line.Offer place number serial ≡
          Line.Offer (suc from + i) (offered (answer_on (contents ws))).number (get_or (offered (answer_on (contents ws))).fields 0 0)
      line_is = rw (e, f, g) refl

      -- What is left to print is the offer's line and the lines of the rest.
      to_print :
          Reached before out start (text_of (offers_of numbers due from box).lines)
          (line_text (Line.Offer place number serial) ++ text_of (rest_offered numbers due from (suc i) after).lines) at
      to_print =
          reached_as _
          (ap (λ r. text_of r.lines) (opens (contents ws)) ∙
          text_cons _ (rest_offered numbers due from (suc i) after).lines ∙
          ap (λ l. line_text l ++ text_of (rest_offered numbers due from (suc i) after).lines) (sym line_is))
          o.reached

      -- There is room for the offer's line.
      pub offer_room : Room out at (line_text (Line.Offer place number serial))
      offer_room =
          reached_next (line_text (Line.Offer place number serial)) (text_of (rest_offered numbers due from (suc i) after).lines) room to_print

      -- Once the offer's line is printed, one more offer is done.
      pub offer_on :
          {next : List ℕ} {last : ℕ} (left : List ℕ) → Leaves ws left after
          → Put out next at (line_text (Line.Offer place number serial)) last
          → Offering numbers due from box (i + 1) left before next start last
      offer_on {next} {last} left l p =
          let s : suc i ≡ i + 1 = omega arith in
          let same : rest_offered numbers due from (suc i) (contents left) ≡ rest_offered numbers due from (suc i) after =
          ap (rest_offered numbers due from (suc i)) l.stand_for in
          subst (λ k. Offering numbers due from box k left before next start last) s
          (record {
            box_same = ap (λ r. r.box) same ∙ sym (ap (λ r. r.box) (opens (contents ws))) ∙ o.box_same;
            reached =
                reached_as _ (sym (ap (λ r. text_of r.lines) same))
                (reached_on (line_text (Line.Offer place number serial)) (text_of (rest_offered numbers due from (suc i) after).lines) room
                to_print p);
          })

-- Once all offers of the slot are made, their lines are put.
pub offer_end :
    (numbers due : List ℕ) (from : ℕ) {box : Box} {i : ℕ} {ws before out : List ℕ} {start at : ℕ} → i ≡ length due / 12
    → Offering numbers due from box i ws before out start at → Offers (offers_of numbers due from box) ws before out start at
unfolding offer_all placed_from
offer_end numbers due from {box} {i} {ws} {before} {out} {start} {at} e o =
    let l = length_arrivals_in due in
    let k : i ≡ length (arrivals_in due) = omega (arith, l, e) in
    let none : drop i (arrivals_in due) ≡ [] = ap (λ n. drop n (arrivals_in due)) k ∙ drop-length (arrivals_in due) in
    let r : rest_offered numbers due from i (contents ws) ≡ record { lines = []; box = contents ws } =
    ap (λ m. offer_all numbers (placed_from (suc from + i) m) (contents ws)) none in
    record {
      text = reached_end (reached_as [] (ap (λ x. text_of x.lines) r ∙ text_none) o.reached);
      stand_for = sym (ap (λ x. x.box) r) ∙ o.box_same;
    }
