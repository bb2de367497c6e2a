-- How many lines a run has, and that their numbers are small: each arrival has one OFFER line and at most one DEPART line.
use Prim.Native.Nat.{ℕ, zero, suc, ◌+◌, ◌*◌, ◌≤◌}
use mathlib.Core.Path.{◌≡◌, refl, sym, ap, ◌∙◌, subst}
use mathlib.Core.Bool.{Bool, true, false, cond}
use mathlib.Core.List.Memᴰ
use mathlib.Core.List.{List, [], ◌∷◌, ◌++◌, append_assoc, Memᴰ}
use mathlib.Core.Logic.{⊎_elim}
use native.Mathlib.Omega.{arith}
use lib.ListN.{length, length-append}
use lib.Dec.{eqb}
use Rattle.laws.specs.Lists.{Placed, keep}
use Rattle.laws.specs.Sums.{sum_of}
use Rattle.meaning.specs.declared.Stepped.{Stepped}
use Rattle.meaning.specs.Box.{Box, packets, sound}
use Rattle.meaning.specs.Answers.{refusal_number, refusal, stepped}
use Rattle.meaning.specs.Step.{link_taken, sent_answer, step_answer, moved, after_step}
use Rattle.meaning.specs.declared.Arrival.{Arrival}
use Rattle.meaning.specs.Run.{going, ended, stopped, offer_all, departures, finished, phase, slots}
use Rattle.meaning.specs.Rest.{from}
use Rattle.meaning.proofs.ArrivalSums.{next_slot}
use Rattle.meaning.proofs.Facts.{sound_facts}
use Rattle.meaning.proofs.KeptByStep.{sent_moves, step_keeps_sound}
use Rattle.meaning.proofs.Readings.{refusal_range, refused_phase}
use Rattle.meaning.proofs.TextMost.{Printed, PrintedLine, AllPrinted}
use Rattle.meaning.proofs.OfferLines.{accepted_printed, offers}
use Rattle.meaning.proofs.StepLines.{Outcome, moves, refuses, moved_count, sent_printed, outcome, sent_number, moved_counter}
use Rattle.std.proofs.Common.{Ok, Result}
use Rattle.meaning.specs.declared.Refusal.{Refusal}
use Rattle.meaning.specs.declared.Line.{Line}

-- Each arrival counts for one.
abbrev pub one : Placed Arrival → ℕ
one a = 1

-- What is known before a slot: the packets that have left, those in the box and the arrivals to come are at most 4,096.
pub record Tally (l : List (Placed Arrival)) (numbers : List ℕ) (box : Box) (departed : ℕ) : Type 0 where
  pub still_sound : sound box ≡ true
  pub numbers_most : length numbers ≤ 32
  pub places : (a : Placed Arrival) → Memᴰ a l → Printed a.place
  pub together : departed + length (packets box) + from one box.counter l ≤ 4096

-- Lines that are few and whose numbers are small.
pub record Few (ls : List Line) (most : ℕ) : Type 0 where
  pub count : length ls ≤ most
  pub printed : AllPrinted ls

-- Lines that are few, after others that are, are few together.
pub few_append : {a b : List Line} {m n : ℕ} → Few a m → Few b n → Few (a ++ b) (m + n)
few_append {a} {b} f g =
    let x = f.count in
    let y = g.count in
    record {
      count = rw (length-append a b) (omega arith);
      printed = λ k m. ⊎_elim (f.printed k) (g.printed k) (Memᴰ.append_cases a m);
    }

-- Lines that are few by one bound are few by any larger one.
pub few_more : {a : List Line} {m n : ℕ} → Few a m → m ≤ n → Few a n
few_more f h = let x = f.count in record { count = omega arith; printed = f.printed }

-- One line whose numbers are small is few.
pub few_one : (l : Line) → PrintedLine l → Few (l ∷ []) 1
few_one l p = record { count = omega arith; printed = λ k m. subst PrintedLine (sym (Memᴰ.eq_of_singleton m)) p }

-- A run that has stopped has one line.
stopped_few : (n answer : ℕ) (l : List (Placed Arrival)) (numbers : List ℕ) (box : Box) (departed : ℕ) → Printed answer
    → Few (slots n (stopped answer) l numbers box departed) 1
unfolding slots
stopped_few zero answer l numbers box departed p = record { count = omega arith; printed = λ k m. absurd (Memᴰ.not-nil m) }
stopped_few (suc n) answer l numbers box departed p = few_one (Line.Stop answer) p

-- The lines after the offers of a slot.
after_offers_lem : (n : ℕ) (l : List (Placed Arrival)) (numbers : List ℕ) (box : Box) (departed most : ℕ) (answer : Result Stepped Refusal)
    → Outcome box answer → sound box ≡ true → sound (after_step box answer) ≡ true → length numbers ≤ 32
    → (sound (moved box) ≡ true → (d : ℕ) → d + length (packets (moved box)) ≤ departed +
    length (packets box) → Few (slots n (phase l (moved box) 0) l numbers (moved box) d) (most + length (packets (moved box)) + 1))
    → Few (departures numbers answer ++
    slots n (phase l (after_step box answer) (stepped answer).number) l numbers (after_step box answer)
    (departed + length (departures numbers answer)))
    (most + length (packets box) + 1)
unfolding phase after_step stepped refusal departures
after_offers_lem n l numbers box departed most answer moves e k h rest =
    moving (Ok (sent_answer (suc box.counter) (link_taken box.link box.queues))) refl k
  where
    moving : (a : Result Stepped Refusal) → a ≡ Ok (sent_answer (suc box.counter) (link_taken box.link box.queues)) → sound (after_step box a) ≡ true
        → Few (departures numbers a ++
        slots n (phase l (after_step box a) (stepped a).number) l numbers (after_step box a) (departed + length (departures numbers a)))
        (most + length (packets box) + 1)
    moving a i s =
        let m = ap (after_step box) i ∙ sent_moves box (suc box.counter) (link_taken box.link box.queues) in
        let z = ap (λ x. (stepped x).number) i ∙ sent_number (suc box.counter) (link_taken box.link box.queues) in
        let c = subst (λ x. length (packets (moved box)) + length (departures numbers x) ≤ length (packets box)) (sym i)
        (moved_count numbers box) in
        let d : Few (departures numbers a) (length (departures numbers a)) =
        record { count = omega arith; printed = subst (λ x. AllPrinted (departures numbers x)) (sym i) (sent_printed numbers box e h) } in
        rw (m, z) (few_more (few_append d (rest (ap sound (sym m) ∙ s) (departed + length (departures numbers a)) (omega arith)))
        (omega arith))
after_offers_lem n l numbers box departed most answer (refuses why) e k h rest =
    let r = refusal_range why in
    rw (refused_phase l box why) (few_more (stopped_few n (refusal_number why) l numbers box (departed + 0) (omega arith)) (omega arith))

-- Arrivals that count for one each are counted.
pub length_is : (l : List (Placed Arrival)) → sum_of one l ≡ length l
unfolding sum_of
length_is [] = refl
length_is (a ∷ l) = let e = length_is l in omega arith

-- What is kept of a list was in it.
kept_member : {A : Type 0} (test : A → Bool) (l : List A) {a : A} → Memᴰ a (keep test l) → Memᴰ a l
unfolding keep
kept_member test [] m = m
kept_member test (b ∷ l) {a} m = go (test b) (kept_member test l) m
  where
    go : (t : Bool) → (Memᴰ a (keep test l) → Memᴰ a l) → Memᴰ a (cond t (b ∷ keep test l) (keep test l))
        → Memᴰ a (b ∷ l)
    go true f n = ⊎_elim (λ e. Memᴰ.head e) (λ k. Memᴰ.tail (f k)) (Memᴰ.cases_cons n)
    go false f n = Memᴰ.tail (f n)

-- The lines of the slots: two for each arrival to come, one for each packet in the box, and one at the end.
pub slots_few : (n : ℕ) (l : List (Placed Arrival)) (numbers : List ℕ) (box : Box) (departed : ℕ) → Tally l numbers box departed
    → Few (slots n (phase l box 0) l numbers box departed) (2 * from one box.counter l + length (packets box) + 1)
unfolding slots phase
slots_few zero l numbers box departed t = record { count = omega arith; printed = λ k m. absurd (Memᴰ.not-nil m) }
slots_few (suc n) l numbers box departed t = by_phase (finished l box) (slots_few n l numbers)
  where
    by_phase : (f : Bool)
        → ((b : Box) (d : ℕ) → Tally l numbers b d → Few (slots n (phase l b 0) l numbers b d)
        (2 * from one b.counter l + length (packets b) + 1))
        → Few (slots (suc n) (cond f ended going) l numbers box departed) (2 * from one box.counter l + length (packets box) + 1)
    by_phase true rest =
        let a = accepted_printed box t.still_sound in
        let c = (sound_facts box t.still_sound).counter_most in
        let d = t.together in
        few_more (few_one (Line.End box.counter box.accepted departed) (omega arith, omega arith, omega arith)) (omega arith)
    by_phase false rest =
        let now = keep (λ (a : Placed Arrival). eqb a.entry.slot box.counter) l in
        let o = offers numbers now box t.still_sound (λ a m. t.places a (kept_member (λ a. eqb a.entry.slot box.counter) l m)) in
        let after = (offer_all numbers now box).box in
        let lines : Few (offer_all numbers now box).lines (length now) =
        record { count = (let e = o.lines_are in omega arith); printed = o.printed } in
        let answer = step_answer after in
        let next = next_slot one box.counter l in
        let count = length_is now in
        let p = o.packets_most in
        let c = o.counter_stays in
        let g = t.together in
        rw append_assoc
        (few_more
        (few_append lines
        (after_offers_lem n l numbers after departed (2 * from one (suc box.counter) l) answer (outcome after o.still_sound)
        o.still_sound
        (step_keeps_sound after o.still_sound) t.numbers_most
        (λ s d h.
        let m = moved_counter after in
        let e : from one (moved after).counter l ≡ from one (suc box.counter) l = ap (λ k. from one k l) (m ∙ ap suc c) in
        let r = rest (moved after) d
        (record { still_sound = s; numbers_most = t.numbers_most; places = t.places; together = omega arith }) in
        few_more r (omega arith))))
        (omega arith))
