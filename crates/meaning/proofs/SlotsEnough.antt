-- The bound on the slots of a run, `slots_enough`, is enough: more slots change no line.
use Prim.Native.Nat.{ℕ, zero, suc, ◌+◌, ◌-◌, ◌≤◌, ◌<◌, max}
use mathlib.Core.Path.{◌≡◌, refl, ap, ◌∙◌}
use mathlib.Core.Bool.{Bool, true, false, cond, ◌&&◌, true≢false}
use mathlib.Core.List.{List, [], ◌∷◌, ◌++◌, flatten}
use mathlib.Core.Logic.{◌⊎◌, inl, inr, ⊎_elim}
use mathlib.Core.Option.{Option, none, some}
use native.Mathlib.Omega.{arith}
use lib.ListN.{length, length-append}
use lib.Dec.{leb, ltb, eqb}
use borrow.Author.Tests.{leb-false, ltb-false, eqb-false}
use Rattle.laws.specs.Tests.{every}
use Rattle.laws.specs.Lists.{Placed, keep, placed_from}
use Rattle.laws.specs.Sums.{sum_of, largest_of, sum_append, length_sum}
use Rattle.meaning.specs.declared.Stepped.{Stepped}
use Rattle.meaning.specs.declared.Connection.{Connection}
use Rattle.meaning.specs.Numbers.{Settings, factor, largest_factor}
use Rattle.meaning.specs.Queues.{empty_queues, join_tail, turned, lowest_head, without_lowest_head}
use Rattle.meaning.specs.declared.Packet.{Packet}
use Rattle.meaning.specs.Box.{Box, connection, waiting, on_link, packets}
use Rattle.meaning.specs.Answers.{refusal_number, refusal, stepped}
use Rattle.meaning.specs.Calls.{new_box, with_standing, admission_answer, after_admission, joined, offer_answer, after_offer}
use Rattle.meaning.specs.Step.{loaded, link_taken, queues_taken, link_sent, turn_due, step_answer, queues_stepped, moved, after_step}
use Rattle.meaning.specs.declared.Arrival.{Arrival}
use Rattle.meaning.specs.Plan.{Plan}
use Rattle.meaning.specs.Run.{AfterOffers, going, ended, stopped, admit_all, number_of, offer_all, departures, finished}
use Rattle.meaning.specs.Run.{phase, slots, slots_enough}
use Rattle.meaning.specs.Rest.{size, link_weight, weight, arrival_size, from, potential}
use Rattle.meaning.proofs.Readings.{refused_phase}
use Rattle.meaning.proofs.ArrivalSums.{next_slot, from_start}
use Rattle.meaning.proofs.QueueLaws.{nothing_waits, nothing_taken, flatten_last, empty_flatten}
use Rattle.std.proofs.Common.{Result, Ok, Err}
use Rattle.meaning.specs.declared.Refusal.{Refusal}
use Rattle.meaning.specs.declared.Link.{Link}
use Rattle.meaning.specs.declared.Line.{Line}

-- Joining a tail adds at most what the packet has to send.
joined_most : (k : ℕ) (p : Packet) (qs : List (List Packet)) → sum_of size (flatten (join_tail k p qs)) ≤ size p + sum_of size (flatten qs)
unfolding join_tail flatten sum_of
joined_most k p [] = omega arith
joined_most zero p (q ∷ qs) = simp (sum_append) (omega arith)
joined_most (suc k) p (q ∷ qs) = let i = joined_most k p qs in simp (sum_append) (omega arith)

-- Joining a tail leaves no less to send.
joined_least : (k : ℕ) (p : Packet) (qs : List (List Packet)) → sum_of size (flatten qs) ≤ sum_of size (flatten (join_tail k p qs))
unfolding join_tail flatten sum_of
joined_least k p [] = omega arith
joined_least zero p (q ∷ qs) = simp (sum_append) (omega arith)
joined_least (suc k) p (q ∷ qs) = let i = joined_least k p qs in simp (sum_append) (omega arith)

-- What was to send is what the lowest head has and what the other packets have.
taken_sum : (p : Packet) (qs : List (List Packet)) → lowest_head qs ≡ some p
    → sum_of size (flatten qs) ≡ size p + sum_of size (flatten (without_lowest_head qs))
unfolding lowest_head without_lowest_head flatten sum_of
taken_sum p [] e = absurd (let z : ◌≡◌ {A = ℕ} 0 1 = cc in omega arith)
taken_sum p ([] ∷ qs) e = taken_sum p qs e
taken_sum p ((x ∷ q) ∷ qs) e = let i : x ≡ p = cc in ap (λ y. size y + sum_of size (q ++ flatten qs)) i

-- A turn leaves as much to send.
turned_sum : (qs : List (List Packet)) → sum_of size (flatten (turned qs)) ≡ sum_of size (flatten qs)
unfolding turned flatten
turned_sum [] = refl
turned_sum (q ∷ qs) = simp (flatten_last, sum_append) (omega arith)

-- No packets have nothing to send.
no_size : sum_of size [] ≡ 0
unfolding sum_of
no_size = refl

-- Sending a unit leaves less to send on the link, if anything was.
sent_weight : (link : Link) → link_weight (link_sent link) ≤ link_weight link - 1
unfolding link_weight link_sent
sent_weight Link.Free = omega arith
sent_weight (Link.Carries p left) = go (leb left 1) refl
  where
    go : (last : Bool) → leb left 1 ≡ last → link_weight (cond last Link.Free (Link.Carries p (left - 1))) ≤ suc left - 1
    go true e = omega arith
    go false e = let l = leb-false left 1 e in omega arith

-- Taking a packet onto the link and sending a unit of it leaves less to send, if anything was.
sent_less : (link : Link) (qs : List (List Packet))
    → sum_of size (flatten (queues_taken link qs)) + link_weight (link_sent (link_taken link qs)) ≤ sum_of size (flatten qs) + link_weight link - 1
unfolding queues_taken link_taken loaded link_weight
sent_less (Link.Carries p left) qs = let s = sent_weight (Link.Carries p left) in omega arith
sent_less Link.Free qs = by_head (lowest_head qs) refl
  where
    by_head : (o : Option Packet) → lowest_head qs ≡ o
        → sum_of size (flatten (without_lowest_head qs)) + link_weight (link_sent (loaded o)) ≤ sum_of size (flatten qs) + 0 - 1
    by_head none e =
        let s = sent_weight Link.Free in
        let z : sum_of size (flatten (without_lowest_head qs)) ≡ 0 =
        ap (λ q. sum_of size (flatten q)) (nothing_taken qs e) ∙ ap (sum_of size) (nothing_waits qs e) ∙ no_size in
        omega arith
    by_head (some p) e =
        let s = sent_weight (Link.Carries p p.units) in
        let t = taken_sum p qs e in
        omega arith

-- A step leaves less to send, if anything was.
step_weight : (box : Box) → weight (moved box) ≤ weight box - 1
unfolding weight moved queues_stepped
step_weight box = turn (turn_due box) (sent_less box.link box.queues)
  where
    turn : (due : Bool)
        → sum_of size (flatten (queues_taken box.link box.queues)) + link_weight (link_sent (link_taken box.link box.queues))
        ≤ sum_of size (flatten box.queues) + link_weight box.link - 1
        → sum_of size (flatten (cond due (turned (queues_taken box.link box.queues)) (queues_taken box.link box.queues))) +
        link_weight (link_sent (link_taken box.link box.queues))
        ≤ sum_of size (flatten box.queues) + link_weight box.link - 1
    turn true h = rw (turned_sum (queues_taken box.link box.queues)) h
    turn false h = h

-- An offer leaves the counter and no less to send, and adds at most so much.
record Offering (box after : Box) (more : ℕ) : Type 0 where
  counter_stays : after.counter ≡ box.counter
  most : weight after ≤ weight box + more
  least : weight box ≤ weight after

-- An offer leaves the counter and no less to send, and adds at most its units and one more.
offer_weight : (box : Box) (n units : ℕ) (answer : Result ℕ Refusal) → Offering box (after_offer box n units answer) (suc units)
unfolding after_offer weight joined
offer_weight box n units (Ok serial) =
    let p : Packet = record { serial = serial; connection = n; units = units; arrival = box.counter } in
    let a = joined_most (factor box.settings (connection box n).class) p box.queues in
    let b = joined_least (factor box.settings (connection box n).class) p box.queues in
    record { counter_stays = refl; most = omega arith; least = omega arith }
offer_weight box n units (Err why) = record { counter_stays = refl; most = omega arith; least = omega arith }

-- The offers of a slot leave the counter and no less to send, and add at most what their arrivals can.
offers_weight : (numbers : List ℕ) (l : List (Placed Arrival)) (box : Box)
    → Offering box (offer_all numbers l box).box (sum_of arrival_size l)
unfolding offer_all sum_of
offers_weight numbers [] box = record { counter_stays = refl; most = omega arith; least = omega arith }
offers_weight numbers (a ∷ l) box =
    let n = number_of numbers a.entry.place in
    let one = offer_weight box n a.entry.units (offer_answer box n a.entry.units) in
    let rest = offers_weight numbers l (after_offer box n a.entry.units (offer_answer box n a.entry.units)) in
    let x = one.most in
    let y = one.least in
    let z = rest.most in
    let w = rest.least in
    record { counter_stays = rest.counter_stays ∙ one.counter_stays; most = omega arith; least = omega arith }

-- A run that is not finished has an arrival to come or something to send.
some_to_come : (slot : ℕ) (l : List (Placed Arrival)) → every (λ a. ltb a.entry.slot slot) l ≡ false
    → slot ≤ largest_of (λ a. a.entry.slot) l
unfolding every largest_of
some_to_come slot [] e = absurd (true≢false e)
some_to_come slot (a ∷ l) e = go (ltb a.entry.slot slot) refl (some_to_come slot l) e
  where
    go : (b : Bool) → ltb a.entry.slot slot ≡ b
        → (every (λ a. ltb a.entry.slot slot) l ≡ false → slot ≤ largest_of (λ a. a.entry.slot) l)
        → (b && every (λ a. ltb a.entry.slot slot) l) ≡ false
        → slot ≤ max a.entry.slot (largest_of (λ a. a.entry.slot) l)
    go true t ih f = let h = ih f in omega (arith, native.Mathlib.Nat.le-max_right a.entry.slot (largest_of (λ a. a.entry.slot) l))
    go false t ih f =
        let h = ltb-false a.entry.slot slot t in
        omega (arith, native.Mathlib.Nat.le-max_left a.entry.slot (largest_of (λ a. a.entry.slot) l))

-- A link that carries a packet has something to send.
link_length : (l : Link) → length (on_link l) ≤ link_weight l
unfolding on_link link_weight
link_length Link.Free = omega arith
link_length (Link.Carries p left) = omega arith

-- A box that is not empty has something to send.
some_to_send : (box : Box) → eqb (length (packets box)) 0 ≡ false → 1 ≤ weight box
unfolding weight packets waiting
some_to_send box e =
    let n : mathlib.Core.Logic.◌≢◌ (length (flatten box.queues ++ on_link box.link)) 0 = eqb-false _ _ e in
    let a = length-append (flatten box.queues) (on_link box.link) in
    let q = length_sum size (flatten box.queues) (λ p. omega arith) in
    let k = link_length box.link in
    omega arith

-- In a run that is not finished the last arrival slot has not passed or something is left to send.
not_finished : (l : List (Placed Arrival)) (box : Box) → finished l box ≡ false
    → (box.counter ≤ largest_of (λ a. a.entry.slot) l) ⊎ (1 ≤ weight box)
unfolding finished
not_finished l box f = go (every (λ a. ltb a.entry.slot box.counter) l) refl f
  where
    go : (b : Bool) → every (λ a. ltb a.entry.slot box.counter) l ≡ b → (b && eqb (length (packets box)) 0) ≡ false
        → (box.counter ≤ largest_of (λ a. a.entry.slot) l) ⊎ (1 ≤ weight box)
    go true e g = inr (some_to_send box g)
    go false e g = inl (some_to_come box.counter l e)

-- The potential falls over a slot.
pub falls : (numbers : List ℕ) (l : List (Placed Arrival)) (box : Box) → finished l box ≡ false
    → suc (potential l (moved (offer_all numbers (keep (λ a. eqb a.entry.slot box.counter) l) box).box)) ≤ potential l box
unfolding potential moved
falls numbers l box f =
    let now = keep (λ (a : Placed Arrival). eqb a.entry.slot box.counter) l in
    let after = (offer_all numbers now box).box in
    let o = offers_weight numbers now box in
    let c = o.counter_stays in
    let m = o.most in
    let k = o.least in
    let s : weight (moved after) ≤ weight after - 1 = step_weight after in
    let n = next_slot arrival_size box.counter l in
    let e : from arrival_size (suc after.counter) l ≡ from arrival_size (suc box.counter) l = ap (λ x. from arrival_size (suc x) l) c in
    ⊎_elim (λ h. omega arith) (λ h. omega arith) (not_finished l box f)

-- A refused step, or a run at its end, needs no more slots than one.
pub stopped_same : (n k answer : ℕ) (l : List (Placed Arrival)) (numbers : List ℕ) (box : Box) (departed : ℕ) → 1 ≤ n
    → slots (n + k) (stopped answer) l numbers box departed ≡ slots n (stopped answer) l numbers box departed
unfolding slots
stopped_same zero k answer l numbers box departed h = absurd (let z = h in omega arith)
stopped_same (suc n) k answer l numbers box departed h = rw (native.Mathlib.Nat.suc-add n k) refl

-- After a slot: a refused step ends the run, any other one moves the box.
after_step_same : (n k : ℕ) (l : List (Placed Arrival)) (numbers : List ℕ) (box : Box) (departed : ℕ) (answer : Result Stepped Refusal) → 1 ≤ n
    → slots (n + k) (phase l (moved box) 0) l numbers (moved box) departed ≡ slots n (phase l (moved box) 0) l numbers (moved box) departed
    → slots (n + k) (phase l (after_step box answer) (stepped answer).number) l numbers (after_step box answer) departed
    ≡ slots n (phase l (after_step box answer) (stepped answer).number) l numbers (after_step box answer) departed
unfolding after_step stepped refusal phase
after_step_same n k l numbers box departed (Ok Stepped.Idle) h e = e
after_step_same n k l numbers box departed (Ok (Stepped.Sending serial left)) h e = e
after_step_same n k l numbers box departed (Ok (Stepped.Departed serial connection arrival departure)) h e = e
after_step_same n k l numbers box departed (Err why) h e =
    rw (refused_phase l box why) (stopped_same n k (refusal_number why) l numbers box departed h)

-- Once there are more slots than the potential, still more change no line.
pub enough : (n k : ℕ) (l : List (Placed Arrival)) (numbers : List ℕ) (box : Box) (departed : ℕ) → potential l box < n
    → slots (n + k) (phase l box 0) l numbers box departed ≡ slots n (phase l box 0) l numbers box departed
unfolding phase slots
enough zero k l numbers box departed h = absurd (let z = h in omega arith)
enough (suc n) k l numbers box departed h =
    rw (native.Mathlib.Nat.suc-add n k)
    (go (finished l box) refl
    (λ f.
    let after = (offer_all numbers (keep (λ a. eqb a.entry.slot box.counter) l) box).box in
    let out = departures numbers (step_answer after) in
    let p = falls numbers l box f in
    let one = not_finished l box f in
    let q : 1 ≤ potential l box = omega arith in
    after_step_same n k l numbers after (departed + length out) (step_answer after) (omega arith)
    (enough n k l numbers (moved after) (departed + length out) (omega arith))))
  where
    after_offers : AfterOffers
    after_offers = offer_all numbers (keep (λ a. eqb a.entry.slot box.counter) l) box

    go : (f : Bool) → finished l box ≡ f
        → (finished l box ≡ false
        → slots (n + k) (phase l (after_step after_offers.box (step_answer after_offers.box))
        (stepped (step_answer after_offers.box)).number) l numbers
        (after_step after_offers.box (step_answer after_offers.box))
        (departed + length (departures numbers (step_answer after_offers.box)))
        ≡ slots n (phase l (after_step after_offers.box (step_answer after_offers.box))
        (stepped (step_answer after_offers.box)).number) l numbers
        (after_step after_offers.box (step_answer after_offers.box))
        (departed + length (departures numbers (step_answer after_offers.box))))
        → slots (suc (n + k)) (cond f ended going) l numbers box departed ≡ slots (suc n) (cond f ended going) l numbers box departed
    go true e ih = refl
    go false e ih = ap (λ (m : List Line). after_offers.lines ++ departures numbers (step_answer after_offers.box) ++ m) (ih e)

-- Admissions move neither the counter nor a packet.
admission_weight : (box : Box) (c : Connection) (answer : Result ℕ Refusal)
    → ((after_admission box c answer).counter ≡ box.counter) × (weight (after_admission box c answer) ≡ weight box)
unfolding after_admission with_standing weight
admission_weight box c (Ok n) = (refl, refl)
admission_weight box c (Err why) = (refl, refl)

-- The admissions leave the counter and what is left to send.
pub admissions_weight : (place : ℕ) (cs : List Connection) (box : Box)
    → ((admit_all place cs box).box.counter ≡ box.counter) × (weight (admit_all place cs box).box ≡ weight box)
unfolding admit_all
admissions_weight place [] box = (refl, refl)
admissions_weight place (c ∷ cs) box =
    let one = admission_weight box c (admission_answer box c) in
    let rest = admissions_weight (suc place) cs (after_admission box c (admission_answer box c)) in
    (rest.0 ∙ one.0, rest.1 ∙ one.1)

-- A new box has nothing to send.
pub new_weight : (opening : Settings) → weight (new_box opening) ≡ 0
unfolding weight new_box empty_queues link_weight
new_weight opening = let e = ap (sum_of size) (empty_flatten {A = Packet} (suc (largest_factor opening))) ∙ no_size in omega arith

-- At counter 0 with nothing to send, less is to come than `slots_enough` slots.
pub start_potential : (l : List (Placed Arrival)) (box : Box) → box.counter ≡ 0 → weight box ≡ 0 → potential l box < slots_enough l
unfolding potential slots_enough
start_potential l box c w =
    let e : from arrival_size box.counter l ≡ sum_of arrival_size l = ap (λ n. from arrival_size n l) c ∙ from_start arrival_size l in
    omega arith

-- `slots_enough` slots are enough for the run of any plan: with any number of slots more it has the same lines.
pub slots_enough_lem : (plan : Plan) (k : ℕ)
    → (let admissions = admit_all 1 plan.connections (new_box plan.settings) in
    let l = placed_from 1 plan.arrivals in
    slots (slots_enough l + k) (phase l admissions.box 0) l admissions.numbers admissions.box 0
    ≡ slots (slots_enough l) (phase l admissions.box 0) l admissions.numbers admissions.box 0)
unfolding new_box
slots_enough_lem plan k =
    let start = new_box plan.settings in
    let admissions = admit_all 1 plan.connections start in
    let l = placed_from 1 plan.arrivals in
    let w = admissions_weight 1 plan.connections start in
    enough (slots_enough l) k l admissions.numbers admissions.box 0
    (start_potential l admissions.box w.0 (w.1 ∙ new_weight plan.settings))
