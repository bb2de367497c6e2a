-- The line of a step: that of a departure or none, with small numbers.
use Prim.Native.Nat.{ℕ, suc, ◌+◌, ◌-◌, ◌≤◌, ◌<◌}
use mathlib.Core.Path.{◌≡◌, refl, sym, ap, subst}
use mathlib.Core.Bool.{Bool, true, false, cond, ◌&&◌}
use mathlib.Core.List.Memᴰ
use mathlib.Core.List.{List, [], ◌∷◌, flatten, Memᴰ}
use mathlib.Core.Option.{Option, none, some}
use native.Mathlib.Omega.{arith}
use lib.ListN.{length, length-append}
use lib.Dec.{leb, eqb}
use Rattle.laws.specs.Tests.{every_at}
use Rattle.meaning.specs.declared.Refusal.{Refusal}
use Rattle.meaning.specs.declared.Stepped.{Stepped}
use Rattle.meaning.specs.Numbers.{last_slot}
use Rattle.meaning.specs.Queues.{turned, lowest_head, without_lowest_head, tag_zero_waits}
use Rattle.meaning.specs.declared.Packet.{Packet}
use Rattle.meaning.specs.Box.{Box, waiting, on_link, packets, packet_kept, sound}
use Rattle.meaning.specs.Answers.{stepped}
use Rattle.meaning.specs.Step.{loaded, link_taken, queues_taken, sent_answer, link_sent, turn_due, step_answer, queues_stepped, moved}
use Rattle.meaning.specs.Run.{place_of, departures}
use Rattle.meaning.proofs.Facts.{sound_facts, packet_facts}
use Rattle.meaning.proofs.QueueLaws.{without_length, nothing_taken, turned_length}
use Rattle.meaning.proofs.KeptByStep.{taken}
use Rattle.meaning.proofs.TextMost.{PrintedLine, AllPrinted}
use Rattle.meaning.proofs.OfferLines.{accepted_printed}
use Rattle.std.proofs.Common.{Result, Ok, Err}
use Rattle.meaning.specs.declared.Link.{Link}
use Rattle.meaning.specs.declared.Line.{Line}

-- A free link that takes a packet makes no packet more.
taken_count : (link : Link) (qs : List (List Packet))
    → length (flatten (queues_taken link qs)) + length (on_link (link_taken link qs)) ≤ length (flatten qs) + length (on_link link)
unfolding queues_taken link_taken loaded on_link
taken_count (Link.Carries p left) qs = omega arith
taken_count Link.Free qs = go (lowest_head qs) refl
  where
    go : (o : Option Packet) → lowest_head qs ≡ o
        → length (flatten (without_lowest_head qs)) + length (on_link (loaded o)) ≤ length (flatten qs) + 0
    go none e = let s = ap (λ q. length (flatten q)) (nothing_taken qs e) in omega arith
    go (some p) e = let s = without_length qs p e in omega arith

-- Once a unit is sent, the packet is on the link or has a line of its departure, not both.
sent_count : (numbers : List ℕ) (departure : ℕ) (link : Link)
    → length (on_link (link_sent link)) + length (departures numbers (Ok (sent_answer departure link))) ≤ length (on_link link)
unfolding link_sent sent_answer departures on_link
sent_count numbers departure Link.Free = omega arith
sent_count numbers departure (Link.Carries p left) = go (leb left 1)
  where
    go : (b : Bool)
        → length (on_link (cond b Link.Free (Link.Carries p (left - 1)))) +
        length (departures numbers
        (Ok (cond b (Stepped.Departed p.serial p.connection p.arrival departure) (Stepped.Sending p.serial (left - 1))))) ≤ 1
    go true = omega arith
    go false = omega arith

-- The packets after a step and its lines of departure are at most the packets before it.
pub moved_count : (numbers : List ℕ) (box : Box)
    → length (packets (moved box)) +
    length (departures numbers (Ok (sent_answer (suc box.counter) (link_taken box.link box.queues)))) ≤ length (packets box)
unfolding moved packets waiting queues_stepped
moved_count numbers box =
    let a = taken_count box.link box.queues in
    let b = sent_count numbers (suc box.counter) (link_taken box.link box.queues) in
    let c = turn (turn_due box) (queues_taken box.link box.queues) in
    simp length-append (omega arith)
  where
    turn : (due : Bool) (qs : List (List Packet)) → length (flatten (cond due (turned qs) qs)) ≡ length (flatten qs)
    turn true qs = turned_length qs
    turn false qs = refl

-- The place of a connection in the file is at most the number of places.
place_most : (place : ℕ) (numbers : List ℕ) (n : ℕ) → place_of place numbers n ≤ place + length numbers
unfolding place_of
place_most place [] n = omega arith
place_most place (m ∷ numbers) n = go (eqb m n) (place_most (suc place) numbers n)
  where
    go : (b : Bool) → place_of (suc place) numbers n ≤ suc place + length numbers
        → cond b place (place_of (suc place) numbers n) ≤ place + suc (length numbers)
    go true h = omega arith
    go false h = omega arith

-- A departure that is reported is that of a packet that was in the box.
pub sent_printed : (numbers : List ℕ) (box : Box) → sound box ≡ true → length numbers ≤ 32
    → AllPrinted (departures numbers (Ok (sent_answer (suc box.counter) (link_taken box.link box.queues))))
unfolding departures sent_answer on_link
sent_printed numbers box e s =
    by_link (link_taken box.link box.queues) (λ p m. (taken box (sound_facts box e)).carried p m)
  where
    a : suc (suc box.accepted) < 5000000000
    a = accepted_printed box e

    c : box.counter ≤ last_slot
    c = (sound_facts box e).counter_most

    line : (p : Packet) → Memᴰ p (packets box)
        → PrintedLine (Line.Depart p.serial (place_of 1 numbers p.connection) p.arrival (suc box.counter))
    line p m =
        let f = packet_facts box p (every_at (packet_kept box) (packets box) (sound_facts box e).packets_kept m) in
        let x = f.serial_most in
        let y = f.arrival_most in
        let z = place_most 1 numbers p.connection in
        let g = a in
        let h = c in
        (omega arith, omega arith, omega arith, omega arith)

    by_link : (l : Link) → ((p : Packet) → Memᴰ p (on_link l) → Memᴰ p (packets box))
        → AllPrinted (departures numbers (Ok (sent_answer (suc box.counter) l)))
    by_link Link.Free h = λ k m. absurd (Memᴰ.not-nil m)
    by_link (Link.Carries p left) h = go (leb left 1)
      where
        go : (b : Bool)
            → AllPrinted (departures numbers
            (Ok (cond b (Stepped.Departed p.serial p.connection p.arrival (suc box.counter))
            (Stepped.Sending p.serial (left - 1)))))
        go true = λ k m. subst PrintedLine (sym (Memᴰ.eq_of_singleton m)) (line p (h p (Memᴰ.head refl)))
        go false = λ k m. absurd (Memᴰ.not-nil m)

-- How a step of a sound box goes: it moves the box, or it is refused and ends the run.
pub data Outcome (box : Box) : Result Stepped Refusal → Type 0 where
  moves : Outcome box (Ok (sent_answer (suc box.counter) (link_taken box.link box.queues)))
  refuses : (why : Refusal) → Outcome box (Err why)

-- A step of a sound box moves it, or is refused with 12 or 11.
pub outcome : (box : Box) → sound box ≡ true → Outcome box (step_answer box)
unfolding step_answer
outcome box e = rw e (go (leb last_slot box.counter) (turn_due box && tag_zero_waits (queues_taken box.link box.queues)))
  where
    go : (a b : Bool)
        → Outcome box
        (cond a (Err Refusal.CounterEnded)
        (cond b (Err Refusal.TurnBlocked) (Ok (sent_answer (suc box.counter) (link_taken box.link box.queues)))))
    go true b = refuses Refusal.CounterEnded
    go false true = refuses Refusal.TurnBlocked
    go false false = moves

-- The answer of a step that sends has the number 0.
pub sent_number : (departure : ℕ) (link : Link) → (stepped (Ok (sent_answer departure link))).number ≡ 0
unfolding sent_answer stepped
sent_number departure Link.Free = refl
sent_number departure (Link.Carries p left) = go (leb left 1)
  where
    go : (b : Bool)
        → (stepped (Ok (cond b (Stepped.Departed p.serial p.connection p.arrival departure)
        (Stepped.Sending p.serial (left - 1))))).number ≡ 0
    go true = refl
    go false = refl

-- A step raises the counter by one.
pub moved_counter : (box : Box) → (moved box).counter ≡ suc box.counter
unfolding moved
moved_counter box = refl
