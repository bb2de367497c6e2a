-- The lines of offers: one for each arrival, with small numbers; the counter stays.
use Prim.Native.Nat.{ℕ, zero, suc, ◌+◌, ◌≤◌, ◌<◌}
use mathlib.Core.Path.{◌≡◌, refl, sym, ap, ◌∙◌, subst}
use mathlib.Core.Bool.{Bool, true, false, cond, not}
use mathlib.Core.List.Memᴰ
use mathlib.Core.List.{List, [], ◌∷◌, flatten, Memᴰ}
use mathlib.Core.Logic.{⊎_elim}
use native.Mathlib.Omega.{arith}
use lib.ListN.{length, get_or, length-append}
use lib.Dec.{leb}
use Rattle.laws.specs.Tests.{within}
use Rattle.laws.specs.Lists.{Placed}
use Rattle.meaning.specs.declared.Refusal.{Refusal}
use Rattle.meaning.specs.Numbers.{factor}
use Rattle.meaning.specs.Envelope.{conforms}
use Rattle.meaning.specs.Queues.{join_tail}
use Rattle.meaning.specs.declared.Packet.{Packet}
use Rattle.meaning.specs.Box.{Box, connection, stands, waiting, on_link, packets, sound}
use Rattle.meaning.specs.Answers.{refusal_number, refusal, offered}
use Rattle.meaning.specs.Calls.{allowance, offer_answer, after_offer, joined}
use Rattle.meaning.specs.declared.Arrival.{Arrival}
use Rattle.meaning.specs.Run.{number_of, offer_all}
use Rattle.meaning.proofs.Facts.{sound_facts}
use Rattle.meaning.proofs.KeptByOffer.{offer_keeps_sound}
use Rattle.meaning.proofs.TextMost.{Printed, PrintedLine, AllPrinted}
use Rattle.std.proofs.Common.{Result, Ok, Err}
use Rattle.meaning.specs.declared.Link.{Link}
use Rattle.meaning.specs.declared.Line.{Line}

-- Joining a tail adds at most one packet.
joined_most : (k : ℕ) (p : Packet) (qs : List (List Packet)) → length (flatten (join_tail k p qs)) ≤ suc (length (flatten qs))
unfolding join_tail flatten
joined_most k p [] = omega arith
joined_most zero p (q ∷ qs) = simp length-append (omega arith)
joined_most (suc k) p (q ∷ qs) = let i = joined_most k p qs in simp length-append (omega arith)

-- An offer adds at most one packet to the box.
offer_count : (box : Box) (n units : ℕ) (answer : Result ℕ Refusal) → length (packets (after_offer box n units answer)) ≤ suc (length (packets box))
unfolding after_offer packets waiting joined
offer_count box n units (Ok serial) =
    let p : Packet = record { serial = serial; connection = n; units = units; arrival = box.counter } in
    let j = joined_most (factor box.settings (connection box n).class) p box.queues in
    simp length-append (omega arith)
offer_count box n units (Err why) = omega arith

-- An offer does not move the counter.
pub offer_counter : (box : Box) (n units : ℕ) (answer : Result ℕ Refusal) → (after_offer box n units answer).counter ≡ box.counter
unfolding after_offer
offer_counter box n units (Ok serial) = refl
offer_counter box n units (Err why) = refl

-- The count of accepted packets of a sound box, and two more, is below 5,000,000,000.
pub accepted_printed : (box : Box) → sound box ≡ true → suc (suc box.accepted) < 5000000000
unfolding packets waiting on_link
accepted_printed box e =
    let f = sound_facts box e in
    let a = f.count_most in
    let b = f.counter_most in
    let w = f.waiting_most in
    let l = length-append (flatten box.queues) (on_link box.link) in
    let o = on_link_lem box.link in
    omega arith
  where
    on_link_lem : (l : Link) → length (on_link l) ≤ 1
    on_link_lem Link.Free = omega arith
    on_link_lem (Link.Carries p left) = omega arith

-- The numbers of the line of an offer are printed numbers.
offer_printed : (box : Box) (n units place : ℕ) → sound box ≡ true → Printed place
    → PrintedLine (Line.Offer place (offered (offer_answer box n units)).number (get_or (offered (offer_answer box n units)).fields 0 0))
unfolding offer_answer offered refusal refusal_number
offer_printed box n units place e p =
    let a = accepted_printed box e in
    rw e
    (go (stands box n) (within 1 units (connection box n).longest) (conforms (connection box n) (allowance box n) box.counter)
    (leb 1024 (length (waiting box))) a)
  where
    go : (a b c d : Bool) → suc (suc box.accepted) < 5000000000
        → PrintedLine
        (Line.Offer place
        (offered (cond (not a) (Err Refusal.NoConnection)
        (cond (not b) (Err Refusal.WrongLength)
        (cond (not c) (Err Refusal.NotFitting)
        (cond d (Err Refusal.StoreFull) (Ok (suc box.accepted))))))
        ).number
        (get_or
        (offered (cond (not a) (Err Refusal.NoConnection)
        (cond (not b) (Err Refusal.WrongLength)
        (cond (not c) (Err Refusal.NotFitting)
        (cond d (Err Refusal.StoreFull) (Ok (suc box.accepted))))))
        ).fields
        0 0))
    go false b c d h = (p, omega arith, omega arith)
    go true false c d h = (p, omega arith, omega arith)
    go true true false d h = (p, omega arith, omega arith)
    go true true true true h = (p, omega arith, omega arith)
    go true true true false h = (p, omega arith, omega arith)

-- What the offers of a slot leave behind.
pub record Offering (box after : Box) (lines : List Line) (count : ℕ) : Type 0 where
  pub still_sound : sound after ≡ true
  pub counter_stays : after.counter ≡ box.counter
  pub packets_most : length (packets after) ≤ length (packets box) + count
  pub lines_are : length lines ≡ count
  pub printed : AllPrinted lines

-- The offers of a slot print one line each, with small numbers, keep the box sound and leave the counter.
pub offers : (numbers : List ℕ) (l : List (Placed Arrival)) (box : Box) → sound box ≡ true
    → ((a : Placed Arrival) → Memᴰ a l → Printed a.place)
    → Offering box (offer_all numbers l box).box (offer_all numbers l box).lines (length l)
unfolding offer_all
offers numbers [] box e h =
    record {
      still_sound = e;
      counter_stays = refl;
      packets_most = omega arith;
      lines_are = refl;
      printed = λ k m. absurd (Memᴰ.not-nil m);
    }
offers numbers (a ∷ l) box e h =
    let n = number_of numbers a.entry.place in
    let u = a.entry.units in
    let answer = offer_answer box n u in
    let rest = offers numbers l (after_offer box n u answer) (offer_keeps_sound box n u e) (λ b m. h b (Memᴰ.tail m)) in
    let c = offer_count box n u answer in
    let m = rest.packets_most in
    let q = rest.lines_are in
    let own = offer_printed box n u a.place e (h a (Memᴰ.head refl)) in
    record {
      still_sound = rest.still_sound;
      counter_stays = rest.counter_stays ∙ offer_counter box n u answer;
      packets_most = omega arith;
      lines_are = ap suc q;
      printed =
          λ k m.
          ⊎_elim
          (λ (i : k ≡ Line.Offer a.place (offered answer).number (get_or (offered answer).fields 0 0)). subst PrintedLine (sym i) own)
          (λ i. rest.printed k i)
          (Memᴰ.cases_cons m);
    }
