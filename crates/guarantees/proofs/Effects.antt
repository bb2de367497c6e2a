-- What a move does to the packets that wait and to the link: an accepted packet is put in; a step takes the packet that goes first,
-- if the link is free, and sends a unit.
use Prim.Native.Nat.{ℕ, ◌-◌, ◌≤◌}
use mathlib.Core.Path.{◌≡◌, refl}
use mathlib.Core.Bool.{Bool, true, false, cond}
use mathlib.Core.List.Memᴰ
use mathlib.Core.List.{List, [], map, flatten, Memᴰ}
use mathlib.Core.Logic.{◌⊎◌, inl, inr}
use mathlib.Core.Option.{Option, none, some}
use lib.ListN.{length, length-map}
use native.Mathlib.Omega.{arith}
use Rattle.laws.specs.Tests.{within_facts}
use Rattle.laws.specs.Putting.{Put, Same, same_refl}
use Rattle.laws.specs.Lists.{get_or_member}
use Rattle.meaning.specs.Numbers.{factor}
use Rattle.meaning.specs.declared.Standing.{Standing}
use Rattle.meaning.specs.declared.Packet.{Packet}
use Rattle.meaning.specs.Box.{Box, connections, connection, no_connection, stands, waiting, sound}
use Rattle.meaning.specs.Queues.{turned, lowest_head, without_lowest_head}
use Rattle.meaning.specs.Calls.{after_offer, joined}
use Rattle.meaning.specs.Step.{loaded, link_taken, queues_taken, link_sent, turn_due, queues_stepped, moved}
use Rattle.meaning.proofs.Facts.{settings_facts, ConnectionFacts, sound_facts}
use Rattle.meaning.proofs.QueueLaws.{lowest_member, without_member, nothing_waits, nothing_taken}
use Rattle.meaning.proofs.KeptByOffer.{factor_within}
use Rattle.guarantees.proofs.Admitting.{standing_facts}
use Rattle.guarantees.specs.Runs.{InBox}
use Rattle.guarantees.proofs.Choosing.{join_put, head_put, turned_same, Before, chosen_goes_first}
use Rattle.guarantees.proofs.Sending.{sent_is}
use Rattle.guarantees.proofs.Moves.{new_packet, accepting}
use Rattle.meaning.specs.declared.Link.{Link}

-- What the connection of a standing number asked for is among the connections that stand.
pub connection_member : (box : Box) (n : ℕ) → 1 ≤ n → n ≤ length box.standing → Memᴰ (connection box n) (connections box)
unfolding connection connections
connection_member box n h l =
    get_or_member (map (λ (s : Standing). s.asked) box.standing) (n - 1) no_connection (rw length-map (omega arith))

-- It keeps the table of numbers.
pub connection_kept : (box : Box) → sound box ≡ true → (n : ℕ) → 1 ≤ n → n ≤ length box.standing
    → ConnectionFacts box.settings (connection box n)
connection_kept box s n h l = standing_facts box s (connection box n) (connection_member box n h l)

-- An accepted packet is put in among those that wait.
pub accepted_put : (box : Box) → sound box ≡ true → (n units : ℕ) → stands box n ≡ true →
    Put (new_packet box n units) (waiting box) (waiting (accepting box n units))
unfolding waiting after_offer joined stands
accepted_put box s n units e =
    let w = within_facts 1 n (length box.standing) e in
    let f = sound_facts box s in
    let c = connection_kept box s n w.0 w.1 in
    let m = factor_within box.settings (connection box n).class (settings_facts box.settings f.settings_allowed_lem)
    c.class_least c.class_most in
    let q = f.queue_count in
    join_put (factor box.settings (connection box n).class) (new_packet box n units) box.queues (omega arith)

-- How a step finds the packet that it sends: none waits and the link is free, the link is free and the packet that goes first is
-- taken, or the link carries one. The indices are the link and those that wait then.
pub data Taking (box : Box) : Link → List Packet → Type 0 where
  nothing : box.link ≡ Link.Free → waiting box ≡ [] → Taking box Link.Free []
  takes : (p : Packet) (W : List Packet) → box.link ≡ Link.Free → Put p W (waiting box) → Memᴰ p (waiting box) →
      ((x : Packet) → Memᴰ x W → Memᴰ x (waiting box)) → ((x : Packet) → Memᴰ x W → Before box p x) →
      Taking box (Link.Carries p p.units) W
  carrying : (p : Packet) (left : ℕ) → box.link ≡ Link.Carries p left → Taking box (Link.Carries p left) (waiting box)

-- A step of a sound box finds its packet so.
pub taking : (box : Box) → sound box ≡ true →
    Taking box (link_taken box.link box.queues) (flatten (queues_taken box.link box.queues))
taking box s = go box.link refl
  where
    from_free : box.link ≡ Link.Free → (o : Option Packet) → lowest_head box.queues ≡ o
        → Taking box (loaded o) (flatten (without_lowest_head box.queues))
    from_free l none e =
        unfold loaded in
        rw (nothing_taken box.queues e, nothing_waits box.queues e) (nothing l (unfold waiting in nothing_waits box.queues e))
    from_free l (some p) e =
        unfold loaded waiting in
        takes p (flatten (without_lowest_head box.queues)) l (head_put p box.queues e) (lowest_member box.queues p e)
        (λ x m. without_member box.queues m) (chosen_goes_first box s p e)

    go : (l : Link) → box.link ≡ l → Taking box (link_taken l box.queues) (flatten (queues_taken l box.queues))
    go Link.Free e = unfold link_taken queues_taken in from_free e (lowest_head box.queues) refl
    go (Link.Carries p left) e = unfold link_taken queues_taken waiting in carrying p left e

-- A turn changes nothing of those that wait.
pub stepped_same : (box : Box) → Same (flatten (queues_taken box.link box.queues)) (waiting (moved box))
unfolding waiting moved queues_stepped
stepped_same box = go (turn_due box)
  where
    go : (b : Bool) → Same (flatten (queues_taken box.link box.queues))
        (flatten (cond b (turned (queues_taken box.link box.queues)) (queues_taken box.link box.queues)))
    go true = turned_same (queues_taken box.link box.queues)
    go false = same_refl _

module _ (box : Box) where
  -- A packet that a step takes was in the box.
  pub taken_in_box : {l : Link} {W : List Packet} → Taking box l W → (p : Packet) (left : ℕ) → l ≡ Link.Carries p left → InBox box p
  taken_in_box (nothing e w) p left h = absurd (let z : ◌≡◌ {A = ℕ} 0 1 = cc in omega arith)
  taken_in_box (takes x W e put there others first) p left h = let y : p ≡ x = cc in rw y (inl there)
  taken_in_box (carrying x l e) p left h = let y : p ≡ x = cc in inr (l, rw y e)

  -- So was a packet that is in the box after the step.
  pub in_box_before : {l : Link} {W : List Packet} → Taking box l W → (x : Packet)
      → Memᴰ x W ⊎ ((left : ℕ) × (link_sent l ≡ Link.Carries x left)) → InBox box x
  in_box_before (nothing e w) x (inl m) = absurd (Memᴰ.not-nil m)
  in_box_before (takes p W e put there others first) x (inl m) = inl (others x m)
  in_box_before (carrying p l e) x (inl m) = inl m
  in_box_before (nothing e w) x (inr c) = let h = c.1 in absurd (let z : ◌≡◌ {A = ℕ} 0 1 = unfold link_sent in cc in omega arith)
  in_box_before (takes p W e put there others first) x (inr c) = rw (sent_is p p.units x c.0 c.1) (inl there)
  in_box_before (carrying p l e) x (inr c) = inr (l, rw (sent_is p l x c.0 c.1) e)
