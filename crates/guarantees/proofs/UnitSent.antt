-- "send one unit": the unit that a step sends is accounted for exactly once. What the box has still to send falls by one where there is a
-- packet to send, and stays 0 where there is none.
use Prim.Native.Nat.{ℕ, ◌+◌, ◌-◌, ◌≤◌}
use mathlib.Core.Path.{◌≡◌, ap, subst}
use mathlib.Core.Bool.{true}
use mathlib.Core.List.Memᴰ
use mathlib.Core.List.{List, flatten, Memᴰ}
use mathlib.Core.Logic.{⊎_elim}
use native.Mathlib.Omega.{arith}
use Rattle.laws.specs.Tests.{within_facts, every_at}
use Rattle.laws.specs.Sums.{sum_of}
use Rattle.meaning.specs.declared.Packet.{Packet}
use Rattle.meaning.specs.Box.{Box, waiting, on_link, packets, packet_kept, link_kept, sound}
use Rattle.meaning.specs.Step.{link_taken, queues_taken, link_sent, moved}
use Rattle.meaning.proofs.Facts.{sound_facts, packet_facts}
use Rattle.guarantees.proofs.Sending.{sent_cases}
use Rattle.guarantees.proofs.Effects.{Taking, nothing, takes, carrying, taking, stepped_same}
use Rattle.meaning.specs.declared.Link.{Link}

-- Units that the packet on the link has still to send.
unfoldable pub left_on : Link → ℕ
left_on Link.Free = 0
left_on (Link.Carries p left) = left

-- Units that the box has still to send.
unfoldable pub to_send : Box → ℕ
to_send box = sum_of (λ p. p.units) (waiting box) + left_on box.link

-- Units that a step sends, by the link once a packet is taken: one, or none where there is none to send.
unfoldable pub units_sent : Link → ℕ
units_sent Link.Free = 0
units_sent (Link.Carries p left) = 1

-- What a sent unit leaves on the link is one less.
one_less : (p : Packet) (left : ℕ) → 1 ≤ left → left_on (link_sent (Link.Carries p left)) + 1 ≡ left
unfolding left_on
one_less p left h = ⊎_elim (λ c. rw c.1 (let l = c.0 in omega arith)) (λ c. rw c.1 (let l = c.0 in omega arith)) (sent_cases p left)

-- A packet that waits in a sound box has a unit to send; so has the one on the link.
waiting_unit : (box : Box) → sound box ≡ true → (p : Packet) → Memᴰ p (waiting box) → 1 ≤ p.units
unfolding packets
waiting_unit box s p m =
    (packet_facts box p (every_at (packet_kept box) (packets box) (sound_facts box s).packets_kept
    (Memᴰ.append_left (on_link box.link) m))).units_least

-- A link that carries a packet in a sound box has a unit left to send.
link_unit : (box : Box) → sound box ≡ true → (p : Packet) (left : ℕ) → box.link ≡ Link.Carries p left → 1 ≤ left
unfolding link_kept
link_unit box s p left e = (within_facts 1 left (p.units - 1) (subst (λ l. link_kept l ≡ true) e (sound_facts box s).link_kept_lem)).0

-- Wherever the packet is found, one unit less is to be sent.
found : (box : Box) → sound box ≡ true → (l : Link) (W : List Packet) → Taking box l W →
    to_send box ≡ sum_of (λ p. p.units) W + left_on (link_sent l) + units_sent l
unfolding to_send left_on units_sent link_sent sum_of
found box s l W (nothing e w) =
    let a : sum_of (λ (p : Packet). p.units) (waiting box) ≡ 0 = ap (sum_of (λ (p : Packet). p.units)) w in
    let b : left_on box.link ≡ 0 = ap left_on e in
    omega arith
found box s l W (takes p rest e put there others first) =
    let u = put.sums (λ p. p.units) in
    let o = one_less p p.units (waiting_unit box s p there) in
    let b : left_on box.link ≡ 0 = ap left_on e in
    omega arith
found box s l W (carrying p left e) =
    let o = one_less p left (link_unit box s p left e) in
    let b : left_on box.link ≡ left = ap left_on e in
    omega arith

-- The unit sent is accounted for exactly once.
pub unit_accounted : (box : Box) → sound box ≡ true → to_send box ≡ to_send (moved box) + units_sent (link_taken box.link box.queues)
unfolding to_send moved
unit_accounted box s =
    let f = found box s (link_taken box.link box.queues) (flatten (queues_taken box.link box.queues)) (taking box s) in
    let k = (stepped_same box).sums (λ p. p.units) in
    omega arith
