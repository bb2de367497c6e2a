-- Never late: after every run no packet in the box has reached its bound, and every reported departure came by then.
use Prim.Native.Nat.{ℕ, suc, ◌≤◌, ◌<◌}
use mathlib.Core.Path.{◌≡◌, refl}
use mathlib.Core.List.Memᴰ
use mathlib.Core.List.{List, [], ◌∷◌, Memᴰ}
use mathlib.Core.Logic.{inl, inr, ⊎_elim}
use lib.ListN.{length}
use native.Mathlib.Decide.{ℕ_discrete}
use native.Mathlib.Omega.{arith}
use Rattle.laws.specs.Tests.{within_facts}
use Rattle.meaning.specs.Numbers.{Settings}
use Rattle.meaning.specs.Envelope.{envelope}
use Rattle.meaning.specs.declared.Packet.{Packet}
use Rattle.meaning.specs.Box.{Box, connection, stands, waiting}
use Rattle.meaning.specs.Queues.{empty_queues}
use Rattle.meaning.specs.Calls.{new_box, with_standing, after_offer}
use Rattle.meaning.specs.Step.{moved}
use Rattle.meaning.proofs.QueueLaws.{empty_flatten}
use Rattle.guarantees.specs.Runs.{Departure, due_by, InBox}
use Rattle.guarantees.proofs.Saying.{StepGoes}
use Rattle.guarantees.proofs.Classes.{bound_least}
use Rattle.guarantees.proofs.Moves.{Move, refused, joins, accepts, idles, sends, departs, new_packet, leaving, Grows, move_grows}
use Rattle.guarantees.proofs.Moves.{accepting, AcceptSays}
use Rattle.guarantees.proofs.Effects.{accepted_put, taking, stepped_same, connection_member, taken_in_box, in_box_before}
use Rattle.guarantees.proofs.Known.{Known}
use Rattle.guarantees.proofs.Scheduled.{Scheduled}
use Rattle.guarantees.proofs.Ahead.{KeepsEnvelope}
use Rattle.guarantees.proofs.Deadline.{not_at_bound}

-- No packet in the box is at its bound, and every departure came by then.
pub record OnTime (box : Box) (G : List Departure) : Type 0 where
  pub in_box : (p : Packet) → InBox box p → box.counter < due_by box p.connection p.arrival
  pub departed : (g : Departure) → Memᴰ g G →
      (1 ≤ g.connection) × (g.connection ≤ length box.standing) × (g.departure ≤ due_by box g.connection g.arrival)

-- A packet in the box was accepted.
pub in_box_known : (box : Box) (H : List Packet) → Known box H → (p : Packet) → InBox box p → Memᴰ p H
in_box_known box H k p (inl m) = k.waiting_known p m
in_box_known box H k p (inr l) = (k.link_known p l.0 l.1).accepted

-- The bound of a standing connection does not change.
due_same : (box next : Box) → Grows box next → (n arrival : ℕ) → 1 ≤ n → n ≤ length box.standing
    → due_by next n arrival ≡ due_by box n arrival
unfolding due_by
due_same box next g n arrival h l = rw (g.connection_same n h l, g.settings_same)

-- In a new box nothing is late.
pub on_time_new : (set : Settings) → OnTime (new_box set) []
unfolding new_box waiting empty_queues
on_time_new set = record { in_box = λ p i. absurd (empty p i); departed = λ g m. absurd (Memᴰ.not-nil m) }
  where
    empty : (p : Packet) → InBox (new_box set) p → ⊥
    empty p (inl m) = Memᴰ.not-nil (rw empty_flatten at m)
    empty p (inr l) = let h = l.1 in let z : ◌≡◌ {A = ℕ} 0 1 = cc in omega arith

-- Departures that came by their bound did so for good.
departed_stays : (box next : Box) (G : List Departure) → Grows box next → OnTime box G → (g : Departure) → Memᴰ g G →
    (1 ≤ g.connection) × (g.connection ≤ length next.standing) × (g.departure ≤ due_by next g.connection g.arrival)
departed_stays box next G w o g m =
    let d = o.departed g m in
    let s = w.standing_more in
    let b = d.1 in
    (d.0, omega arith, rw (due_same box next w g.connection g.arrival d.0 d.1) d.2)

-- A packet that was in the box and is there at the same slot.
in_box_stays : (box next : Box) (H : List Packet) (G : List Departure) → Grows box next → Known box H → OnTime box G
    → next.counter ≡ box.counter →
    (p : Packet) → InBox box p → next.counter < due_by next p.connection p.arrival
in_box_stays box next H G w k o c p i =
    let f = k.packets_ok p (in_box_known box H k p i) in
    rw (due_same box next w p.connection p.arrival f.connection_least f.connection_most, c) (o.in_box p i)

-- An accepted packet has its whole bound ahead.
on_time_accepts : (box : Box) (H : List Packet) (G : List Departure) (n units : ℕ) → AcceptSays box n units →
    Grows box (accepting box n units) → Known box H → OnTime box G →
    OnTime (accepting box n units) G
on_time_accepts box H G n units s w k o = record { in_box = inside; departed = departed_stays box _ G w o }
  where
    next : Box
    next = accepting box n units

    r : (1 ≤ n) × (n ≤ length box.standing)
    r = within_facts 1 n (length box.standing) (unfold stands in s.1)

    newest : box.counter < due_by box n box.counter
    newest =
        let c = k.connections_ok _ (connection_member box n r.0 r.1) in
        let b = bound_least box.settings k.settings_ok (connection box n).class c.class_least c.class_most in
        unfold due_by in omega arith

    same : next.counter ≡ box.counter
    same = unfold after_offer in refl

    inside : (p : Packet) → InBox next p → next.counter < due_by next p.connection p.arrival
    inside p (inl m) =
        ⊎_elim (λ (e : p ≡ new_packet box n units). rw (e, due_same box next w n box.counter r.0 r.1, same) newest)
        (λ (h : Memᴰ p (waiting box)). in_box_stays box next H G w k o same p (inl h))
        ((accepted_put box s.0 n units s.1).parts p m)
    inside p (inr l) = in_box_stays box next H G w k o same p (inr (unfold after_offer in l))

-- After a step no packet in the box is at its bound: it was before its bound, and at it it would not be there.
on_time_steps : (box : Box) (H : List Packet) (G : List Departure) → StepGoes box → Grows box (moved box) → Known box H → OnTime box G →
    Known (moved box) H → KeepsEnvelope envelope (moved box) H → Scheduled (moved box) H →
    (p : Packet) → InBox (moved box) p → (moved box).counter < due_by (moved box) p.connection p.arrival
on_time_steps box H G go w k o k' c s p i =
    elim (ℕ_discrete (moved box).counter (due_by (moved box) p.connection p.arrival)) [
      | yes e ↦ absurd (not_at_bound (moved box) H k' c s p (in_box_known (moved box) H k' p i) i (unfold due_by in e))
      | no e ↦ (let b = o.in_box p (before i) in
          let f = k.packets_ok p (in_box_known box H k p (before i)) in
          let d = due_same box (moved box) w p.connection p.arrival f.connection_least f.connection_most in
          let n : (moved box).counter ≡ suc box.counter = unfold moved in refl in
          omega arith)
    ]
  where
    before : InBox (moved box) p → InBox box p
    before (inl m) = in_box_before box (taking box go.was_sound) p (inl ((stepped_same box).parts p m))
    before (inr l) = in_box_before box (taking box go.was_sound) p (inr (unfold moved in l))

-- Every move keeps it, where the connections keep their envelopes after the move.
pub on_time_moves : (box next : Box) (H H' : List Packet) (G G' : List Departure) → Known box H → OnTime box G →
    Known next H' → KeepsEnvelope envelope next H' → Scheduled next H' → Move box H G next H' G' → OnTime next G'
on_time_moves box next H H' G G' k o k' c s refused = o
on_time_moves box next H H' G G' k o k' c s (joins d n e) =
    let w = move_grows {H = H} {G = G} (joins d n e) in
    record {
      in_box = λ p i. in_box_stays box _ H G w k o (unfold with_standing in refl) p (unfold with_standing waiting in i);
      departed = departed_stays box _ G w o;
    }
on_time_moves box next H H' G G' k o k' c s (accepts n units says) =
    on_time_accepts box H G n units says (move_grows {H = H} {G = G} (accepts n units says)) k o
on_time_moves box next H H' G G' k o k' c s (idles go e) =
    let w = move_grows {H = H} {G = G} (idles go e) in
    record { in_box = on_time_steps box H G go w k o k' c s; departed = departed_stays box _ G w o }
on_time_moves box next H H' G G' k o k' c s (sends go p left e l) =
    let w = move_grows {H = H} {G = G} (sends go p left e l) in
    record { in_box = on_time_steps box H G go w k o k' c s; departed = departed_stays box _ G w o }
on_time_moves box next H H' G G' k o k' c s (departs go p left e l) =
    let w = move_grows {H = H} {G = G} (departs go p left e l) in
    let i = taken_in_box box (taking box go.was_sound) p left e in
    let f = k.packets_ok p (in_box_known box H k p i) in
    let b = o.in_box p i in
    record {
      in_box = on_time_steps box H G go w k o k' c s;
      departed = λ g m. ⊎_elim (departed_stays box (moved box) G w o g)
          (λ (h : Memᴰ g (leaving box p ∷ [])). rw (Memᴰ.eq_of_singleton h) (
            f.connection_least,
            let n = f.connection_most in let a = w.standing_more in omega arith,
            rw (due_same box (moved box) w p.connection p.arrival f.connection_least f.connection_most) b,
          ))
          (Memᴰ.append_cases G m);
    }
