-- After every run each connection's allowance record stands for the packets of the connection that were accepted, and these are within
-- the connection's envelope over every closed stretch.
use Prim.Native.Nat.{ℕ, suc, ◌+◌, ◌-◌, ◌≤◌}
use mathlib.Core.Path.{◌≡◌, refl, sym, ◌∙◌, subst}
use mathlib.Core.Bool.{true}
use mathlib.Core.List.{List, [], ◌∷◌, ◌++◌}
use lib.ListN.{length, set, length-append, length-set}
use native.Mathlib.Nat.{mul-le-mul_left, le_trans}
use native.Mathlib.Decide.{dec_le, ℕ_discrete}
use native.Mathlib.Omega.{arith}
use Rattle.laws.specs.Tests.{within_facts}
use Rattle.laws.specs.Sums.{sum_of}
use Rattle.meaning.specs.declared.Connection.{Connection}
use Rattle.meaning.specs.Numbers.{Settings}
use Rattle.meaning.specs.declared.Allowance.{Allowance}
use Rattle.meaning.specs.Envelope.{may_have, envelope, count_in, fits, full, conforms, charged}
use Rattle.meaning.specs.declared.Standing.{Standing}
use Rattle.meaning.specs.declared.Packet.{Packet}
use Rattle.meaning.specs.Box.{Box, connection, stands}
use Rattle.meaning.specs.Calls.{new_box, with_standing, allowance, after_offer, charged_at}
use Rattle.meaning.specs.Step.{moved}
use Rattle.meaning.proofs.Facts.{ConnectionFacts}
use Rattle.meaning.proofs.Allowances.{Means, full_means, means_later}
use Rattle.meaning.proofs.RecordFits.{Descending, descending_later, number_of, record_answers, record_charged}
use Rattle.guarantees.specs.Runs.{Departure, slots_of, WithinEnvelope}
use Rattle.guarantees.proofs.Moves.{Move, refused, joins, accepts, idles, sends, departs, new_packet, Grows, move_grows, accepting}
use Rattle.guarantees.proofs.Moves.{AcceptSays, joining}
use Rattle.guarantees.proofs.Records.{charged_mine, charged_other, joined_other, joined_allowance, joined_connection}
use Rattle.guarantees.proofs.Effects.{connection_member}
use Rattle.guarantees.proofs.Known.{Known}
use Rattle.guarantees.proofs.Ahead.{KeepsEnvelope}
use Rattle.guarantees.proofs.Stretches.{slots_mine, slots_other, slots_none, fitting_keeps, units_count}

-- What is known of a connection with this contract, this record and these slots of accepted packets, at a slot.
pub record Meter (c : Connection) (a : Allowance) (slots : List ℕ) (at : ℕ) : Type 0 where
  pub stands_for : Means c at a (number_of c.period slots)
  pub descends : Descending at slots
  pub within_may : WithinEnvelope c slots

-- That of every connection that stands.
abbrev pub Metered : Box → List Packet → Type 0
Metered box H = (j : ℕ) → 1 ≤ j → j ≤ length box.standing → Meter (connection box j) (allowance box j) (slots_of j H) box.counter

-- It stays as the slots pass.
meter_later : {c : Connection} {a : Allowance} {slots : List ℕ} (at later : ℕ) → at ≤ later → Meter c a slots at → Meter c a slots later
meter_later {c} {a} {slots} at later h m =
    record {
      stands_for = means_later c at later a (number_of c.period slots) h m.stands_for;
      descends = descending_later at later slots h m.descends;
      within_may = m.within_may;
    }

-- The meter of a fresh connection has no packets.
meter_fresh : (c : Connection) (at : ℕ) → Meter c (full c) [] at
unfolding number_of count_in sum_of
meter_fresh c at = record { stands_for = full_means c at; descends = tt; within_may = λ x t. omega arith }

-- The record answers what the stretches answer.
pub meter_answers : (c : Connection) (a : Allowance) (slots : List ℕ) (at : ℕ) → 1 ≤ c.period → 1 ≤ c.burst → Meter c a slots at →
    conforms c a at ≡ fits (may_have c) slots at
meter_answers c a slots at h k m = record_answers c at a slots h k m.stands_for m.descends

-- A packet is accepted and charged.
meter_charged : (c : Connection) (a : Allowance) (slots : List ℕ) (at : ℕ) → 1 ≤ c.period → 1 ≤ c.burst → Meter c a slots at →
    conforms c a at ≡ true → Meter c (charged c a at) (at ∷ slots) at
meter_charged c a slots at h k m e =
    record {
      stands_for = record_charged c at a slots h k m.stands_for e;
      descends = (omega arith, m.descends);
      within_may = fitting_keeps c h at slots m.descends (sym (meter_answers c a slots at h k m) ∙ e) m.within_may;
    }

-- A connection whose contract, record and slots are what they were.
meter_stays : (box next : Box) (H H' : List Packet) (j : ℕ) → connection next j ≡ connection box j → allowance next j ≡ allowance box j →
    slots_of j H' ≡ slots_of j H → box.counter ≤ next.counter →
    Meter (connection box j) (allowance box j) (slots_of j H) box.counter →
    Meter (connection next j) (allowance next j) (slots_of j H') next.counter
meter_stays box next H H' j c a s t m = rw (c, a, s) (meter_later box.counter next.counter t m)

-- A new box has no connection.
pub metered_new : (set : Settings) → Metered (new_box set) []
unfolding new_box
metered_new set j h l = absurd (omega arith)

-- A connection joins with a fresh record.
metered_joins : (box : Box) (H : List Packet) (c : Connection) → Grows box (joining box c) →
    Known box H → Metered box H → Metered (joining box c) H
metered_joins box H c g k m j h l =
    elim (dec_le j (length box.standing)) [
      | yes o ↦ meter_stays box next H H j (g.connection_same j h o) (joined_other box row j h o) refl g.counter_more (m j h o)
      | no o ↦ (let e : j ≡ suc (length box.standing) = count o l in
          rw (
            e,
            joined_connection box row,
            joined_allowance box row,
            slots_none (suc (length box.standing)) H (λ p n q. let f = (k.packets_ok p n).connection_most in omega arith),
          ) (meter_fresh c next.counter))
    ]
  where
    row : Standing
    row = record { asked = c; allowance = full c }

    next : Box
    next = with_standing box (box.standing ++ (row ∷ []))

    count : (j ≤ length box.standing → ⊥) → j ≤ length next.standing → j ≡ suc (length box.standing)
    count o l = let s : length (box.standing ++ (row ∷ [])) ≡ length box.standing + 1 = length-append box.standing (row ∷ []) in
        let t : j ≤ length (box.standing ++ (row ∷ [])) = unfold with_standing in l in omega arith

-- A packet is accepted: its connection is charged, the others are not.
metered_accepts : (box : Box) (H : List Packet) (n units : ℕ) → AcceptSays box n units →
    Grows box (accepting box n units) → Known box H → Metered box H →
    Metered (accepting box n units) (H ++ (new_packet box n units ∷ []))
metered_accepts box H n units s g k m j h l =
    elim (ℕ_discrete n j) [
      | yes e ↦ rw (← e) mine
      | no e ↦ meter_stays box next H H' j (g.connection_same j h more) (charged_other box n units j r.0 h e) (slots_other j H p e)
          g.counter_more (m j h more)
    ]
  where
    p : Packet
    p = new_packet box n units

    H' : List Packet
    H' = H ++ (p ∷ [])

    next : Box
    next = accepting box n units

    r : (1 ≤ n) × (n ≤ length box.standing)
    r = within_facts 1 n (length box.standing) (unfold stands in s.1)

    more : j ≤ length box.standing
    more = let t : length (charged_at box n) ≡ length box.standing = unfold charged_at in length-set box.standing (n - 1) _ in
        let u : j ≤ length (charged_at box n) = unfold after_offer in l in omega arith

    c : ConnectionFacts box.settings (connection box n)
    c = k.connections_ok _ (connection_member box n r.0 r.1)

    mine : Meter (connection next n) (allowance next n) (slots_of n H') next.counter
    mine =
        rw (g.connection_same n r.0 r.1, charged_mine box n units r.0 r.1, slots_mine n H p refl)
        (unfold after_offer in meter_charged (connection box n) (allowance box n) (slots_of n H) box.counter c.period_least
        c.burst_least (m n r.0 r.1) s.3)

-- A step charges nothing.
metered_steps : (box : Box) (H : List Packet) → Grows box (moved box) → Metered box H → Metered (moved box) H
metered_steps box H g m j h l =
    let o : j ≤ length box.standing = unfold moved in l in
    meter_stays box (moved box) H H j (g.connection_same j h o) (unfold moved allowance in refl) refl g.counter_more (m j h o)

-- Every move keeps it.
pub metered_moves : (box next : Box) (H H' : List Packet) (G G' : List Departure) → Known box H → Metered box H → Move box H G next H' G'
    → Metered next H'
metered_moves box next H H' G G' k m refused = m
metered_moves box next H H' G G' k m (joins c n e) = metered_joins box H c (move_grows {H = H} {G = G} (joins c n e)) k m
metered_moves box next H H' G G' k m (accepts n units s) =
    metered_accepts box H n units s (move_grows {H = H} {G = G} (accepts n units s)) k m
metered_moves box next H H' G G' k m (idles go e) = metered_steps box H (move_grows {H = H} {G = G} (idles go e)) m
metered_moves box next H H' G G' k m (sends go p left e l) = metered_steps box H (move_grows {H = H} {G = G} (sends go p left e l)) m
metered_moves box next H H' G G' k m (departs go p left e l) = metered_steps box H (move_grows {H = H} {G = G} (departs go p left e l)) m

-- So every connection keeps its envelope, in units.
pub metered_conforms : (box : Box) (H : List Packet) → Known box H → Metered box H → KeepsEnvelope envelope box H
unfolding envelope
metered_conforms box H k m j h l x t =
    let u = units_count H j (connection box j).longest x
    (x + t) (λ p n e. subst (λ i. p.units ≤ (connection box i).longest) e (k.packets_ok p n).units_most) in
    le_trans u (mul-le-mul_left (connection box j).longest ((m j h l).within_may x t))
