-- What the packets up to p bring in from slot u on is at most the sum of the test at T, if their arrivals keep the limits that the
-- test counts with. Over any envelope E: only this is used, that what was accepted of a connection keeps it.
use Prim.Native.Nat.{ℕ, ◌+◌, ◌-◌, ◌≤◌, ◌<◌}
use mathlib.Core.Path.{◌≡◌, refl, ap}
use mathlib.Core.Bool.{Bool, true, false, cond, ◌&&◌}
use mathlib.Core.List.{List, Memᴰ}
use mathlib.Core.Logic.{◌⊎◌, ⊎_elim}
use lib.Dec.{leb, eqb}
use lib.ListN.{length, get_or, length-map}
use borrow.Author.Tests.{leb-true, le-leb, lt-leb, eqb-true, eqb-false}
use native.Mathlib.Decide.{dec_le}
use native.Mathlib.Omega.{arith}
use Rattle.laws.specs.Tests.{within, within_test}
use Rattle.laws.specs.Sums.{sum_of}
use Rattle.laws.specs.SumLaws.{given, given_false, sum_mono, sum_zero}
use Rattle.laws.specs.Groups.{across, part_of, sum_groups, across_below, across_spare}
use Rattle.meaning.specs.declared.Connection.{Connection}
use Rattle.meaning.specs.Numbers.{bound}
use Rattle.meaning.specs.Envelope.{delayed}
use Rattle.meaning.specs.declared.Packet.{Packet}
use Rattle.meaning.specs.Box.{Box, connections, connection, no_connection}
use Rattle.guarantees.proofs.AnyEnvelope.{term_of}
use Rattle.guarantees.proofs.Backlog.{arrived_since}
use Rattle.guarantees.proofs.Known.{Known}

-- Units of connection j accepted in the closed stretch from slot x to slot y.
unfoldable pub units_in : List Packet → ℕ → ℕ → ℕ → ℕ
units_in H j x y = sum_of (λ p. given (eqb p.connection j && within x p.arrival y) p.units) H

-- Every connection that stands keeps its envelope E over every closed stretch.
abbrev pub KeepsEnvelope : (Connection → ℕ → ℕ) → Box → List Packet → Type 0
KeepsEnvelope E box H = (j : ℕ) → 1 ≤ j → j ≤ length box.standing → (x t : ℕ) → units_in H j x (x + t) ≤ E (connection box j) t

-- There are as many connections as stand.
pub connections_length : (box : Box) → length (connections box) ≡ length box.standing
unfolding connections
connections_length box = length-map box.standing (λ s. s.asked)

-- The class of the connection of a packet.
abbrev pub class_of : Box → Packet → ℕ
class_of box p = (connection box p.connection).class

-- The limits that the test at T counts with: up to u + T for class 1, and up to u + T + D for the others, less the bound.
abbrev pub KeepsLimits : Box → List Packet → (Packet → Bool) → ℕ → ℕ → Type 0
KeepsLimits box H q u T =
    (x : Packet) → Memᴰ x H → q x ≡ true → u ≤ x.arrival →
    ((class_of box x ≡ 1) × (x.arrival + bound box.settings (class_of box x) ≤ u + T)) ⊎
    ((class_of box x ≡ 1 → ⊥) × (x.arrival + bound box.settings (class_of box x) ≤ u + (T + box.settings.interval)))

module _ (E : Connection → ℕ → ℕ) (box : Box) (H : List Packet) (k : Known box H) (conforming : KeepsEnvelope E box H)
    (q : Packet → Bool) (u : ℕ)
  where
    -- What a packet brings in from u on, if it is of q.
    brings : Packet → ℕ
    brings p = given (q p && leb u p.arrival) p.units

    -- A packet of the connection that is counted keeps what its counting asks.
    counted : (j : ℕ) (x : Packet) (b : Bool) → (eqb x.connection j ≡ true → q x ≡ true → u ≤ x.arrival → b ≡ true) →
        given (eqb x.connection j) (brings x) ≤ given (eqb x.connection j && b) x.units
    unfolding brings
    counted j x b h = go (eqb x.connection j) refl (q x) refl (leb u x.arrival) refl
      where
        go : (c : Bool) → eqb x.connection j ≡ c → (d : Bool) → q x ≡ d → (e : Bool) → leb u x.arrival ≡ e →
            given c (given (d && e) x.units) ≤ given (c && b) x.units
        go true c true d true e = unfold given in rw (h c d (leb-true u x.arrival e)) (omega arith)
        go true c true d false e = unfold given in omega arith
        go true c false d e e' = unfold given in omega arith
        go false c d d' e e' = unfold given in omega arith

    -- A connection whose packets of q from u on keep the limit brings in at most its envelope, put off by d.
    part_kept : (j d T : ℕ) → 1 ≤ j → j ≤ length box.standing →
        ((x : Packet) → Memᴰ x H → x.connection ≡ j → q x ≡ true → u ≤ x.arrival → x.arrival + d ≤ u + T) →
        part_of (λ p. p.connection) brings H j ≤ delayed (E (connection box j)) d T
    unfolding part_of delayed
    part_kept j d T a b limit =
        elim (dec_le d T) [
          | yes l ↦ rw (le-leb d T l) (inside l)
          | no l ↦ rw (lt-leb d T (omega arith)) (outside l)
        ]
      where
        inside : d ≤ T → sum_of (λ p. given (eqb p.connection j) (brings p)) H ≤ E (connection box j) (T - d)
        inside l =
            let c = conforming j a b u (T - d) in
            let s = sum_mono (λ p. given (eqb p.connection j) (brings p))
            (λ p. given (eqb p.connection j && within u p.arrival (u + (T - d))) p.units) H
            (λ x m. counted j x (within u x.arrival (u + (T - d)))
            (λ e f g. within_test u x.arrival (u + (T - d)) g (let h = limit x m (eqb-true _ _ e) f g in omega arith))) in
            unfold units_in in omega arith

        outside : (d ≤ T → ⊥) → sum_of (λ p. given (eqb p.connection j) (brings p)) H ≤ 0
        outside l =
            let s = sum_zero (λ p. given (eqb p.connection j) (brings p)) H
            (λ x m. let c = counted j x false (λ e f g. absurd (let h = limit x m (eqb-true _ _ e) f g in omega arith)) in
            let z = given_false {b = eqb x.connection j && false} x.units (mathlib.Core.Bool.and-false (eqb x.connection j)) in
            omega arith) in
            omega arith

    module _ (T : ℕ) (limits : KeepsLimits box H q u T) where
      -- A connection's part is at most its term of the test at T.
      part_term : (j : ℕ) → 1 ≤ j → j ≤ length box.standing →
          part_of (λ p. p.connection) brings H j ≤ term_of E box.settings T (connection box j)
      part_term j a b = go (eqb (connection box j).class 1) refl
        where
          d : ℕ
          d = bound box.settings (connection box j).class

          go : (c : Bool) → eqb (connection box j).class 1 ≡ c →
              part_of (λ p. p.connection) brings H j ≤
              cond c (delayed (E (connection box j)) d T) (delayed (E (connection box j)) d (T + box.settings.interval))
          go true e =
              part_kept j d T a b (λ x m n f g.
              ⊎_elim (λ (l : (class_of box x ≡ 1) × (x.arrival + bound box.settings (class_of box x) ≤ u + T)). rw n at l.1)
              (λ (l : (class_of box x ≡ 1 → ⊥) × (x.arrival + bound box.settings (class_of box x) ≤ u + (T + box.settings.interval))).
              absurd (l.0 (rw n (eqb-true _ _ e))))
              (limits x m f g))
          go false e =
              part_kept j d (T + box.settings.interval) a b (λ x m n f g.
              ⊎_elim (λ (l : (class_of box x ≡ 1) × (x.arrival + bound box.settings (class_of box x) ≤ u + T)).
              absurd (eqb-false _ _ e (rw n at l.0)))
              (λ (l : (class_of box x ≡ 1 → ⊥) × (x.arrival + bound box.settings (class_of box x) ≤ u + (T + box.settings.interval))).
              rw n at l.1)
              (limits x m f g))

      -- What arrived, connection by connection.
      by_groups : arrived_since q u H ≡ across (part_of (λ p. p.connection) brings H) 1 (length box.standing)
      unfolding arrived_since brings
      by_groups =
          sum_groups (λ p. p.connection) brings H 1 (length box.standing)
          (λ x m. let f = k.packets_ok x m in (f.connection_least, let l = f.connection_most in omega arith))

      -- Each part is at most the term of its connection in the list of those that stand.
      each : (i : ℕ) → i < length (connections box)
          → part_of (λ p. p.connection) brings H (1 + i) ≤ term_of E box.settings T (get_or (connections box) i no_connection)
      unfolding connection
      each i b =
          let e : 1 + i - 1 ≡ i = omega arith in
          let l = connections_length box in
          rw e at (part_term (1 + i) (omega arith) (omega arith))

      -- What the packets of q bring in from u on is at most the sum of the test at T.
      pub ahead_sum : arrived_since q u H ≤ sum_of (term_of E box.settings T) (connections box)
      ahead_sum =
          let l = connections_length box in
          let s = across_below (part_of (λ p. p.connection) brings H) (term_of E box.settings T) (connections box) no_connection 1 each in
          let g = by_groups in
          let e = ap (across (part_of (λ p. p.connection) brings H) 1) l in
          omega arith

      -- And if a connection brings in nothing while its term is at least s, the sum has s to spare.
      pub ahead_spare : (j s : ℕ) → 1 ≤ j → j ≤ length box.standing → s ≤ term_of E box.settings T (connection box j) →
          ((x : Packet) → Memᴰ x H → x.connection ≡ j → q x ≡ true → u ≤ x.arrival → ⊥) →
          arrived_since q u H + s ≤ sum_of (term_of E box.settings T) (connections box)
      unfolding connection part_of
      ahead_spare j s a b t none =
          let l = connections_length box in
          let z = sum_zero (λ p. given (eqb p.connection j) (brings p)) H
          (λ x m. let c = counted j x false (λ e f g. absurd (none x m (eqb-true _ _ e) f g)) in
          let z = given_false {b = eqb x.connection j && false} x.units (mathlib.Core.Bool.and-false (eqb x.connection j)) in
          omega arith) in
          let e : 1 + (j - 1) ≡ j = omega arith in
          let w : part_of (λ p. p.connection) brings H (1 + (j - 1)) ≡ 0 = rw e z in
          let r = across_spare (part_of (λ p. p.connection) brings H) (term_of E box.settings T) (connections box) no_connection 1 s
          (j - 1)
          (omega arith) (omega arith) each in
          let g = by_groups in
          let o = ap (across (part_of (λ p. p.connection) brings H) 1) l in
          omega arith
