-- The tests of document 01 and the facts that they decide, both ways: the table of numbers, and soundness.
use Prim.Native.Nat.{suc, ◌+◌, ◌%◌, ◌≤◌}
use mathlib.Core.Path.{◌≡◌}
use mathlib.Core.Bool.{true, ◌&&◌, and-eq-true_iff}
use lib.ListN.{length}
use lib.Dec.{leb, eqb}
use borrow.Author.Tests.{leb-true, le-leb, eqb-true, eq-eqb}
use Rattle.laws.specs.Tests.{within, every, within_facts, within_test}
use Rattle.meaning.specs.declared.Connection.{Connection}
use Rattle.meaning.specs.Numbers.{Settings, class_count, largest_factor, largest_bound, rising_above, interval_allowed, cycle_allowed}
use Rattle.meaning.specs.Numbers.{classes_allowed, largest_bound_allowed, settings_allowed, class_allowed, longest_allowed, burst_allowed}
use Rattle.meaning.specs.Numbers.{period_allowed, connection_allowed, most_connections, most_waiting, last_slot}
use Rattle.meaning.specs.declared.Packet.{Packet}
use Rattle.meaning.specs.Box.{Box, connections, connection, waiting, packets, stands, numbers_kept, in_their_queues, queues_kept}
use Rattle.meaning.specs.Box.{serials_rise, packet_kept, link_kept, count_kept, allowances_kept, sound}

-- The rows of the table for a box.
pub record SettingsFacts (box : Settings) : Type 0 where
  pub interval_least : 1 ≤ box.interval
  pub interval_most : box.interval ≤ 256
  pub cycle_least : 1 ≤ box.cycle
  pub cycle_most : box.cycle ≤ 4096
  pub classes_least : 1 ≤ class_count box
  pub classes_most : class_count box ≤ 8
  pub factors_rise : rising_above 0 box.factors ≡ true
  pub factor_most : largest_factor box ≤ 63
  pub bound_most : largest_bound box ≤ 1024

-- Settings that are allowed keep the facts of the table of numbers.
pub settings_facts : (box : Settings) → settings_allowed box ≡ true → SettingsFacts box
unfolding settings_allowed interval_allowed cycle_allowed classes_allowed largest_bound_allowed
settings_facts box e =
    let a = (and-eq-true_iff (interval_allowed box && cycle_allowed box && classes_allowed box) (largest_bound_allowed box)).0 e in
    let b = (and-eq-true_iff (interval_allowed box && cycle_allowed box) (classes_allowed box)).0 a.0 in
    let c = (and-eq-true_iff (interval_allowed box) (cycle_allowed box)).0 b.0 in
    let d = (and-eq-true_iff (within 1 (class_count box) 8 && rising_above 0 box.factors) (leb (largest_factor box) 63)).0 b.1 in
    let f = (and-eq-true_iff (within 1 (class_count box) 8) (rising_above 0 box.factors)).0 d.0 in
    let i = within_facts 1 box.interval 256 c.0 in
    let m = within_facts 1 box.cycle 4096 c.1 in
    let p = within_facts 1 (class_count box) 8 f.0 in
    record {
      interval_least = i.0;
      interval_most = i.1;
      cycle_least = m.0;
      cycle_most = m.1;
      classes_least = p.0;
      classes_most = p.1;
      factors_rise = f.1;
      factor_most = leb-true _ _ d.1;
      bound_most = leb-true _ _ a.1;
    }

-- The rows of the table for a connection.
pub record ConnectionFacts (box : Settings) (c : Connection) : Type 0 where
  pub class_least : 1 ≤ c.class
  pub class_most : c.class ≤ class_count box
  pub longest_least : 1 ≤ c.longest
  pub longest_most : c.longest ≤ 64
  pub burst_least : 1 ≤ c.burst
  pub burst_most : c.burst ≤ 64
  pub period_least : 1 ≤ c.period
  pub period_most : c.period ≤ box.cycle
  pub period_divides : box.cycle % c.period ≡ 0

-- A connection that is allowed keeps the facts of the table of numbers.
pub connection_facts : (box : Settings) (c : Connection) → connection_allowed box c ≡ true → ConnectionFacts box c
unfolding connection_allowed class_allowed longest_allowed burst_allowed period_allowed
connection_facts box c e =
    let a = (and-eq-true_iff (class_allowed box c && longest_allowed c && burst_allowed c) (period_allowed box c)).0 e in
    let b = (and-eq-true_iff (class_allowed box c && longest_allowed c) (burst_allowed c)).0 a.0 in
    let d = (and-eq-true_iff (class_allowed box c) (longest_allowed c)).0 b.0 in
    let f = (and-eq-true_iff (within 1 c.period box.cycle) (eqb (box.cycle % c.period) 0)).0 a.1 in
    let k = within_facts 1 c.class (class_count box) d.0 in
    let s = within_facts 1 c.longest 64 d.1 in
    let u = within_facts 1 c.burst 64 b.1 in
    let t = within_facts 1 c.period box.cycle f.0 in
    record {
      class_least = k.0;
      class_most = k.1;
      longest_least = s.0;
      longest_most = s.1;
      burst_least = u.0;
      burst_most = u.1;
      period_least = t.0;
      period_most = t.1;
      period_divides = eqb-true _ _ f.1;
    }

-- The clauses on one packet.
pub record PacketFacts (box : Box) (p : Packet) : Type 0 where
  pub serial_least : 1 ≤ p.serial
  pub serial_most : p.serial ≤ box.accepted
  pub connection_least : 1 ≤ p.connection
  pub connection_most : p.connection ≤ length box.standing
  pub units_least : 1 ≤ p.units
  pub units_most : p.units ≤ (connection box p.connection).longest
  pub arrival_most : p.arrival ≤ box.counter

-- A packet that passes the test of a packet in the box keeps its clauses.
pub packet_facts : (box : Box) (p : Packet) → packet_kept box p ≡ true → PacketFacts box p
unfolding packet_kept stands
packet_facts box p e =
    let s = within 1 p.serial box.accepted in
    let n = within 1 p.connection (length box.standing) in
    let u = within 1 p.units (connection box p.connection).longest in
    let a = (and-eq-true_iff (s && n && u) (leb p.arrival box.counter)).0 e in
    let b = (and-eq-true_iff (s && n) u).0 a.0 in
    let c = (and-eq-true_iff s n).0 b.0 in
    let fs = within_facts 1 p.serial box.accepted c.0 in
    let fn = within_facts 1 p.connection (length box.standing) c.1 in
    let fu = within_facts 1 p.units (connection box p.connection).longest b.1 in
    record {
      serial_least = fs.0;
      serial_most = fs.1;
      connection_least = fn.0;
      connection_most = fn.1;
      units_least = fu.0;
      units_most = fu.1;
      arrival_most = leb-true _ _ a.1;
    }

-- A packet that keeps the clauses of a packet in the box passes its test.
pub packet_test : (box : Box) (p : Packet) → PacketFacts box p → packet_kept box p ≡ true
unfolding packet_kept stands
packet_test box p f =
    let s = within 1 p.serial box.accepted in
    let n = within 1 p.connection (length box.standing) in
    let u = within 1 p.units (connection box p.connection).longest in
    (and-eq-true_iff (s && n && u) (leb p.arrival box.counter)).1 (
      (and-eq-true_iff (s && n) u).1 (
        (and-eq-true_iff s n).1
            (within_test 1 _ _ f.serial_least f.serial_most, within_test 1 _ _ f.connection_least f.connection_most),
        within_test 1 _ _ f.units_least f.units_most,
      ),
      le-leb _ _ f.arrival_most,
    )

-- Every clause of "A state is sound exactly when", by its name.
pub record SoundFacts (box : Box) : Type 0 where
  pub settings_allowed_lem : settings_allowed box.settings ≡ true
  pub connections_most : length box.standing ≤ most_connections
  pub connections_allowed : every (connection_allowed box.settings) (connections box) ≡ true
  pub waiting_most : length (waiting box) ≤ most_waiting
  pub counter_most : box.counter ≤ last_slot
  pub queue_count : length box.queues ≡ suc (largest_factor box.settings)
  pub in_their_queues_lem : in_their_queues box 0 box.queues ≡ true
  pub serials_rise_lem : serials_rise box ≡ true
  pub packets_kept : every (packet_kept box) (packets box) ≡ true
  pub link_kept_lem : link_kept box.link ≡ true
  pub count_most : box.accepted ≤ box.counter + length (packets box)
  pub allowances_kept_lem : allowances_kept box ≡ true

-- A sound box keeps every clause of soundness.
pub sound_facts : (box : Box) → sound box ≡ true → SoundFacts box
unfolding sound numbers_kept queues_kept count_kept
sound_facts box e =
    let n = numbers_kept box in
    let q = queues_kept box in
    let r = serials_rise box in
    let p = every (packet_kept box) (packets box) in
    let l = link_kept box.link in
    let a = (and-eq-true_iff (n && q && r && p && l && count_kept box) (allowances_kept box)).0 e in
    let b = (and-eq-true_iff (n && q && r && p && l) (count_kept box)).0 a.0 in
    let c = (and-eq-true_iff (n && q && r && p) l).0 b.0 in
    let d = (and-eq-true_iff (n && q && r) p).0 c.0 in
    let f = (and-eq-true_iff (n && q) r).0 d.0 in
    let g = (and-eq-true_iff n q).0 f.0 in
    let s = settings_allowed box.settings in
    let k = leb (length box.standing) most_connections in
    let m = every (connection_allowed box.settings) (connections box) in
    let w = leb (length (waiting box)) most_waiting in
    let h = (and-eq-true_iff (s && k && m && w) (leb box.counter last_slot)).0 g.0 in
    let i = (and-eq-true_iff (s && k && m) w).0 h.0 in
    let j = (and-eq-true_iff (s && k) m).0 i.0 in
    let o = (and-eq-true_iff s k).0 j.0 in
    let t = (and-eq-true_iff (eqb (length box.queues) (suc (largest_factor box.settings))) (in_their_queues box 0 box.queues)).0
    g.1 in
    record {
      settings_allowed_lem = o.0;
      connections_most = leb-true _ _ o.1;
      connections_allowed = j.1;
      waiting_most = leb-true _ _ i.1;
      counter_most = leb-true _ _ h.1;
      queue_count = eqb-true _ _ t.0;
      in_their_queues_lem = t.1;
      serials_rise_lem = f.1;
      packets_kept = d.1;
      link_kept_lem = c.1;
      count_most = leb-true _ _ b.1;
      allowances_kept_lem = a.1;
    }

-- A box that keeps every clause of soundness is sound.
pub sound_test : (box : Box) → SoundFacts box → sound box ≡ true
unfolding sound numbers_kept queues_kept count_kept
sound_test box f =
    let n = numbers_kept box in
    let q = queues_kept box in
    let r = serials_rise box in
    let p = every (packet_kept box) (packets box) in
    let l = link_kept box.link in
    let s = settings_allowed box.settings in
    let k = leb (length box.standing) most_connections in
    let m = every (connection_allowed box.settings) (connections box) in
    let w = leb (length (waiting box)) most_waiting in
    let numbers =
    (and-eq-true_iff (s && k && m && w) (leb box.counter last_slot)).1 (
      (and-eq-true_iff (s && k && m) w).1 (
        (and-eq-true_iff (s && k) m).1
            ((and-eq-true_iff s k).1 (f.settings_allowed_lem, le-leb _ _ f.connections_most), f.connections_allowed),
        le-leb _ _ f.waiting_most,
      ),
      le-leb _ _ f.counter_most,
    ) in
    let queues =
    (and-eq-true_iff (eqb (length box.queues) (suc (largest_factor box.settings))) (in_their_queues box 0 box.queues)).1
    (eq-eqb _ _ f.queue_count, f.in_their_queues_lem) in
    (and-eq-true_iff (n && q && r && p && l && count_kept box) (allowances_kept box)).1 (
      (and-eq-true_iff (n && q && r && p && l) (count_kept box)).1 (
        (and-eq-true_iff (n && q && r && p) l).1 (
          (and-eq-true_iff (n && q && r) p).1
              ((and-eq-true_iff (n && q) r).1 ((and-eq-true_iff n q).1 (numbers, queues), f.serials_rise_lem), f.packets_kept),
          f.link_kept_lem,
        ),
        le-leb _ _ f.count_most,
      ),
      f.allowances_kept_lem,
    )
