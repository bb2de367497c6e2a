-- The printed test is enough: where (11) and (12) hold at every t, no account of the link lets a packet stay to its bound.
use Prim.Native.Nat.{ℕ, ◌+◌, ◌≤◌, ◌<◌}
use mathlib.Core.Path.{◌≡◌}
use mathlib.Core.Bool.{Bool, true, cond}
use mathlib.Core.List.{List, Memᴰ}
use lib.Dec.{ltb}
use borrow.Author.Tests.{lt-ltb, le-leb, ne_eqb}
use native.Mathlib.Nat.{le_trans}
use native.Mathlib.Omega.{arith}
use Rattle.laws.specs.SumLaws.{largest_member}
use Rattle.meaning.specs.Numbers.{bound}
use Rattle.meaning.specs.Envelope.{envelope, delayed}
use Rattle.meaning.specs.Admission.{term, sum_at, in_the_way}
use Rattle.meaning.specs.declared.Packet.{Packet}
use Rattle.meaning.specs.Box.{Box, connections, connection}
use Rattle.meaning.proofs.Facts.{ConnectionFacts}
use Rattle.guarantees.proofs.Classes.{bound_most}
use Rattle.guarantees.proofs.WithoutEnd.{condition_facts, envelope_laws}
use Rattle.guarantees.proofs.Backlog.{arrived_since}
use Rattle.guarantees.proofs.Known.{Known}
use Rattle.guarantees.proofs.Effects.{connection_member}
use Rattle.guarantees.proofs.Ahead.{KeepsEnvelope, class_of, KeepsLimits, ahead_sum, ahead_spare}

module _ (box : Box) (H : List Packet) (k : Known box H) (conforming : KeepsEnvelope envelope box H) where
  -- The bound of a packet.
  abbrev pub bound_of : Packet → ℕ
  bound_of x = bound box.settings (class_of box x)

  -- The connection of an accepted packet stands, and keeps the table of numbers.
  pub connection_of : (x : Packet) → Memᴰ x H → ConnectionFacts box.settings (connection box x.connection)
  connection_of x m =
      let f = k.packets_ok x m in
      k.connections_ok _ (connection_member box x.connection f.connection_least f.connection_most)

  -- The largest s in the way counts every connection whose bound exceeds t + D.
  counts_in_the_way : (T : ℕ) (v : Packet) → Memᴰ v H → T + box.settings.interval < bound_of v →
      (connection box v.connection).longest ≤ in_the_way box.settings (connections box) T
  unfolding in_the_way
  counts_in_the_way T v m l =
      let f = k.packets_ok v m in
      rw (lt-ltb _ _ l) at
      (largest_member (λ c. cond (ltb (T + box.settings.interval) (bound box.settings c.class)) c.longest 0) (connections box)
      (connection_member box v.connection f.connection_least f.connection_most))

  -- The term of a class above 1 whose bound is at most t + D is at least s.
  term_least : (T : ℕ) (v : Packet) → Memᴰ v H → (class_of box v ≡ 1 → ⊥) → bound_of v ≤ T + box.settings.interval →
      (connection box v.connection).longest ≤ term box.settings T (connection box v.connection)
  unfolding term delayed
  term_least T v m n l =
      let law = envelope_laws box.settings (connection box v.connection) (connection_of v m) in
      rw (ne_eqb _ _ n, le-leb _ _ l) (le_trans law.at_start (law.never_falls 0 _ (omega arith)))

  module _ (q : Packet → Bool) (u rest : ℕ) where
    -- The printed test, at a T whose limits the packets ahead keep: with nothing in the way, with a packet in the way whose bound
    -- exceeds T + D, and with one whose bound does not and whose connection brings in nothing.
    module _ (T : ℕ) (limits : KeepsLimits box H q u T) (late : u + T < u + rest + arrived_since q u H) where
      -- With nothing in the way, being so late contradicts (11) at T.
      pub none_in_the_way : rest ≡ 0 → ⊥
      unfolding sum_at term
      none_in_the_way e =
          let s = ahead_sum envelope box H k conforming q u T limits in
          let c = (condition_facts _ _ T (k.conditions_hold T)).eleven_holds in
          omega arith

      -- With a packet in the way whose bound exceeds T + D, being so late contradicts (12) at T.
      pub far_in_the_way : (v : Packet) → Memᴰ v H → rest < v.units → bound box.settings 1 ≤ T
          → T + box.settings.interval < bound_of v → ⊥
      unfolding sum_at term
      far_in_the_way v m r l far =
          let s = ahead_sum envelope box H k conforming q u T limits in
          let f = connection_of v m in
          let b = bound_most box.settings k.settings_ok (class_of box v) f.class_least f.class_most in
          let c = (condition_facts _ _ T (k.conditions_hold T)).twelve_holds l (omega arith) in
          let w = counts_in_the_way T v m far in
          let p = (k.packets_ok v m).units_most in
          omega arith

      -- (11) at T, with s to spare.
      pub near_in_the_way : (v : Packet) → Memᴰ v H → rest < v.units → (class_of box v ≡ 1 → ⊥)
          → bound_of v ≤ T + box.settings.interval →
          ((x : Packet) → Memᴰ x H → x.connection ≡ v.connection → q x ≡ true → u ≤ x.arrival → ⊥) → ⊥
      unfolding sum_at term
      near_in_the_way v m r n near none =
          let f = k.packets_ok v m in
          let s = ahead_spare envelope box H k conforming q u T limits v.connection (connection box v.connection).longest
          f.connection_least f.connection_most (term_least T v m n near) none in
          let c = (condition_facts _ _ T (k.conditions_hold T)).eleven_holds in
          let p = f.units_most in
          omega arith
