-- No packet is in the box at its bound: the limits by class, and the test at the slot that they point to.
use Prim.Native.Nat.{ℕ, ◌+◌, ◌*◌, ◌-◌, ◌/◌, ◌≤◌, ◌<◌}
use mathlib.Core.Path.{◌≡◌, sym, ◌∙◌, ap}
use mathlib.Core.Bool.{Bool, true, false}
use mathlib.Core.List.{List, Memᴰ}
use mathlib.Core.Logic.{◌⊎◌, inl, inr, ⊎_elim}
use native.Mathlib.Decide.{dec_lt, ℕ_discrete}
use native.Mathlib.Omega.{arith}
use Rattle.laws.specs.SumLaws.{given, given_true, sum_member}
use Rattle.meaning.specs.Numbers.{factor, bound}
use Rattle.meaning.specs.Queues.{rank}
use Rattle.meaning.specs.Envelope.{envelope}
use Rattle.meaning.specs.declared.Packet.{Packet}
use Rattle.meaning.specs.Box.{Box, connection, waiting, rank_in}
use Rattle.meaning.proofs.Facts.{ConnectionFacts}
use Rattle.guarantees.specs.Runs.{InBox}
use Rattle.guarantees.proofs.Classes.{factor_rises, bound_apart}
use Rattle.guarantees.proofs.Backlog.{waiting_work, link_work, arrived_since, InTheWay, Busy, Backlog}
use Rattle.guarantees.proofs.Known.{Known}
use Rattle.guarantees.proofs.Scheduled.{Scheduled}
use Rattle.guarantees.proofs.Limits.{up_to, up_to_facts, up_to_closed, up_to_self, beyond_rank, not_above, below, beyond}
use Rattle.guarantees.proofs.Limits.{earlier_interval, interval_of}
use Rattle.guarantees.proofs.Ahead.{KeepsEnvelope, class_of, KeepsLimits}
use Rattle.guarantees.proofs.Enough.{connection_of, none_in_the_way, far_in_the_way, near_in_the_way}
use Rattle.meaning.specs.declared.Link.{Link}

module _ (box : Box) (H : List Packet) (k : Known box H) (conforming : KeepsEnvelope envelope box H) (p : Packet) (m : Memᴰ p H) where
  -- The rotation interval.
  abbrev D : ℕ
  D = box.settings.interval

  -- The first slot of the interval in which p arrived.
  start : ℕ
  start = p.arrival / D * D

  -- The bound of a packet.
  abbrev d : Packet → ℕ
  d x = bound box.settings (class_of box x)

  -- Packet p arrived in that interval.
  starts : (start ≤ p.arrival) × (p.arrival < start + D)
  unfolding start
  starts = interval_of box.settings.interval k.settings_ok.interval_least p.arrival

  -- Every packet up to p.
  limit_any : (x : Packet) → Memᴰ x H → up_to box p x ≡ true → x.arrival + d x + 1 ≤ start + d p + D
  unfolding start bound rank_in rank
  limit_any x n e =
      let r : x.arrival / box.settings.interval + factor box.settings (class_of box x) ≤ p.arrival / box.settings.interval +
      factor box.settings (class_of box p) =
      ⊎_elim (λ l. omega arith) (λ l. let q = l.0 in omega arith) (up_to_facts box p x e) in
      not_above box.settings.interval k.settings_ok.interval_least x.arrival p.arrival _ _ r

  -- A packet up to p of the same class.
  limit_same : (x : Packet) → Memᴰ x H → up_to box p x ≡ true → class_of box x ≡ class_of box p → x.arrival ≤ p.arrival
  unfolding rank_in rank
  limit_same x n e c =
      let f = ap (factor box.settings) c in
      ⊎_elim (λ l. let s = earlier_interval box.settings.interval k.settings_ok.interval_least x.arrival p.arrival
      (omega arith) in omega arith)
      (λ l. k.arrivals_rise x p n m l.1) (up_to_facts box p x e)

  -- A packet up to p of a lower class.
  limit_below : (x : Packet) → Memᴰ x H → up_to box p x ≡ true
      → factor box.settings (class_of box x) < factor box.settings (class_of box p) →
      x.arrival + d x + 1 ≤ start + d p
  unfolding start bound rank_in rank
  limit_below x n e c =
      ⊎_elim (λ l. below box.settings.interval k.settings_ok.interval_least x.arrival p.arrival _ _ l)
      (λ l. absurd (let q = l.0 in
      let s = earlier_interval box.settings.interval k.settings_ok.interval_least p.arrival x.arrival (omega arith) in
      let a = k.arrivals_rise x p n m l.1 in omega arith))
      (up_to_facts box p x e)

  -- A packet that is not up to p, accepted before slot u.
  limit_beyond : (u : ℕ) → u ≤ p.arrival → (v : Packet) → Memᴰ v H → up_to box p v ≡ false → v.arrival < u
      → start + d p + D + 1 ≤ u + d v
  unfolding start bound rank_in rank
  limit_beyond u l v n e b =
      let s : v.serial < p.serial = elim (dec_lt v.serial p.serial) [
        | yes h ↦ h
        | no h ↦ absurd (let a = k.arrivals_rise p v m n (omega arith) in omega arith)
      ] in
      beyond box.settings.interval k.settings_ok.interval_least v.arrival p.arrival _ _ u (beyond_rank box p v e s) b

  module _ (u rest : ℕ) (early : u ≤ p.arrival) (way : (rest ≡ 0) ⊎ InTheWay (up_to box p) u rest H)
      (late : p.arrival + d p < u + rest + arrived_since (up_to box p) u H) where
    -- A packet of class 1: the test at a + d1 - u.
    first_class : class_of box p ≡ 1 → ⊥
    first_class one = ⊎_elim (none_in_the_way box H k conforming (up_to box p) u rest T limits after) in_the_way_lem way
      where
        T : ℕ
        T = p.arrival + d p - u

        sum : u + T ≡ p.arrival + d p
        sum = omega arith

        after : u + T < u + rest + arrived_since (up_to box p) u H
        after = omega arith

        limits : KeepsLimits box H (up_to box p) u T
        limits x n e g =
            elim (ℕ_discrete (class_of box x) 1) [
              | yes c ↦ inl (
                c,
                (let a = limit_same x n e (c ∙ sym one) in let b : d x ≡ d p = ap (bound box.settings) (c ∙ sym one) in
                    let s = sum in let z : x.arrival + d x ≤ u + T = omega arith in z),
              )
              | no c ↦ inr (
                c,
                (let a = limit_any x n e in let b = starts.0 in let s = sum in
                    let z : x.arrival + d x ≤ u + (T + D) = omega arith in z),
              )
            ]

        in_the_way_lem : InTheWay (up_to box p) u rest H → ⊥
        in_the_way_lem v =
            let o = limit_beyond u early v.packet v.accepted v.other v.earlier in
            let b = starts in
            let s = sum in
            let e : d p ≡ bound box.settings 1 = ap (bound box.settings) one in
            elim (dec_lt (T + D) (d v.packet)) [
              | yes far ↦ far_in_the_way box H k conforming (up_to box p) u rest T limits after v.packet v.accepted v.longer
                  (omega arith)
                  far
              | no near ↦ near_in_the_way box H k conforming (up_to box p) u rest T limits after v.packet v.accepted v.longer
                  (λ c. let w : d v.packet ≡ bound box.settings 1 = ap (bound box.settings) c in absurd (omega arith))
                  (let z : d v.packet ≤ T + D = omega arith in z)
                  (λ x n c f g. let w : d x ≡ d v.packet = ap (λ j. bound box.settings (connection box j).class) c in
                  let a = limit_any x n f in absurd (omega arith))
            ]

    -- A packet of a class above 1: the test at K x D + d - u.
    later_class : (class_of box p ≡ 1 → ⊥) → ⊥
    later_class other = ⊎_elim (none_in_the_way box H k conforming (up_to box p) u rest T limits after) in_the_way_lem way
      where
        T : ℕ
        T = start + d p - u

        class : ConnectionFacts box.settings (connection box p.connection)
        class = connection_of box H k conforming p m

        above : 2 ≤ class_of box p
        above = let l = class.class_least in elim (dec_lt 1 (class_of box p)) [ yes h ↦ h | no h ↦ absurd (other (omega arith)) ]

        apart : bound box.settings 1 + D ≤ d p
        apart = bound_apart box.settings k.settings_ok (class_of box p) above class.class_most

        sum : u + T ≡ start + d p
        sum = let s = starts in let a = apart in omega arith

        after : u + T < u + rest + arrived_since (up_to box p) u H
        after = let s = starts in let e = sum in omega arith

        limits : KeepsLimits box H (up_to box p) u T
        limits x n e g =
            elim (ℕ_discrete (class_of box x) 1) [
              | yes c ↦ inl (
                c,
                (let f = factor_rises box.settings k.settings_ok 1 (class_of box p) (omega arith) above class.class_most in
                    let q = ap (factor box.settings) c in
                    let a = limit_below x n e (omega arith) in let s = sum in let z : x.arrival + d x ≤ u + T = omega arith in z),
              )
              | no c ↦ inr (c, (let a = limit_any x n e in let s = sum in let z : x.arrival + d x ≤ u + (T + D) = omega arith in z))
            ]

        in_the_way_lem : InTheWay (up_to box p) u rest H → ⊥
        in_the_way_lem v =
            let o = limit_beyond u early v.packet v.accepted v.other v.earlier in
            let b = starts in
            let s = sum in
            let a = apart in
            far_in_the_way box H k conforming (up_to box p) u rest T limits after v.packet v.accepted v.longer (omega arith)
            (let z : T + D < d v.packet = omega arith in z)

    -- No account of the link reaches the bound of p.
    pub never_at_bound : ⊥
    never_at_bound = elim (ℕ_discrete (class_of box p) 1) [ yes c ↦ first_class c | no c ↦ later_class c ]

-- A packet of q on the link or among those that wait is work.
in_box_works : (q : Packet → Bool) (box : Box) (H : List Packet) → Known box H → (p : Packet) → q p ≡ true →
    InBox box p → 1 ≤ waiting_work q (waiting box) + link_work q box.link
unfolding waiting_work
in_box_works q box H k p e (inl n) =
    let g = given_true p.units e in
    let s = sum_member (λ (p : Packet). given (q p) p.units) (waiting box) n in
    let u = (k.packets_ok p (k.waiting_known p n)).units_least in
    omega arith
in_box_works q box H k p e (inr l) =
    let o = (k.link_known p l.0 l.1).some_left in
    let a : link_work q (Link.Carries p l.0) ≡ l.0 = unfold link_work in given_true l.0 e in
    let b = ap (link_work q) l.1 in
    omega arith

-- A packet in the box is not at its bound.
pub not_at_bound : (box : Box) (H : List Packet) → Known box H → KeepsEnvelope envelope box H → Scheduled box H → (p : Packet)
    → Memᴰ p H →
    InBox box p →
    box.counter ≡ p.arrival + bound box.settings (class_of box p) → ⊥
not_at_bound box H k conforming s p m inside now = go inside (s (up_to box p) (up_to_closed box H p))
  where
    works : 1 ≤ waiting_work (up_to box p) (waiting box) + link_work (up_to box p) box.link
    works = in_box_works (up_to box p) box H k p (up_to_self box p) inside

    early : InBox box p → (b : Busy (up_to box p) box.counter (waiting box) box.link H) → b.since ≤ p.arrival
    early (inl n) b = b.waits p n (up_to_self box p)
    early (inr l) b = b.carried p l.0 l.1 (up_to_self box p)

    go : InBox box p → Backlog (up_to box p) box.counter (waiting box) box.link H → ⊥
    go i (inl z) = let w = works in omega arith
    go i (inr b) =
        never_at_bound box H k conforming p m b.since b.rest (early i b) b.way (let a = b.account in let w = works in omega arith)
