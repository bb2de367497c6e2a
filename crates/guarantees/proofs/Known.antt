-- What is known of a box and the packets accepted so far, after every run.
use Prim.Native.Nat.{ℕ, suc, ◌-◌, ◌≤◌}
use mathlib.Core.Path.{◌≡◌, ap}
use mathlib.Core.Bool.{true}
use mathlib.Core.List.Memᴰ
use mathlib.Core.List.{List, [], ◌∷◌, ◌++◌, map, map-append, Memᴰ}
use mathlib.Core.Logic.{◌⊎◌, inl, inr, ⊎_elim}
use lib.ListN.{length}
use native.Mathlib.Omega.{arith}
use Rattle.laws.specs.Tests.{within_facts}
use Rattle.laws.specs.Sums.{sum_of, largest_of}
use Rattle.meaning.specs.declared.Connection.{Connection}
use Rattle.meaning.specs.Numbers.{Settings, settings_allowed}
use Rattle.meaning.specs.Envelope.{full}
use Rattle.meaning.specs.Admission.{HoldsWithoutEnd, sum_at, in_the_way}
use Rattle.meaning.specs.declared.Standing.{Standing}
use Rattle.meaning.specs.declared.Packet.{Packet}
use Rattle.meaning.specs.Box.{Box, connections, connection, stands, waiting}
use Rattle.meaning.specs.Queues.{empty_queues}
use Rattle.meaning.specs.Calls.{new_box, with_newcomer, with_standing, admission_answer, after_offer}
use Rattle.meaning.specs.Step.{link_sent, moved}
use Rattle.meaning.proofs.Facts.{SettingsFacts, settings_facts, ConnectionFacts, PacketFacts}
use Rattle.meaning.proofs.QueueLaws.{empty_flatten}
use Rattle.guarantees.specs.Runs.{Departure}
use Rattle.guarantees.proofs.Saying.{AdmissionSays, admission_says, StepGoes}
use Rattle.guarantees.proofs.WithoutEnd.{condition_test}
use Rattle.guarantees.proofs.Admitting.{taken_holds, newcomer_facts}
use Rattle.guarantees.proofs.Backlog.{OnLink}
use Rattle.guarantees.proofs.Sending.{sent_cases}
use Rattle.guarantees.proofs.Moves.{Move, refused, joins, accepts, idles, sends, departs, new_packet, Grows, move_grows}
use Rattle.guarantees.proofs.Moves.{charged_same, facts_grow, accepting, AcceptSays}
use Rattle.guarantees.proofs.Effects.{accepted_put, Taking, nothing, takes, carrying, taking, stepped_same}
use Rattle.std.proofs.Common.{Ok}
use Rattle.meaning.specs.declared.Link.{Link}

-- What is known of the box and of every packet accepted so far.
pub record Known (box : Box) (H : List Packet) : Type 0 where
  pub settings_ok : SettingsFacts box.settings
  pub connections_ok : (c : Connection) → Memᴰ c (connections box) → ConnectionFacts box.settings c
  pub conditions_hold : HoldsWithoutEnd box.settings (connections box)
  pub packets_ok : (p : Packet) → Memᴰ p H → PacketFacts box p
  pub arrivals_rise : (x y : Packet) → Memᴰ x H → Memᴰ y H → x.serial ≤ y.serial → x.arrival ≤ y.arrival
  pub waiting_known : (p : Packet) → Memᴰ p (waiting box) → Memᴰ p H
  pub link_known : (p : Packet) (left : ℕ) → box.link ≡ Link.Carries p left → OnLink box.counter H p left

-- With no connection the conditions hold.
nothing_holds : (set : Settings) → HoldsWithoutEnd set []
unfolding sum_at in_the_way sum_of largest_of
nothing_holds set t = condition_test set [] t (record { eleven_holds = omega arith; twelve_holds = λ a b. omega arith })

-- All this is known of a new box.
pub known_new : (set : Settings) → settings_allowed set ≡ true → Known (new_box set) []
unfolding new_box connections waiting empty_queues
known_new set e =
    record {
      settings_ok = settings_facts set e;
      connections_ok = λ c m. absurd (Memᴰ.not-nil m);
      conditions_hold = nothing_holds set;
      packets_ok = λ p m. absurd (Memᴰ.not-nil m);
      arrivals_rise = λ x y m n h. absurd (Memᴰ.not-nil m);
      waiting_known = λ p m. absurd (Memᴰ.not-nil (rw empty_flatten at m));
      link_known = λ p left l. absurd (let z : ◌≡◌ {A = ℕ} 0 1 = cc in omega arith);
    }

-- More history changes nothing of the packet on the link.
on_link_more : {slot : ℕ} {H : List Packet} {p : Packet} {left : ℕ} (x : Packet) → OnLink slot H p left → OnLink slot (H ++ (x ∷ [])) p left
on_link_more x o =
    record { accepted = Memᴰ.append_left (x ∷ []) o.accepted; earlier = o.earlier; some_left = o.some_left; some_sent = o.some_sent }

-- All this is still known once a connection joins.
known_joins : (box : Box) (H : List Packet) (c : Connection) (n : ℕ) → admission_answer box c ≡ Ok n →
    (rows : List Standing) → map (λ s. s.asked) rows ≡ with_newcomer box c → Grows box (with_standing box rows) →
    Known box H → Known (with_standing box rows) H
unfolding with_standing connections waiting
known_joins box H c n e rows same g k =
    let says : AdmissionSays box c (Ok n) = rw e at (admission_says box c) in
    record {
      settings_ok = k.settings_ok;
      connections_ok = λ d m. newcomer_facts box says.0 c says.1 d (rw same at m);
      conditions_hold = rw same (taken_holds box c n e);
      packets_ok = λ p m. facts_grow g p (k.packets_ok p m);
      arrivals_rise = k.arrivals_rise;
      waiting_known = k.waiting_known;
      link_known = k.link_known;
    }

-- An accepted packet changes no connection.
pub offer_connections : (box : Box) (n units : ℕ) → connections (accepting box n units) ≡ connections box
unfolding connections after_offer
offer_connections box n units = charged_same box n

-- The facts of a packet that is accepted now.
new_packet_facts : (box : Box) (n units : ℕ) → AcceptSays box n units →
    Grows box (accepting box n units) →
    PacketFacts (accepting box n units) (new_packet box n units)
new_packet_facts box n units s g =
    let w = within_facts 1 n (length box.standing) (unfold stands in s.1) in
    let u = within_facts 1 units (connection box n).longest s.2 in
    let m = g.standing_more in
    let same = g.connection_same n w.0 w.1 in
    record {
      serial_least = omega arith;
      serial_most = unfold after_offer in omega arith;
      connection_least = w.0;
      connection_most = (let l = w.1 in omega arith);
      units_least = u.0;
      units_most = rw same u.1;
      arrival_most = unfold after_offer in omega arith;
    }

-- All this is still known once a packet is accepted.
known_accepts : (box : Box) (H : List Packet) (n units : ℕ) → AcceptSays box n units →
    Grows box (accepting box n units) →
    Known box H → Known (accepting box n units) (H ++ (new_packet box n units ∷ []))
unfolding after_offer
known_accepts box H n units s g k =
    record {
      settings_ok = k.settings_ok;
      connections_ok = λ c m. k.connections_ok c (rw same at m);
      conditions_hold = rw same k.conditions_hold;
      packets_ok = λ x m. ⊎_elim (λ (h : Memᴰ x H). facts_grow g x (k.packets_ok x h))
          (λ (h : Memᴰ x (p ∷ [])). rw (Memᴰ.eq_of_singleton h) (new_packet_facts box n units s g)) (Memᴰ.append_cases H m);
      arrivals_rise = λ x y m l h. rise x y (Memᴰ.append_cases H m) (Memᴰ.append_cases H l) h;
      waiting_known = λ x m. ⊎_elim (λ (h : x ≡ p). Memᴰ.append_right H (Memᴰ.head h))
          (λ (h : Memᴰ x (waiting box)). Memᴰ.append_left (p ∷ []) (k.waiting_known x h))
          ((accepted_put box s.0 n units s.1).parts x m);
      link_known = λ x left l. on_link_more p (k.link_known x left l);
    }
  where
    p : Packet
    p = new_packet box n units

    same : connections (accepting box n units) ≡ connections box
    same = offer_connections box n units

    rise : (x y : Packet) → Memᴰ x H ⊎ Memᴰ x (p ∷ []) → Memᴰ y H ⊎ Memᴰ y (p ∷ []) →
        x.serial ≤ y.serial → x.arrival ≤ y.arrival
    rise x y (inl a) (inl b) h = k.arrivals_rise x y a b h
    rise x y (inl a) (inr b) h =
        let e = ap (λ (p : Packet). p.arrival) (Memᴰ.eq_of_singleton b) in
        let f = (k.packets_ok x a).arrival_most in
        omega arith
    rise x y (inr a) (inl b) h =
        let e = ap (λ (p : Packet). p.serial) (Memᴰ.eq_of_singleton a) in
        let f = (k.packets_ok y b).serial_most in
        absurd (omega arith)
    rise x y (inr a) (inr b) h =
        let e = ap (λ (p : Packet). p.arrival) (Memᴰ.eq_of_singleton a) in
        let f = ap (λ (p : Packet). p.arrival) (Memᴰ.eq_of_singleton b) in
        omega arith

-- All this is still known after a step.
known_steps : (box : Box) (H : List Packet) → StepGoes box → Grows box (moved box) → Known box H → Known (moved box) H
known_steps box H go g k =
    record {
      settings_ok = unfold moved in k.settings_ok;
      connections_ok = unfold moved connections in k.connections_ok;
      conditions_hold = unfold moved connections in k.conditions_hold;
      packets_ok = λ p m. facts_grow g p (k.packets_ok p m);
      arrivals_rise = k.arrivals_rise;
      waiting_known = λ p m. k.waiting_known p (still_waits (taking box go.was_sound) p ((stepped_same box).parts p m));
      link_known = unfold moved in link (taking box go.was_sound);
    }
  where
    still_waits : {l : Link} {W : List Packet} → Taking box l W → (p : Packet) → Memᴰ p W → Memᴰ p (waiting box)
    still_waits (nothing e w) p m = absurd (Memᴰ.not-nil m)
    still_waits (takes x W e put there others first) p m = others p m
    still_waits (carrying x left e) p m = m

    sent : (p : Packet) (left : ℕ) → Memᴰ p H → left ≤ p.units →
        (x : Packet) (l : ℕ) → link_sent (Link.Carries p left) ≡ Link.Carries x l → OnLink (suc box.counter) H x l
    sent p left m u x l e =
        ⊎_elim (λ (c : (left ≤ 1) × (link_sent (Link.Carries p left) ≡ Link.Free)). absurd
        (let h = c.1 in let z : ◌≡◌ {A = ℕ} 0 1 = cc in omega arith))
        (λ (c : (2 ≤ left) × (link_sent (Link.Carries p left) ≡ Link.Carries p (left - 1))).
        let h = c.1 in
        let two = c.0 in
        let y : x ≡ p = cc in
        let n : l ≡ left - 1 = cc in
        let a = (k.packets_ok p m).arrival_most in
        rw (y, n) (record { accepted = m; earlier = omega arith; some_left = omega arith; some_sent = omega arith }))
        (sent_cases p left)

    link : {l : Link} {W : List Packet} → Taking box l W → (x : Packet) (left : ℕ) → link_sent l ≡ Link.Carries x left
        → OnLink (suc box.counter) H x left
    link (nothing e w) x left h = unfold link_sent in absurd (let z : ◌≡◌ {A = ℕ} 0 1 = cc in omega arith)
    link (takes p W e put there others first) x left h = sent p p.units (k.waiting_known p there) (omega arith) x left h
    link (carrying p l e) x left h = let o = k.link_known p l e in let s = o.some_sent in sent p l o.accepted (omega arith) x left h

-- Every move keeps what is known.
pub known_moves : (box next : Box) (H H' : List Packet) (G G' : List Departure) → Known box H → Move box H G next H' G' → Known next H'
known_moves box next H H' G G' k refused = k
known_moves box next H H' G G' k (joins c n e) =
    known_joins box H c n e (box.standing ++ (record { asked = c; allowance = full c } ∷ []))
    (unfold with_newcomer connections in map-append (λ (s : Standing). s.asked) box.standing
    (record { asked = c; allowance = full c } ∷ []))
    (move_grows {H = H} {G = G} (joins c n e)) k
known_moves box next H H' G G' k (accepts n units s) = known_accepts box H n units s (move_grows {H = H} {G = G} (accepts n units s)) k
known_moves box next H H' G G' k (idles go e) = known_steps box H go (move_grows {H = H} {G = G} (idles go e)) k
known_moves box next H H' G G' k (sends go p left e l) = known_steps box H go (move_grows {H = H} {G = G} (sends go p left e l)) k
known_moves box next H H' G G' k (departs go p left e l) = known_steps box H go (move_grows {H = H} {G = G} (departs go p left e l)) k
