-- An offer keeps a sound box sound.
use Prim.Native.Nat.{ℕ, zero, suc, ◌+◌, ◌-◌, ◌/◌, ◌≤◌, ◌<◌}
use mathlib.Core.Path.{◌≡◌, refl, sym, ap, ◌∙◌, subst}
use mathlib.Core.Bool.{Bool, true, false, cond, not, and-eq-true_iff}
use mathlib.Core.List.{List, [], ◌∷◌, ◌++◌, map, flatten, map-append, Memᴰ}
use mathlib.Core.Logic.{⊎_elim}
use native.Mathlib.Omega.{arith}
use lib.ListN.{length, get_or, length-append, length-map, length-set, get_or-map}
use lib.Seq.{map-set_same}
use lib.Dec.{leb, ltb}
use borrow.Author.Tests.{leb-false, lt-ltb, eq-eqb, ltb-true}
use Rattle.laws.specs.Tests.{within, within_facts, every, every_at, every_all, every_set}
use Rattle.laws.specs.Lists.{get_or_member, member_flatten}
use Rattle.meaning.specs.Numbers.{Settings, class_count, factor, largest_factor, connection_allowed, rising_above}
use Rattle.meaning.specs.Numbers.{most_waiting}
use Rattle.meaning.specs.Envelope.{full, conforms, charged, allowance_kept}
use Rattle.meaning.specs.Queues.{rank, join_tail}
use Rattle.meaning.specs.declared.Packet.{Packet}
use Rattle.meaning.specs.declared.Standing.{Standing}
use Rattle.meaning.specs.Box.{Box, connections, connection, no_connection, stands, waiting, on_link, packets, rank_in, in_their_queues}
use Rattle.meaning.specs.Box.{serials_rise, packet_kept, allowances_kept, sound}
use Rattle.meaning.specs.declared.Refusal.{Refusal}
use Rattle.meaning.specs.Calls.{allowance, charged_at, joined, offer_answer, after_offer}
use Rattle.meaning.proofs.Facts.{SoundFacts, SettingsFacts, ConnectionFacts, PacketFacts, sound_facts, sound_test, settings_facts}
use Rattle.meaning.proofs.Facts.{connection_facts, packet_facts, packet_test}
use Rattle.meaning.proofs.Allowances.{charged_kept}
use Rattle.meaning.proofs.QueueLaws.{joined_member, joined_length, joined_count, tagged, tagged_join, tagged_weaken}
use Rattle.meaning.proofs.KeptByAdmission.{in_place, in_their_queues_tagged, rank_same}
use Rattle.std.proofs.Common.{Ok, Err}

-- A factor of a rising list is at most the last one.
rising_above_lem : (low : ℕ) (ns : List ℕ) (i : ℕ) → i < length ns → rising_above low ns ≡ true → low < get_or ns i 0
unfolding rising_above
rising_above_lem low [] i h e = absurd (native.Mathlib.Nat.not-suc-le-zero h)
rising_above_lem low (n ∷ ns) zero h e = ltb-true low n ((and-eq-true_iff (ltb low n) (rising_above n ns)).0 e).0
rising_above_lem low (n ∷ ns) (suc i) h e =
    let a = (and-eq-true_iff (ltb low n) (rising_above n ns)).0 e in
    let b = rising_above_lem n ns i (omega arith) a.1 in
    let l = ltb-true low n a.0 in
    omega arith

-- Of rising numbers none is above the last.
rising_most : (low : ℕ) (ns : List ℕ) (i : ℕ) → i < length ns → rising_above low ns ≡ true → get_or ns i 0 ≤ get_or ns (length ns - 1) 0
unfolding rising_above
rising_most low [] i h e = absurd (native.Mathlib.Nat.not-suc-le-zero h)
rising_most low (n ∷ []) zero h e = omega arith
rising_most low (n ∷ []) (suc i) h e = omega arith
rising_most low (n ∷ m ∷ ns) zero h e =
    let a = (and-eq-true_iff (ltb low n) (rising_above n (m ∷ ns))).0 e in
    let b = rising_above_lem n (m ∷ ns) (length ns) (omega arith) a.1 in
    let k : suc (length ns) ≡ length (n ∷ m ∷ ns) - 1 = omega arith in
    subst (λ j. n ≤ get_or (n ∷ m ∷ ns) j 0) k (native.Mathlib.Nat.le_of_lt b)
rising_most low (n ∷ m ∷ ns) (suc i) h e =
    let a = (and-eq-true_iff (ltb low n) (rising_above n (m ∷ ns))).0 e in
    let b = rising_most n (m ∷ ns) i (omega arith) a.1 in
    let l : length (m ∷ ns) - 1 ≡ length ns = omega arith in
    let k : suc (length ns) ≡ length (n ∷ m ∷ ns) - 1 = omega arith in
    subst (λ j. get_or (m ∷ ns) i 0 ≤ get_or (n ∷ m ∷ ns) j 0) k (subst (λ j. get_or (m ∷ ns) i 0 ≤ get_or (m ∷ ns) j 0) l b)

-- The factor of any class of an allowed box is at most rP.
pub factor_within : (box : Settings) (p : ℕ) → SettingsFacts box → 1 ≤ p → p ≤ class_count box → factor box p ≤ largest_factor box
unfolding factor largest_factor class_count
factor_within box p f h k = rising_most 0 box.factors (p - 1) (omega arith) f.factors_rise

-- Serials stay rising when a higher one joins the end.
rising_last : (low : ℕ) (ns : List ℕ) (n : ℕ) → rising_above low ns ≡ true → low < n → ((x : ℕ) → Memᴰ x ns → x < n)
    → rising_above low (ns ++ (n ∷ [])) ≡ true
unfolding rising_above
rising_last low [] n e h f = (and-eq-true_iff (ltb low n) true).1 (lt-ltb low n h, refl)
rising_last low (m ∷ ns) n e h f =
    let a = (and-eq-true_iff (ltb low m) (rising_above m ns)).0 e in
    (and-eq-true_iff (ltb low m) (rising_above m (ns ++ (n ∷ [])))).1
    (a.0, rising_last m ns n a.1 (f m (mathlib.Core.List.Memᴰ.head refl)) (λ x k. f x (mathlib.Core.List.Memᴰ.tail k)))

-- The serials of a queue are those of its packets.
serial_of : (q : List Packet) {x : ℕ} → Memᴰ x (map (λ p. p.serial) q) → (p : Packet) × Memᴰ p q × (x ≡ p.serial)
serial_of [] m = absurd (mathlib.Core.List.Memᴰ.not-nil m)
serial_of (p ∷ q) {x} m =
    ⊎_elim (λ (e : x ≡ p.serial). (p, mathlib.Core.List.Memᴰ.head refl, e))
    (λ (n : Memᴰ x (map (λ p. p.serial) q)). let r = serial_of q n in (r.0, mathlib.Core.List.Memᴰ.tail r.1, r.2))
    (mathlib.Core.List.Memᴰ.cases_cons m)

-- A test of every queue holds after a join where it holds of any queue with the newcomer at its tail.
every_join : {A : Type 0} (test : List A → Bool) (k : ℕ) (p : A) (qs : List (List A)) → every test qs ≡ true
    → ((q : List A) → Memᴰ q qs → test q ≡ true → test (q ++ (p ∷ [])) ≡ true) → every test (join_tail k p qs) ≡ true
unfolding every join_tail
every_join test k p [] e f = e
every_join test zero p (q ∷ qs) e f =
    let a = (and-eq-true_iff (test q) (every test qs)).0 e in
    (and-eq-true_iff (test (q ++ (p ∷ []))) (every test qs)).1 (f q (mathlib.Core.List.Memᴰ.head refl) a.0, a.1)
every_join test (suc k) p (q ∷ qs) e f =
    let a = (and-eq-true_iff (test q) (every test qs)).0 e in
    (and-eq-true_iff (test q) (every test (join_tail k p qs))).1 (a.0, every_join test k p qs a.1 (λ r m. f r (mathlib.Core.List.Memᴰ.tail m)))

-- A connection that stands in a sound box.
module _ (box : Box) (n : ℕ) (facts : SoundFacts box) (standing : stands box n ≡ true) where
  -- The row of the connection.
  abbrev pub row : Standing
  row = get_or box.standing (n - 1) (record { asked = no_connection; allowance = full no_connection })

  -- The number of a connection that stands is 1 to the number of connections.
  pub number : (1 ≤ n) × (n ≤ length box.standing)
  unfolding stands
  number = within_facts 1 n (length box.standing) standing

  -- What the connection asked for stands in its row.
  pub row_asked : connection box n ≡ row.asked
  unfolding connection connections
  row_asked =
      get_or-map (λ (s : Standing). s.asked) box.standing (n - 1) (record { asked = no_connection; allowance = full no_connection })

  -- The connection's allowance stands in its row.
  pub row_allowance : allowance box n ≡ row.allowance
  unfolding allowance
  row_allowance =
      get_or-map (λ (s : Standing). s.allowance) box.standing (n - 1)
      (record { asked = no_connection; allowance = full no_connection })

  -- The connection's row is one of those that stand.
  pub row_stands : Memᴰ row box.standing
  row_stands =
      let k = number in
      get_or_member box.standing (n - 1) (record { asked = no_connection; allowance = full no_connection }) (omega arith)

  -- The connection keeps the facts of the table of numbers.
  pub asked_allowed : ConnectionFacts box.settings (connection box n)
  unfolding connection connections
  asked_allowed =
      let k = number in
      let l : length (map (λ s. s.asked) box.standing) ≡ length box.standing = length-map box.standing (λ s. s.asked) in
      connection_facts box.settings (connection box n)
      (every_at (connection_allowed box.settings) (connections box) facts.connections_allowed
      (get_or_member (connections box) (n - 1) no_connection (omega arith)))

  -- The connection's allowance is in range.
  pub allowance_kept_lem : allowance_kept (connection box n) box.counter (allowance box n) ≡ true
  unfolding allowances_kept
  allowance_kept_lem =
      rw (row_asked, row_allowance)
      (every_at (λ (s : Standing). allowance_kept s.asked box.counter s.allowance) box.standing facts.allowances_kept_lem
      row_stands)

  -- The tag of the queue that the connection's packets join: the factor of its class.
  abbrev pub tag : ℕ
  tag = factor box.settings (connection box n).class

  -- That tag is one of the queues' tags.
  pub tag_within : tag < length box.queues
  tag_within =
      let f = asked_allowed in
      let l = factor_within box.settings (connection box n).class (settings_facts box.settings facts.settings_allowed_lem)
      f.class_least f.class_most in
      let q = facts.queue_count in
      omega arith

-- An accepted offer.
module _ (box : Box) (n units : ℕ) (facts : SoundFacts box) (standing : stands box n ≡ true)
    (permitted : within 1 units (connection box n).longest ≡ true)
    (fit : conforms (connection box n) (allowance box n) box.counter ≡ true)
    (room : length (waiting box) < most_waiting)
  where
    -- The packet that is accepted.
    abbrev packet : Packet
    packet = record { serial = suc box.accepted; connection = n; units = units; arrival = box.counter }

    -- The box after the packet is accepted.
    abbrev after : Box
    after = after_offer box n units (Ok (suc box.accepted))

    -- The same connections stand after the offer.
    connections_stay : connections after ≡ connections box
    unfolding connections after_offer charged_at
    connections_stay =
        map-set_same (λ (s : Standing). s.asked) box.standing (n - 1)
        (record { asked = connection box n; allowance = charged (connection box n) (allowance box n) box.counter })
        (record { asked = no_connection; allowance = full no_connection })
        (row_asked box n facts standing)

    -- Each connection asks for the same after the offer.
    connection_stays : (m : ℕ) → connection after m ≡ connection box m
    unfolding connection
    connection_stays m = ap (λ cs. get_or cs (m - 1) no_connection) connections_stay

    -- As many connections stand after the offer.
    count_stays : length after.standing ≡ length box.standing
    unfolding after_offer charged_at
    count_stays = length-set box.standing (n - 1) _

    -- Every packet of the box keeps its clauses after the offer.
    packet_stays : (p : Packet) → Memᴰ p (packets box) → PacketFacts after p
    unfolding after_offer
    packet_stays p m =
        let f = packet_facts box p (every_at (packet_kept box) (packets box) facts.packets_kept m) in
        let e = connection_stays p.connection in
        let s = f.serial_most in
        let l = f.connection_most in
        let c = count_stays in
        record {
          serial_least = f.serial_least;
          serial_most = omega arith;
          connection_least = f.connection_least;
          connection_most = omega arith;
          units_least = f.units_least;
          units_most = rw e f.units_most;
          arrival_most = f.arrival_most;
        }

    -- The accepted packet keeps the clauses of a packet in the box.
    newcomer_kept : PacketFacts after packet
    unfolding after_offer
    newcomer_kept =
        let k = (number box n facts standing) in
        let u = within_facts 1 units (connection box n).longest permitted in
        let c = count_stays in
        record {
          serial_least = omega arith;
          serial_most = omega arith;
          connection_least = k.0;
          connection_most = omega arith;
          units_least = u.0;
          units_most = rw (connection_stays n) u.1;
          arrival_most = omega arith;
        }

    -- Every packet of the box after the offer keeps its clauses.
    packet_after : (p : Packet) → Memᴰ p (packets after) → PacketFacts after p
    unfolding after_offer packets waiting joined
    packet_after p m =
        ⊎_elim
        (λ (w : Memᴰ p (flatten (joined box packet))).
        ⊎_elim (λ (e : p ≡ packet). rw e newcomer_kept) (λ o. packet_stays p (mathlib.Core.List.Memᴰ.append_left (on_link box.link) o))
        (joined_member (tag box n facts standing) packet box.queues w))
        (λ (l : Memᴰ p (on_link box.link)). packet_stays p (mathlib.Core.List.Memᴰ.append_right (flatten box.queues) l))
        (mathlib.Core.List.Memᴰ.append_cases (flatten (joined box packet)) m)

    -- The serials still rise within each queue.
    serials_after : serials_rise after ≡ true
    unfolding serials_rise after_offer joined waiting packets
    serials_after =
        every_join (λ q. rising_above 0 (map (λ p. p.serial) q)) (tag box n facts standing) packet box.queues facts.serials_rise_lem
        (λ q m e.
        rw (map-append (λ (p : Packet). p.serial) q (packet ∷ []))
        (rising_last 0 (map (λ p. p.serial) q) (suc box.accepted) e (omega arith)
        (λ x k.
        let s = serial_of q k in
        let f = packet_facts box s.0
        (every_at (packet_kept box) (packets box) facts.packets_kept
        (mathlib.Core.List.Memᴰ.append_left (on_link box.link) (member_flatten box.queues m s.1))) in
        let l = f.serial_most in
        let i = s.2 in
        omega arith)))

    -- The rank of the accepted packet is floor(now/D) plus the tag of its queue.
    newcomer_rank : rank_in box packet ≡ box.counter / box.settings.interval + (0 + (tag box n facts standing))
    unfolding rank_in rank
    newcomer_rank = omega arith

    -- The accepted packet lies in the queue of its tag.
    newcomer_placed : in_place after (0 + (tag box n facts standing)) packet ≡ true
    unfolding after_offer
    newcomer_placed =
        eq-eqb (rank_in after packet) (box.counter / box.settings.interval + (0 + (tag box n facts standing)))
        (rank_same box after packet refl (connection_stays n) ∙ newcomer_rank)

    -- After the offer every packet lies in its queue.
    queues_after : in_their_queues after 0 after.queues ≡ true
    unfolding after_offer joined
    queues_after =
        let stays : tagged (in_place after) 0 box.queues ≡ true =
        tagged_weaken (in_place box) (in_place after) 0 0 box.queues
        (λ t p m h. let z : 0 + t ≡ t = omega arith in rw (rank_same box after p refl (connection_stays p.connection)) (rw z at h))
        (sym (in_their_queues_tagged box 0 box.queues) ∙ facts.in_their_queues_lem) in
        in_their_queues_tagged after 0 (joined box packet) ∙
        tagged_join (in_place after) (tag box n facts standing) 0 packet box.queues stays newcomer_placed

    -- The box after an accepted packet is sound.
    accepted_sound : sound after ≡ true
    unfolding after_offer joined waiting packets allowances_kept charged_at
    accepted_sound =
        let w = joined_length (tag box n facts standing) packet box.queues (tag_within box n facts standing) in
        let c = count_stays in
        let k = facts.connections_most in
        let m = facts.count_most in
        let f = (asked_allowed box n facts standing) in
        sound_test after
        (record {
          settings_allowed_lem = facts.settings_allowed_lem;
          connections_most = omega arith;
          connections_allowed = rw connections_stay facts.connections_allowed;
          waiting_most = omega arith;
          counter_most = facts.counter_most;
          queue_count = joined_count (tag box n facts standing) packet box.queues ∙ facts.queue_count;
          in_their_queues_lem = queues_after;
          serials_rise_lem = serials_after;
          packets_kept = every_all (packet_kept after) (packets after) (λ p m. packet_test after p (packet_after p m));
          link_kept_lem = facts.link_kept_lem;
          count_most = (let x = length-append (flatten box.queues) (on_link box.link) in simp length-append (omega arith));
          allowances_kept_lem =
              every_set (λ (s : Standing). allowance_kept s.asked box.counter s.allowance) box.standing (n - 1) _
              facts.allowances_kept_lem
              (charged_kept (connection box n) box.counter (allowance box n) f.period_least f.burst_least
              (allowance_kept_lem box n facts standing) fit);
        })

-- An offer keeps a sound box sound.
pub offer_keeps_sound : (box : Box) (n units : ℕ) → sound box ≡ true → sound (after_offer box n units (offer_answer box n units)) ≡ true
unfolding offer_answer after_offer
offer_keeps_sound box n units e =
    rw e
    (go (stands box n) refl (within 1 units (connection box n).longest) refl
    (conforms (connection box n) (allowance box n) box.counter) refl
    (leb most_waiting (length (waiting box))) refl)
  where
    go : (known : Bool) → stands box n ≡ known → (permitted : Bool) → within 1 units (connection box n).longest ≡ permitted
        → (fit : Bool) → conforms (connection box n) (allowance box n) box.counter ≡ fit → (no_room : Bool)
        → leb most_waiting (length (waiting box)) ≡ no_room
        → sound
        (after_offer box n units
        (cond (not known) (Err Refusal.NoConnection)
        (cond (not permitted) (Err Refusal.WrongLength)
        (cond (not fit) (Err Refusal.NotFitting)
        (cond no_room (Err Refusal.StoreFull) (Ok (suc box.accepted)))))))
        ≡ true
    go false a p b f c r d = e
    go true a false b f c r d = e
    go true a true b false c r d = e
    go true a true b true c true d = e
    go true a true b true c false d = accepted_sound box n units (sound_facts box e) a b c (leb-false _ _ d)
