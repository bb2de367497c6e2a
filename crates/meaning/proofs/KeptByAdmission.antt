-- A new box is sound, and an admission keeps a sound box sound.
use Prim.Native.Nat.{ℕ, zero, suc, ◌+◌, ◌-◌, ◌/◌, ◌≤◌, ◌<◌}
use mathlib.Core.Path.{◌≡◌, refl, sym, ap, ◌∙◌}
use mathlib.Core.Bool.{Bool, true, false, cond, not, ◌&&◌, and-eq-true_iff}
use mathlib.Core.List.Memᴰ
use mathlib.Core.List.{List, [], ◌∷◌, ◌++◌, map, flatten, map-append, Memᴰ}
use native.Mathlib.Omega.{arith}
use lib.ListN.{length, replicate, length-replicate, length-append, length-map, get_or-append}
use lib.Dec.{leb, eqb}
use borrow.Author.Tests.{leb-false}
use Rattle.laws.specs.Tests.{every, every_at, every_all, every_append}
use Rattle.laws.specs.Search.{Search, fails_at, holds}
use Rattle.meaning.specs.declared.Connection.{Connection}
use Rattle.meaning.specs.Numbers.{Settings, settings_allowed, connection_allowed, largest_factor, rising_above, most_connections}
use Rattle.meaning.specs.Envelope.{full, allowance_kept}
use Rattle.meaning.specs.Admission.{rate_holds, finite_search}
use Rattle.meaning.specs.Queues.{empty_queues}
use Rattle.meaning.specs.declared.Packet.{Packet}
use Rattle.meaning.specs.declared.Standing.{Standing}
use Rattle.meaning.specs.Box.{Box, connections, connection, no_connection, waiting, on_link, packets, rank_in, in_their_queues}
use Rattle.meaning.specs.Box.{serials_rise, packet_kept, link_kept, allowances_kept, sound}
use Rattle.meaning.specs.declared.Refusal.{Refusal}
use Rattle.meaning.specs.Calls.{new_box, with_newcomer, search_answer, admission_answer, with_standing, after_admission}
use Rattle.meaning.proofs.Facts.{SoundFacts, PacketFacts, sound_facts, sound_test, packet_facts, packet_test}
use Rattle.meaning.proofs.Allowances.{full_kept}
use Rattle.meaning.proofs.QueueLaws.{tagged, tagged_empty, tagged_weaken, empty_flatten}
use Rattle.std.proofs.Common.{Err}

-- A packet lies in the queue of this tag.
abbrev pub in_place : Box → ℕ → Packet → Bool
in_place box tag p = eqb (rank_in box p) (box.counter / box.settings.interval + tag)

-- Packets are in their queues exactly if each lies in the queue of its tag.
pub in_their_queues_tagged : (box : Box) (k : ℕ) (qs : List (List Packet)) → in_their_queues box k qs ≡ tagged (in_place box) k qs
unfolding in_their_queues tagged
in_their_queues_tagged box k [] = refl
in_their_queues_tagged box k (q ∷ qs) = ap (λ b. every (in_place box k) q && b) (in_their_queues_tagged box (suc k) qs)

-- Whoever has the same settings and the same connection ranks a packet the same.
pub rank_same : (box other : Box) (p : Packet) → other.settings ≡ box.settings
    → connection other p.connection ≡ connection box p.connection
    → rank_in other p ≡ rank_in box p
unfolding rank_in
rank_same box other p e f = cc

-- A new box is sound.
pub new_box_sound : (opening : Settings) → settings_allowed opening ≡ true → sound (new_box opening) ≡ true
unfolding new_box connections waiting packets on_link serials_rise rising_above link_kept allowances_kept every empty_queues
new_box_sound opening e =
    let n = suc (largest_factor opening) in
    let none : flatten {A = Packet} (replicate n []) ≡ [] = empty_flatten n in
    let box = new_box opening in
    sound_test box
    (record {
      settings_allowed_lem = e;
      connections_most = omega arith;
      connections_allowed = refl;
      waiting_most = rw none (omega arith);
      counter_most = omega arith;
      queue_count = length-replicate n [];
      in_their_queues_lem = in_their_queues_tagged box 0 (replicate n []) ∙ tagged_empty (in_place box) 0 n;
      serials_rise_lem = all_rise n;
      packets_kept = rw none refl;
      link_kept_lem = refl;
      count_most = omega arith;
      allowances_kept_lem = refl;
    })
  where
    all_rise : (n : ℕ) → every (λ (q : List Packet). rising_above 0 (map (λ p. p.serial) q)) (replicate n []) ≡ true
    all_rise zero = refl
    all_rise (suc n) = all_rise n

-- A connection that stood keeps its number and what it asked for when one more is taken.
connection_stays : (box : Box) (row : Standing) (n : ℕ) → 1 ≤ n → n ≤ length box.standing
    → connection (with_standing box (box.standing ++ (row ∷ []))) n ≡ connection box n
unfolding connection connections with_standing
connection_stays box row n h k =
    let short : length (map (λ s. s.asked) box.standing) ≡ length box.standing = length-map box.standing (λ s. s.asked) in
    rw (map-append (λ (s : Standing). s.asked) box.standing (row ∷ []))
    (get_or-append (map (λ s. s.asked) box.standing) (row.asked ∷ []) no_connection (n - 1) (omega arith))

-- The box with one more connection standing.
abbrev taking : Box → Connection → Box
taking box c = with_standing box (box.standing ++ (record { asked = c; allowance = full c } ∷ []))

module _ (box : Box) (c : Connection) (facts : SoundFacts box) (allowed : connection_allowed box.settings c ≡ true)
    (room : length box.standing < most_connections)
  where
    -- One connection more stands.
    one_more : length (taking box c).standing ≡ suc (length box.standing)
    unfolding with_standing
    one_more = simp length-append (omega arith)

    -- Every packet of the box keeps its clauses with the newcomer standing.
    packet_stays : (p : Packet) → Memᴰ p (packets box) → PacketFacts (taking box c) p
    unfolding with_standing
    packet_stays p m =
        let f = packet_facts box p (every_at (packet_kept box) (packets box) facts.packets_kept m) in
        let e = connection_stays box (record { asked = c; allowance = full c }) p.connection f.connection_least
        f.connection_most in
        let l = f.connection_most in
        let o = one_more in
        record {
          serial_least = f.serial_least;
          serial_most = f.serial_most;
          connection_least = f.connection_least;
          connection_most = omega arith;
          units_least = f.units_least;
          units_most = rw e f.units_most;
          arrival_most = f.arrival_most;
        }

    -- Every waiting packet stays in the queue of its tag with the newcomer standing.
    place_stays : (t : ℕ) (p : Packet) → Memᴰ p (flatten box.queues) → in_place box (0 + t) p ≡ true
        → in_place (taking box c) t p ≡ true
    unfolding with_standing waiting packets
    place_stays t p m h =
        let f = packet_facts box p
        (every_at (packet_kept box) (packets box) facts.packets_kept (Memᴰ.append_left (on_link box.link) m)) in
        let e = connection_stays box (record { asked = c; allowance = full c }) p.connection f.connection_least
        f.connection_most in
        let r : rank_in (taking box c) p ≡ rank_in box p = rank_same box (taking box c) p refl e in
        let z : 0 + t ≡ t = omega arith in
        rw r (rw z at h)

    -- The box with the newcomer standing is sound.
    taken_sound : sound (taking box c) ≡ true
    unfolding with_standing connections waiting packets serials_rise allowances_kept every
    taken_sound =
        sound_test (taking box c)
        (record {
          settings_allowed_lem = facts.settings_allowed_lem;
          connections_most = (let o = one_more in omega arith);
          connections_allowed =
              rw (map-append (λ (s : Standing). s.asked) box.standing (record { asked = c; allowance = full c } ∷ []))
              (every_append (connection_allowed box.settings) (connections box) (c ∷ []) facts.connections_allowed
              ((and-eq-true_iff (connection_allowed box.settings c) true).1 (allowed, refl)));
          waiting_most = facts.waiting_most;
          counter_most = facts.counter_most;
          queue_count = facts.queue_count;
          in_their_queues_lem =
              in_their_queues_tagged (taking box c) 0 box.queues ∙
              tagged_weaken (in_place box) (in_place (taking box c)) 0 0 box.queues place_stays
              (sym (in_their_queues_tagged box 0 box.queues) ∙ facts.in_their_queues_lem);
          serials_rise_lem = facts.serials_rise_lem;
          packets_kept = every_all (packet_kept (taking box c)) (packets box) (λ p m. packet_test (taking box c) p (packet_stays p m));
          link_kept_lem = facts.link_kept_lem;
          count_most = facts.count_most;
          allowances_kept_lem =
              every_append (λ s. allowance_kept s.asked box.counter s.allowance) box.standing
              (record { asked = c; allowance = full c } ∷ [])
              facts.allowances_kept_lem
              ((and-eq-true_iff (allowance_kept c box.counter (full c)) true).1 (full_kept c box.counter, refl));
        })

-- An admission keeps a sound box sound.
pub admission_keeps_sound : (box : Box) (c : Connection) → sound box ≡ true → sound (after_admission box c (admission_answer box c)) ≡ true
unfolding admission_answer after_admission search_answer
admission_keeps_sound box c e =
    rw e
    (go (connection_allowed box.settings c) refl (leb most_connections (length box.standing)) refl
    (rate_holds box.settings (with_newcomer box c))
    (finite_search box.settings (with_newcomer box c)))
  where
    go : (allowed : Bool) → connection_allowed box.settings c ≡ allowed → (no_room : Bool)
        → leb most_connections (length box.standing) ≡ no_room
        → (rate_holds_lem : Bool) (found : Search)
        → sound
        (after_admission box c
        (cond (not allowed) (Err Refusal.ConnectionOffRange)
        (cond no_room (Err Refusal.TableFull)
        (cond (not rate_holds_lem) (Err Refusal.RateExceeded) (search_answer (suc (length box.standing)) found)))))
        ≡ true
    go false a r b h s = e
    go true a true b h s = e
    go true a false b false s = e
    go true a false b true (fails_at t) = e
    go true a false b true holds = taken_sound box c (sound_facts box e) a (leb-false _ _ b)
