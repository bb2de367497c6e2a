-- A step keeps a sound box sound.
use Prim.Native.Nat.{ℕ, suc, ◌+◌, ◌-◌, ◌/◌, ◌≤◌, ◌<◌}
use mathlib.Core.Path.{◌≡◌, refl, sym, ap, ◌∙◌, subst}
use mathlib.Core.Bool.{Bool, true, false, cond, ◌&&◌, and-eq-true_iff, true≢false}
use mathlib.Core.List.Memᴰ
use mathlib.Core.List.{List, [], ◌∷◌, map, flatten, Memᴰ}
use mathlib.Core.Logic.{⊎_elim}
use mathlib.Core.Option.{Option, none, some}
use native.Mathlib.Omega.{arith}
use lib.ListN.{length, length-append}
use lib.Dec.{leb, ltb}
use borrow.Author.Tests.{leb-false, eqb-true, eqb-false}
use Rattle.laws.specs.Tests.{within_facts, within_test, every, every_at, every_all, every_append}
use Rattle.laws.specs.Turns.{turn_due_lem, turn_not_due}
use Rattle.meaning.specs.Numbers.{rising_above, last_slot}
use Rattle.meaning.specs.Envelope.{allowance_kept}
use Rattle.meaning.specs.Queues.{turned, lowest_head, without_lowest_head, tag_zero_waits}
use Rattle.meaning.specs.declared.Packet.{Packet}
use Rattle.meaning.specs.declared.Standing.{Standing}
use Rattle.meaning.specs.Box.{Box, connections, connection, waiting, on_link, packets, rank_in}
use Rattle.meaning.specs.Box.{serials_rise, packet_kept, link_kept, allowances_kept, sound}
use Rattle.meaning.specs.declared.Refusal.{Refusal}
use Rattle.meaning.specs.declared.Stepped.{Stepped}
use Rattle.meaning.specs.Step.{loaded, link_taken, queues_taken, sent_answer, link_sent, turn_due, step_answer, queues_stepped, moved}
use Rattle.meaning.specs.Step.{after_step}
use Rattle.meaning.proofs.Facts.{SoundFacts, PacketFacts, sound_facts, sound_test, settings_facts, packet_facts, packet_test}
use Rattle.meaning.proofs.Allowances.{kept_later}
use Rattle.meaning.proofs.QueueLaws.{lowest_member, without_member, without_length, without_count, nothing_taken, turned_member}
use Rattle.meaning.proofs.QueueLaws.{turned_length, turned_count, tagged, tagged_without, tagged_weaken, tagged_last}
use Rattle.meaning.proofs.KeptByAdmission.{in_place, in_their_queues_tagged, rank_same}
use Rattle.meaning.proofs.TagsAndRanks.{turn_test}
use Rattle.std.proofs.Common.{Ok, Err}
use Rattle.meaning.specs.declared.Link.{Link}

-- Rising serials stay so when the head is taken.
rising_weaker : (low lower : ℕ) (ns : List ℕ) → lower ≤ low → rising_above low ns ≡ true → rising_above lower ns ≡ true
unfolding rising_above
rising_weaker low lower [] h e = refl
rising_weaker low lower (n ∷ ns) h e =
    let a = (and-eq-true_iff (ltb low n) (rising_above n ns)).0 e in
    let l = borrow.Author.Tests.ltb-true low n a.0 in
    (and-eq-true_iff (ltb lower n) (rising_above n ns)).1 (borrow.Author.Tests.lt-ltb lower n (omega arith), a.1)

-- The serials of a queue rise.
abbrev pub rises : List Packet → Bool
rises q = rising_above 0 (map (λ p. p.serial) q)

-- The serials still rise once the lowest head is taken.
rises_without : (qs : List (List Packet)) → every rises qs ≡ true → every rises (without_lowest_head qs) ≡ true
unfolding every without_lowest_head rising_above
rises_without [] e = e
rises_without ([] ∷ qs) e = rises_without qs e
rises_without ((p ∷ q) ∷ qs) e =
    let a = (and-eq-true_iff (rises (p ∷ q)) (every rises qs)).0 e in
    let b = (and-eq-true_iff (ltb 0 p.serial) (rising_above p.serial (map (λ p. p.serial) q))).0 a.0 in
    (and-eq-true_iff (rises q) (every rises qs)).1 (rising_weaker p.serial 0 (map (λ p. p.serial) q) (omega arith) b.1, a.1)

-- What holds once the link, if free, has taken a packet.
pub record Taken (box : Box) (link : Link) (queues : List (List Packet)) : Type 0 where
  pub count : length queues ≡ length box.queues
  pub placed : tagged (in_place box) 0 queues ≡ true
  pub rising : every rises queues ≡ true
  pub waits : (p : Packet) → Memᴰ p (flatten queues) → Memᴰ p (packets box)
  pub fewer : length (flatten queues) ≤ length (waiting box)
  pub same_number : length (flatten queues) + length (on_link link) ≡ length (packets box)
  pub carried : (p : Packet) → Memᴰ p (on_link link) → Memᴰ p (packets box)
  pub left_within : (p : Packet) (left : ℕ) → link ≡ Link.Carries p left → (1 ≤ left) × (left ≤ p.units)

module _ (box : Box) (facts : SoundFacts box) where
  -- Every waiting packet of a sound box lies in the queue of its tag.
  placed_now : tagged (in_place box) 0 box.queues ≡ true
  placed_now = sym (in_their_queues_tagged box 0 box.queues) ∙ facts.in_their_queues_lem

  -- Where the link was not free, it keeps its packet, and the queues stay.
  busy : (p : Packet) (left : ℕ) → box.link ≡ Link.Carries p left → Taken box (Link.Carries p left) box.queues
  unfolding waiting packets on_link serials_rise link_kept
  busy p left e =
      let n : length (on_link box.link) ≡ 1 = ap (λ l. length (on_link l)) e in
      let k = within_facts 1 left (p.units - 1) (subst (λ l. link_kept l ≡ true) e facts.link_kept_lem) in
      record {
        count = refl;
        placed = placed_now;
        rising = facts.serials_rise_lem;
        waits = λ x m. Memᴰ.append_left (on_link box.link) m;
        fewer = omega arith;
        same_number = simp length-append (omega arith);
        carried = λ x m. Memᴰ.append_right (flatten box.queues) (subst (λ l. Memᴰ x (on_link l)) (sym e) m);
        left_within = λ x l f. let i : p ≡ x = cc in let j : left ≡ l = cc in (omega arith, subst (λ y. l ≤ y.units) i (omega arith));
      }

  -- Where the link was free and nothing waits, it stays free.
  idle : box.link ≡ Link.Free → lowest_head box.queues ≡ none → Taken box Link.Free (without_lowest_head box.queues)
  unfolding waiting packets on_link serials_rise
  idle e h =
      let n : length (on_link box.link) ≡ 0 = ap (λ l. length (on_link l)) e in
      let s = nothing_taken box.queues h in
      let z : length (flatten (without_lowest_head box.queues)) ≡ length (flatten box.queues) = ap (λ q. length (flatten q)) s in
      record {
        count = without_count box.queues;
        placed = tagged_without (in_place box) 0 box.queues placed_now;
        rising = rises_without box.queues facts.serials_rise_lem;
        waits = λ x m. Memᴰ.append_left (on_link box.link) (without_member box.queues m);
        fewer = omega arith;
        same_number = simp length-append (omega arith);
        carried = λ x m. absurd (Memᴰ.not-nil m);
        left_within = λ x l f. absurd (let y : ◌≡◌ {A = ℕ} 0 1 = cc in omega arith);
      }

  -- Where the link was free and a packet waits, it takes the lowest head.
  takes : (p : Packet) → box.link ≡ Link.Free → lowest_head box.queues ≡ some p
      → Taken box (Link.Carries p p.units) (without_lowest_head box.queues)
  unfolding waiting packets on_link serials_rise
  takes p e h =
      let n : length (on_link box.link) ≡ 0 = ap (λ l. length (on_link l)) e in
      let z = without_length box.queues p h in
      let m = Memᴰ.append_left (on_link box.link) (lowest_member box.queues p h) in
      let f = packet_facts box p (every_at (packet_kept box) (packets box) facts.packets_kept m) in
      record {
        count = without_count box.queues;
        placed = tagged_without (in_place box) 0 box.queues placed_now;
        rising = rises_without box.queues facts.serials_rise_lem;
        waits = λ x k. Memᴰ.append_left (on_link box.link) (without_member box.queues k);
        fewer = omega arith;
        same_number = simp length-append (omega arith);
        carried = λ x k. mathlib.Core.List.Memᴰ.cast (Memᴰ.eq_of_singleton k) m;
        left_within =
            λ x l g. let i : p ≡ x = cc in
            let j : p.units ≡ l = cc in
            (let u = f.units_least in omega arith, subst (λ y. l ≤ y.units) i (omega arith));
      }

  -- In every case the link and the queues keep what must hold once a free link has taken a packet.
  pub taken : Taken box (link_taken box.link box.queues) (queues_taken box.link box.queues)
  unfolding link_taken queues_taken loaded
  taken = by_link box.link refl
    where
      by_head : (o : Option Packet) → lowest_head box.queues ≡ o → box.link ≡ Link.Free
          → Taken box (loaded o) (without_lowest_head box.queues)
      by_head none h e = idle e h
      by_head (some p) h e = takes p e h

      by_link : (l : Link) → box.link ≡ l → Taken box (link_taken l box.queues) (queues_taken l box.queues)
      by_link Link.Free e = by_head (lowest_head box.queues) refl e
      by_link (Link.Carries p left) e = busy p left e

-- What holds of the link once a unit is sent.
record Sent (before link : Link) : Type 0 where
  kept : link_kept link ≡ true
  still : (p : Packet) → Memᴰ p (on_link link) → Memᴰ p (on_link before)
  at_most_one : length (on_link before) ≤ suc (length (on_link link))

-- The link keeps its range once a unit is sent, and at most its one packet is gone.
sent : (link : Link) → ((p : Packet) (left : ℕ) → link ≡ Link.Carries p left → (1 ≤ left) × (left ≤ p.units)) → Sent link (link_sent link)
unfolding link_sent link_kept on_link
sent Link.Free h = record { kept = refl; still = λ p m. m; at_most_one = omega arith }
sent (Link.Carries p left) h = go (leb left 1) refl (h p left refl)
  where
    go : (last : Bool) → leb left 1 ≡ last → (1 ≤ left) × (left ≤ p.units) → Sent (Link.Carries p left) (cond last Link.Free (Link.Carries p (left - 1)))
    go true e k = record { kept = refl; still = λ x m. absurd (Memᴰ.not-nil m); at_most_one = omega arith }
    go false e k =
        let l = leb-false left 1 e in
        record { kept = within_test 1 (left - 1) (p.units - 1) (omega arith) (omega arith); still = λ x m. m; at_most_one = omega arith }

-- What holds of the queues after the turn, or without one.
record Queued (box : Box) (before queues : List (List Packet)) : Type 0 where
  count : length queues ≡ length before
  placed : tagged (in_place (moved box)) 0 queues ≡ true
  rising : every rises queues ≡ true
  waits : (p : Packet) → Memᴰ p (flatten queues) → Memᴰ p (flatten before)
  same_length : length (flatten queues) ≡ length (flatten before)

-- A rank does not change in a step.
moved_rank : (box : Box) (p : Packet) → rank_in (moved box) p ≡ rank_in box p
unfolding moved connection connections
moved_rank box p = rank_same box (moved box) p refl refl

-- A packet in the queue tagged d + t lies in the queue tagged t after a step that raises floor(now/D) by d.
moved_place : (box : Box) (d t : ℕ) (p : Packet) → suc box.counter / box.settings.interval ≡ d + box.counter / box.settings.interval
    → in_place box (d + t) p ≡ true → in_place (moved box) t p ≡ true
unfolding moved
moved_place box d t p e h =
    let q = box.counter / box.settings.interval in
    let s : suc box.counter / box.settings.interval + t ≡ q + (d + t) = omega arith in
    rw (moved_rank box p, s) h

-- The turn puts each packet one tag lower.
placed_turned : (box : Box) (qs : List (List Packet)) → tag_zero_waits qs ≡ false → tagged (in_place box) 0 qs ≡ true
    → suc box.counter / box.settings.interval ≡ 1 + box.counter / box.settings.interval
    → tagged (in_place (moved box)) 0 (turned qs) ≡ true
unfolding tag_zero_waits tagged turned
placed_turned box [] z p q = refl
placed_turned box ([] ∷ qs) z p q =
    let s : tagged (in_place box) (1 + 0) qs ≡ true = ((and-eq-true_iff (every (in_place box 0) []) (tagged (in_place box) 1 qs)).0 p).1 in
    tagged_last (in_place (moved box)) 0 qs
    (tagged_weaken (in_place box) (in_place (moved box)) 1 0 qs (λ t x m h. moved_place box 1 t x q h) s)
placed_turned box ((x ∷ q) ∷ qs) z p e = absurd (true≢false z)

-- The serials still rise once the queues are turned.
rises_turned : (qs : List (List Packet)) → every rises qs ≡ true → every rises (turned qs) ≡ true
unfolding turned every
rises_turned [] r = r
rises_turned (q ∷ qs) r =
    let a = (and-eq-true_iff (rises q) (every rises qs)).0 r in
    every_append rises qs (q ∷ []) a.1 ((and-eq-true_iff (rises q) true).1 (a.0, refl))

module _ (box : Box) (positive : 1 ≤ box.settings.interval) where
  -- Where no turn is due, the queues keep their clauses at the next slot.
  stays : (qs : List (List Packet)) → turn_due box ≡ false → tagged (in_place box) 0 qs ≡ true → every rises qs ≡ true → Queued box qs qs
  unfolding turn_due
  stays qs e p r =
      let q = turn_not_due box.settings.interval box.counter positive
      (eqb-false _ _ (sym (turn_test box.settings.interval box.counter) ∙ e)) in
      record {
        count = refl;
        placed = tagged_weaken (in_place box) (in_place (moved box)) 0 0 qs (λ t x m h. moved_place box 0 t x (omega arith) h) p;
        rising = r;
        waits = λ x m. m;
        same_length = refl;
      }

  -- Where a turn is due and tag 0 has no packet, the turned queues keep their clauses at the next slot.
  turns : (qs : List (List Packet)) → turn_due box ≡ true → tag_zero_waits qs ≡ false → tagged (in_place box) 0 qs ≡ true
      → every rises qs ≡ true
      → Queued box qs (turned qs)
  unfolding turn_due
  turns qs e z p r =
      let q = turn_due_lem box.settings.interval box.counter positive
      (eqb-true _ _ (sym (turn_test box.settings.interval box.counter) ∙ e)) in
      record {
        count = turned_count qs;
        placed = placed_turned box qs z p (omega arith);
        rising = rises_turned qs r;
        waits = λ x m. turned_member qs m;
        same_length = turned_length qs;
      }

  -- After a step that is not blocked the queues keep their clauses.
  queued : (qs : List (List Packet)) → (turn_due box && tag_zero_waits qs) ≡ false → tagged (in_place box) 0 qs ≡ true → every rises qs ≡ true
      → Queued box qs (cond (turn_due box) (turned qs) qs)
  queued qs e p r = go (turn_due box) refl (tag_zero_waits qs) refl e
    where
      go : (due : Bool) → turn_due box ≡ due → (held : Bool) → tag_zero_waits qs ≡ held → (due && held) ≡ false
          → Queued box qs (cond due (turned qs) qs)
      go false d h t f = stays qs d p r
      go true d false t f = turns qs d t p r
      go true d true t f = absurd (true≢false f)

module _ (box : Box) (facts : SoundFacts box) (before_end : box.counter < last_slot)
    (unblocked : (turn_due box && tag_zero_waits (queues_taken box.link box.queues)) ≡ false)
  where
    -- The link once it, if free, has taken a packet.
    abbrev link₁ : Link
    link₁ = link_taken box.link box.queues

    -- The queues once a free link has taken a packet.
    abbrev queues₁ : List (List Packet)
    queues₁ = queues_taken box.link box.queues

    -- The link and the queues keep their clauses once a free link has taken a packet.
    first : Taken box link₁ queues₁
    first = taken box facts

    -- The link keeps its clauses once the unit is sent.
    second : Sent link₁ (link_sent link₁)
    second = sent link₁ first.left_within

    -- The queues keep their clauses once they are turned if due.
    third : Queued box queues₁ (moved box).queues
    unfolding moved queues_stepped
    third =
        queued box (settings_facts box.settings facts.settings_allowed_lem).interval_least queues₁ unblocked first.placed
        first.rising

    -- Every packet of the box keeps its clauses at the next slot.
    packet_stays : (p : Packet) → Memᴰ p (packets box) → PacketFacts (moved box) p
    unfolding moved connection connections
    packet_stays p m =
        let f = packet_facts box p (every_at (packet_kept box) (packets box) facts.packets_kept m) in
        let a = f.arrival_most in
        record {
          serial_least = f.serial_least;
          serial_most = f.serial_most;
          connection_least = f.connection_least;
          connection_most = f.connection_most;
          units_least = f.units_least;
          units_most = f.units_most;
          arrival_most = omega arith;
        }

    -- Every packet of the box after the step was there before it.
    was_there : (p : Packet) → Memᴰ p (packets (moved box)) → Memᴰ p (packets box)
    unfolding packets waiting moved
    was_there p m =
        ⊎_elim (λ w. first.waits p (third.waits p w)) (λ l. first.carried p (second.still p l))
        (Memᴰ.append_cases (flatten (moved box).queues) m)

    -- The box after the step is sound.
    moved_sound : sound (moved box) ≡ true
    unfolding moved connections packets waiting serials_rise allowances_kept
    moved_sound =
        let a = first.same_number in
        let b = second.at_most_one in
        let c = third.same_length in
        let d = first.fewer in
        let e = facts.waiting_most in
        let f = facts.count_most in
        sound_test (moved box)
        (record {
          settings_allowed_lem = facts.settings_allowed_lem;
          connections_most = facts.connections_most;
          connections_allowed = facts.connections_allowed;
          waiting_most = omega arith;
          counter_most = before_end;
          queue_count = third.count ∙ first.count ∙ facts.queue_count;
          in_their_queues_lem = in_their_queues_tagged (moved box) 0 (moved box).queues ∙ third.placed;
          serials_rise_lem = third.rising;
          packets_kept =
              every_all (packet_kept (moved box)) (packets (moved box)) (λ p m. packet_test (moved box) p (packet_stays p (was_there p m)));
          link_kept_lem = second.kept;
          count_most = simp length-append (omega arith);
          allowances_kept_lem =
              every_all (λ (s : Standing). allowance_kept s.asked (suc box.counter) s.allowance) box.standing
              (λ s m.
              kept_later s.asked box.counter (suc box.counter) s.allowance (omega arith)
              (every_at (λ (s : Standing). allowance_kept s.asked box.counter s.allowance) box.standing
              facts.allowances_kept_lem m));
        })

-- An answer that is no refusal moves the box.
pub sent_moves : (box : Box) (departure : ℕ) (link : Link) → after_step box (Ok (sent_answer departure link)) ≡ moved box
unfolding after_step sent_answer
sent_moves box departure Link.Free = refl
sent_moves box departure (Link.Carries p left) = go (leb left 1)
  where
    go : (last : Bool)
        → after_step box (Ok (cond last (Stepped.Departed p.serial p.connection p.arrival departure)
        (Stepped.Sending p.serial (left - 1)))) ≡ moved box
    go true = refl
    go false = refl

-- A step keeps a sound box sound.
pub step_keeps_sound : (box : Box) → sound box ≡ true → sound (after_step box (step_answer box)) ≡ true
unfolding step_answer after_step
step_keeps_sound box e =
    rw e
    (go (leb last_slot box.counter) refl (turn_due box && tag_zero_waits (queues_taken box.link box.queues)) refl)
  where
    go : (at_end : Bool) → leb last_slot box.counter ≡ at_end
        → (blocked : Bool) → (turn_due box && tag_zero_waits (queues_taken box.link box.queues)) ≡ blocked
        → sound
        (after_step box
        (cond at_end (Err Refusal.CounterEnded)
        (cond blocked (Err Refusal.TurnBlocked) (Ok (sent_answer (suc box.counter) (link_taken box.link box.queues))))))
        ≡ true
    go true a b c = e
    go false a true c = e
    go false a false c =
        ap sound (sent_moves box (suc box.counter) (link_taken box.link box.queues)) ∙
        moved_sound box (sound_facts box e) (leb-false _ _ a) c
