-- Demand 3: what holds of every run from a new box, any list of admissions, offers and steps, refused ones among them.
use Prim.Native.Nat.{ℕ, suc, ◌+◌, ◌≤◌, ◌<◌}
use mathlib.Core.Path.{◌≡◌, refl, sym, ◌∙◌, ap, subst}
use mathlib.Core.Bool.{Bool, true, false, ◌&&◌, and-eq-true_iff, true≢false}
use mathlib.Core.List.{List, Memᴰ, map}
use mathlib.Core.Logic.{◌⊎◌, inl, inr, ⊎_elim, ◌↔◌}
use lib.Dec.{eqb}
use lib.ListN.{length}
use borrow.Author.Tests.{leb-true, eqb-true, eq-eqb}
use native.Mathlib.Omega.{arith}
use Rattle.laws.specs.Tests.{within, within_facts, within_test, bool_cases}
use Rattle.laws.specs.Sums.{sum_of}
use Rattle.laws.specs.SumLaws.{given, given_true, given_false, sum_member, sum_one, sum_zero, sum_found}
use Rattle.meaning.specs.declared.Refusal.{Refusal}
use Rattle.meaning.specs.Numbers.{Settings, settings_allowed, most_waiting}
use Rattle.meaning.specs.Envelope.{may_have, fits, conforms}
use Rattle.meaning.specs.declared.Packet.{Packet}
use Rattle.meaning.specs.Box.{Box, connection, stands, waiting, on_link, sound}
use Rattle.meaning.specs.Calls.{new_box, allowance, offer_answer}
use Rattle.meaning.proofs.Facts.{sound_facts}
use Rattle.meaning.proofs.KeepsSound.{new_box_sound}
use Rattle.guarantees.specs.Runs.{Call, Departure, in_order, slots_of, WithinEnvelope, times_among, times_departed, due_by, box_of}
use Rattle.guarantees.specs.Runs.{accepted_of, departed_of, count_from, InBox}
use Rattle.guarantees.proofs.Saying.{OfferRefused, offer_unsound, no_connection_lem, wrong_length, not_fitting, store_full, OfferSays}
use Rattle.guarantees.proofs.Saying.{offer_says}
use Rattle.guarantees.proofs.Effects.{connection_member}
use Rattle.guarantees.proofs.Metered.{meter_answers}
use Rattle.guarantees.proofs.OnTime.{in_box_known}
use Rattle.guarantees.proofs.Once.{of_packets, of_departures}
use Rattle.guarantees.proofs.Always.{Always, always, sound_along}
use Rattle.std.proofs.Common.{Result, Ok, Err}
use Rattle.meaning.specs.declared.Link.{Link}

-- The packet of this serial, connection and arrival.
marks : ℕ → ℕ → ℕ → ℕ → ℕ → ℕ → Bool
marks s c a serial connection arrival = eqb serial s && (eqb connection c && eqb arrival a)

-- It has these three numbers.
marks_facts : (s c a serial connection arrival : ℕ) → marks s c a serial connection arrival ≡ true
    → (serial ≡ s) × (connection ≡ c) × (arrival ≡ a)
unfolding marks
marks_facts s c a serial connection arrival e =
    let p = (and-eq-true_iff (eqb serial s) (eqb connection c && eqb arrival a)).0 e in
    let q = (and-eq-true_iff (eqb connection c) (eqb arrival a)).0 p.1 in
    (eqb-true _ _ p.0, eqb-true _ _ q.0, eqb-true _ _ q.1)

-- A packet is marked by its own three numbers.
marks_self : (s c a : ℕ) → marks s c a s c a ≡ true
unfolding marks
marks_self s c a =
    (and-eq-true_iff (eqb s s) (eqb c c && eqb a a)).1
    (eq-eqb s s refl, (and-eq-true_iff (eqb c c) (eqb a a)).1 (eq-eqb c c refl, eq-eqb a a refl))

-- A sound box gives 9 to an offer of permitted length whose connection has no credit left.
nine_given : (box : Box) (n units : ℕ) → sound box ≡ true → stands box n ≡ true → within 1 units (connection box n).longest ≡ true →
    conforms (connection box n) (allowance box n) box.counter ≡ false → offer_answer box n units ≡ Err Refusal.NotFitting
unfolding offer_answer
nine_given box n units a b c d = rw (a, b, c, d)

module _ (set : Settings) (allowed : settings_allowed set ≡ true) (calls : List Call) where
  -- "A new box is sound, and every call on a sound state leaves a sound one": so is the box after every run.
  pub every_run_sound : sound (box_of set calls) ≡ true
  every_run_sound = sound_along (new_box set) calls (new_box_sound set allowed)

  -- Within the envelope: over every closed stretch from slot x to slot x + t a connection has at most b + floor(t/T) accepted packets.
  pub within_the_envelope : (n : ℕ) → stands (box_of set calls) n ≡ true →
      WithinEnvelope (connection (box_of set calls) n) (slots_of n (accepted_of set calls))
  unfolding stands
  within_the_envelope n s x t =
      let w = within_facts 1 n (length (box_of set calls).standing) s in
      ((always set allowed calls).metered n w.0 w.1).within_may x t

  -- And each of them has a length from 1 to s, of a connection that stands.
  pub each_length_permitted : (p : Packet) → Memᴰ p (accepted_of set calls) →
      (stands (box_of set calls) p.connection ≡ true) ×
      (within 1 p.units (connection (box_of set calls) p.connection).longest ≡ true)
  unfolding stands
  each_length_permitted p m =
      let f = (always set allowed calls).known.packets_ok p m in
      (within_test 1 _ _ f.connection_least f.connection_most, within_test 1 _ _ f.units_least f.units_most)

  -- In a run the allowance record of a connection answers exactly what the definition over stretches answers.
  pub record_answers_stretches : (n : ℕ) → stands (box_of set calls) n ≡ true →
      conforms (connection (box_of set calls) n) (allowance (box_of set calls) n) (box_of set calls).counter ≡
      fits (may_have (connection (box_of set calls) n)) (slots_of n (accepted_of set calls)) (box_of set calls).counter
  unfolding stands
  record_answers_stretches n s =
      let box = box_of set calls in
      let a = always set allowed calls in
      let r = within_facts 1 n (length (box_of set calls).standing) s in
      let c = a.known.connections_ok _ (connection_member box n r.0 r.1) in
      meter_answers (connection box n) (allowance box n) (slots_of n (accepted_of set calls)) box.counter c.period_least
      c.burst_least
      (a.metered n r.0 r.1)

  -- Turned away: an offer of permitted length that fits is refused only with 10, and only when 1,024 packets wait.
  pub turned_away_only_when_full : (n units : ℕ) → stands (box_of set calls) n ≡ true →
      within 1 units (connection (box_of set calls) n).longest ≡ true →
      fits (may_have (connection (box_of set calls) n)) (slots_of n (accepted_of set calls)) (box_of set calls).counter ≡ true →
      (offer_answer (box_of set calls) n units ≡ Ok (suc (box_of set calls).accepted)) ⊎
      ((offer_answer (box_of set calls) n units ≡ Err Refusal.StoreFull) × (length (waiting (box_of set calls)) ≡ most_waiting))
  turned_away_only_when_full n units s l f = go (offer_answer box n units) refl (offer_says box n units)
    where
      box : Box
      box = box_of set calls

      conforming : conforms (connection box n) (allowance box n) box.counter ≡ true
      conforming = record_answers_stretches n s ∙ f

      go : (o : Result ℕ Refusal) → offer_answer box n units ≡ o → OfferSays box n units o →
          (o ≡ Ok (suc box.accepted)) ⊎ ((o ≡ Err Refusal.StoreFull) × (length (waiting box) ≡ most_waiting))
      go (Err why) e (offer_unsound u) = absurd (true≢false (sym every_run_sound ∙ u))
      go (Err why) e (no_connection_lem u a) = absurd (true≢false (sym s ∙ a))
      go (Err why) e (wrong_length u a w) = absurd (true≢false (sym l ∙ w))
      go (Err why) e (not_fitting u a w c) = absurd (true≢false (sym conforming ∙ c))
      go (Err why) e (store_full u a w c q) =
          let k : most_waiting ≤ length (waiting box) = leb-true _ _ q in
          let m = (sound_facts box every_run_sound).waiting_most in
          inr (refl, omega arith)
      go (Ok serial) e says = inl (ap Ok says.5)

  -- Answer 9 is given to an offer of permitted length exactly when the packet does not fit the envelope.
  pub nine_exactly_when_it_does_not_fit : (n units : ℕ) → stands (box_of set calls) n ≡ true →
      within 1 units (connection (box_of set calls) n).longest ≡ true →
      (offer_answer (box_of set calls) n units ≡ Err Refusal.NotFitting) ↔
      (fits (may_have (connection (box_of set calls) n)) (slots_of n (accepted_of set calls)) (box_of set calls).counter ≡ false)
  nine_exactly_when_it_does_not_fit n units s l = (forth, back)
    where
      box : Box
      box = box_of set calls

      forth : offer_answer box n units ≡ Err Refusal.NotFitting
          → fits (may_have (connection box n)) (slots_of n (accepted_of set calls)) box.counter ≡ false
      forth e = sym (record_answers_stretches n s) ∙ not_conforming (rw e at (offer_says box n units))
        where
          not_conforming : OfferRefused box n units Refusal.NotFitting
              → conforms (connection box n) (allowance box n) box.counter ≡ false
          not_conforming (not_fitting u a w c) = c

      back : fits (may_have (connection box n)) (slots_of n (accepted_of set calls)) box.counter ≡ false
          → offer_answer box n units ≡ Err Refusal.NotFitting
      back f = nine_given box n units every_run_sound s l (record_answers_stretches n s ∙ f)

  -- At most once: every accepted packet is exactly once among waiting, on the link and departed.
  pub exactly_once : (p : Packet) → Memᴰ p (accepted_of set calls) →
      times_among p.serial (waiting (box_of set calls)) + times_among p.serial (on_link (box_of set calls).link) +
      times_departed p.serial (departed_of set calls) ≡ 1
  unfolding times_among times_departed of_packets of_departures
  exactly_once p m =
      let a = always set allowed calls in
      let o = a.once (λ s c x. given (eqb s p.serial) 1) in
      let n = a.numbered p.serial in
      let f = a.known.packets_ok p m in
      let g = given_true 1 (within_test 1 p.serial (box_of set calls).accepted f.serial_least f.serial_most) in
      omega arith

  -- Serials count accepted packets from 1, in the order of acceptance.
  pub serials_count_from_one : map (λ p. p.serial) (accepted_of set calls) ≡ count_from 1 (box_of set calls).accepted
  serials_count_from_one = (always set allowed calls).counted

  -- Every packet in the box was accepted in the run.
  pub in_the_box_was_accepted : (p : Packet) → InBox (box_of set calls) p → Memᴰ p (accepted_of set calls)
  in_the_box_was_accepted = in_box_known (box_of set calls) (accepted_of set calls) (always set allowed calls).known

  -- In order: departures of one connection come in the order of acceptance.
  pub departures_in_order : in_order (departed_of set calls) ≡ true
  departures_in_order = (always set allowed calls).ordered.so_far

  -- Every departure is of an accepted packet, with its connection and its arrival.
  pub departed_was_accepted : (g : Departure) → Memᴰ g (departed_of set calls) →
      (p : Packet) × Memᴰ p (accepted_of set calls) ×
      ((p.serial ≡ g.serial) × (p.connection ≡ g.connection) × (p.arrival ≡ g.arrival))
  unfolding of_packets of_departures
  departed_was_accepted g m =
      let t : ℕ → ℕ → ℕ → Bool = marks g.serial g.connection g.arrival in
      let o = (always set allowed calls).once (λ s c a. given (t s c a) 1) in
      let i = sum_member (λ (g : Departure). given (t g.serial g.connection g.arrival) 1) (departed_of set calls) m in
      let s = given_true 1 (marks_self g.serial g.connection g.arrival) in
      let f = sum_found (λ p. t p.serial p.connection p.arrival) (accepted_of set calls) (omega arith) in
      (f.0, f.1, marks_facts _ _ _ _ _ _ f.2)

  -- Never late: a packet in the box has not reached its bound.
  pub in_the_box_before_bound : (p : Packet) → InBox (box_of set calls) p
      → (box_of set calls).counter < due_by (box_of set calls) p.connection p.arrival
  in_the_box_before_bound = (always set allowed calls).on_time.in_box

  -- Every reported departure slot is at most arrival plus bound.
  pub departs_by_its_bound : (g : Departure) → Memᴰ g (departed_of set calls)
      → g.departure ≤ due_by (box_of set calls) g.connection g.arrival
  departs_by_its_bound g m = ((always set allowed calls).on_time.departed g m).2

  -- Never late: when the slot counter reaches an accepted packet's arrival plus its class's bound, the packet is departed, and it
  -- departed by then, whatever the other connections offer.
  pub never_late : (p : Packet) → Memᴰ p (accepted_of set calls)
      → due_by (box_of set calls) p.connection p.arrival ≤ (box_of set calls).counter →
      (g : Departure) × Memᴰ g (departed_of set calls) ×
      ((g.serial ≡ p.serial) × (g.connection ≡ p.connection) × (g.arrival ≡ p.arrival)) ×
      (g.departure ≤ due_by (box_of set calls) p.connection p.arrival)
  never_late p m due = (
    found.0,
    found.1,
    same,
    subst (λ c. found.0.departure ≤ due_by box c p.arrival) same.1
        (subst (λ a. found.0.departure ≤ due_by box found.0.connection a) same.2 (departs_by_its_bound found.0 found.1)),
  )
    where
      box : Box
      box = box_of set calls

      a : Always box (accepted_of set calls) (departed_of set calls)
      a = always set allowed calls

      t : ℕ → ℕ → ℕ → Bool
      t = marks p.serial p.connection p.arrival

      not_inside : (x : Packet) → InBox box x → t x.serial x.connection x.arrival ≡ false
      not_inside x i =
          ⊎_elim (λ (e : t x.serial x.connection x.arrival ≡ true).
          let f = marks_facts _ _ _ _ _ _ e in
          let d : due_by box x.connection x.arrival ≡ due_by box p.connection p.arrival = rw (f.1, f.2) in
          absurd (let b = in_the_box_before_bound x i in omega arith))
          (λ e. e) (bool_cases (t x.serial x.connection x.arrival))

      none_waits : of_packets (λ s c a. given (t s c a) 1) (waiting box) ≡ 0
      none_waits =
          unfold of_packets in
          sum_zero (λ x. given (t x.serial x.connection x.arrival) 1) (waiting box) (λ x n. given_false 1 (not_inside x (inl n)))

      none_carried : (l : Link) → box.link ≡ l → of_packets (λ s c a. given (t s c a) 1) (on_link l) ≡ 0
      none_carried Link.Free e = unfold of_packets on_link sum_of in refl
      none_carried (Link.Carries x left) e =
          unfold of_packets on_link in
          (sum_one (λ (x : Packet). given (t x.serial x.connection x.arrival) 1) x ∙ given_false 1 (not_inside x (inr (left, e))))

      counted : 1 ≤ of_departures (λ s c a. given (t s c a) 1) (departed_of set calls)
      counted =
          let o = a.once (λ s c a. given (t s c a) 1) in
          let i : given (t p.serial p.connection p.arrival) 1 ≤ of_packets (λ s c a. given (t s c a) 1) (accepted_of set calls) =
          unfold of_packets in sum_member (λ (x : Packet). given (t x.serial x.connection x.arrival) 1) (accepted_of set calls) m in
          let s = given_true 1 (marks_self p.serial p.connection p.arrival) in
          let w = none_waits in
          let l = none_carried box.link refl in
          omega arith

      found : (g : Departure) × Memᴰ g (departed_of set calls) × (t g.serial g.connection g.arrival ≡ true)
      found = sum_found (λ g. t g.serial g.connection g.arrival) (departed_of set calls) (unfold of_departures in counted)

      same : (found.0.serial ≡ p.serial) × (found.0.connection ≡ p.connection) × (found.0.arrival ≡ p.arrival)
      same = marks_facts _ _ _ _ _ _ found.2
