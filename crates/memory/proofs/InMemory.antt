-- What holds of every run from a new box, said of the program's memory: of the words that an opening left and any list of public calls
-- changed, and of the answers that these gave. Each is the theorem of `guarantees` of the same name, carried by `run_from_opening`.
use Prim.Native.Nat.{ℕ, suc, ◌+◌, ◌≤◌, ◌<◌}
use mathlib.Core.Path.{◌≡◌}
use mathlib.Core.Bool.{true, false}
use mathlib.Core.List.{List, Memᴰ, map}
use mathlib.Core.Logic.{◌⊎◌, ◌↔◌}
use lib.ListN.{length}
use Rattle.laws.specs.Tests.{within}
use Rattle.laws.specs.Finding.{Least}
use Rattle.meaning.specs.declared.Refusal.{Refusal}
use Rattle.meaning.specs.declared.Connection.{Connection}
use Rattle.meaning.specs.Numbers.{Settings, connection_allowed, most_connections, most_waiting, last_slot}
use Rattle.meaning.specs.Envelope.{may_have, fits}
use Rattle.meaning.specs.declared.Packet.{Packet}
use Rattle.meaning.specs.Box.{connection, stands, waiting, on_link}
use Rattle.meaning.specs.Admission.{HoldsWithoutEnd, condition_at}
use Rattle.meaning.specs.Calls.{new_box, with_newcomer, admission_answer, offer_answer}
use Rattle.meaning.specs.Step.{step_answer, after_step}
use Rattle.words.specs.Contents.{contents}
use Rattle.words.specs.Sound.{sound_words}
use Rattle.tables.specs.Opening.{opened}
use Rattle.words.proofs.TestedSound.{sound_contents}
use Rattle.multiplexer.specs.Promised.{admission, offering, stepping, words_stepped}
use Rattle.guarantees.specs.Runs.{Call, step, Departure, box_of, after, trace, accepted_in, departed_in, in_order, slots_of, WithinEnvelope}
use Rattle.guarantees.specs.Runs.{times_among, times_departed, due_by, count_from, InBox}
use Rattle.guarantees.specs.Isolation.{asked, told, never_ten}
use Rattle.guarantees.proofs.Admitting
use Rattle.guarantees.proofs.Statements
use Rattle.guarantees.proofs.Turning
use Rattle.guarantees.proofs.Isolated
use Rattle.memory.specs.Runs.{left_by, opened_trace, opened_words, opened_box}
use Rattle.memory.proofs.RunOnWords.{left_by_call}
use Rattle.tables.proofs.Opened.{opened_allowed}
use Rattle.memory.proofs.FromOpening.{run_from_opening}
use Rattle.std.proofs.Common.{Ok, Err}

-- The answer of an offer or a step on sound words is that of their contents.
offer_there : (ws : List ℕ) → sound_words ws ≡ true → (n units : ℕ) → offering ws n units ≡ offer_answer (contents ws) n units
unfolding offering
offer_there ws h n units = rw h

-- The answer of a step on sound words is that of their contents.
step_there : (ws : List ℕ) → sound_words ws ≡ true → stepping ws ≡ step_answer (contents ws)
unfolding stepping
step_there ws h = rw h

-- The words after a step on sound words stand for the box after it.
stepped_there : (ws : List ℕ) → sound_words ws ≡ true → contents (words_stepped ws) ≡ after_step (contents ws) (step_answer (contents ws))
unfolding left_by after
stepped_there ws h = (left_by_call ws step h).stand_for

-- Admission, on any sound words.
module _ (ws : List ℕ) (h : sound_words ws ≡ true) (c : Connection) where
  -- The answer is that of their contents.
  admission_there : admission ws c ≡ admission_answer (contents ws) c
  unfolding admission
  admission_there = rw h

  -- With the numbers in range and room in the table, a connection is taken exactly when (11) and (12) hold at every t from 0 without end.
  pub taken_exactly_when : connection_allowed (contents ws).settings c ≡ true → length (contents ws).standing < most_connections →
      (admission ws c ≡ Ok (suc (length (contents ws).standing))) ↔
      HoldsWithoutEnd (contents ws).settings (with_newcomer (contents ws) c)
  taken_exactly_when = rw admission_there (Admitting.taken_exactly_when (contents ws) c (sound_contents ws h))

  -- The t given with 6 is the least that fails.
  pub least_that_fails : (t : ℕ) → admission ws c ≡ Err (Refusal.ConditionFails t)
      → Least (condition_at (contents ws).settings (with_newcomer (contents ws) c)) 0 t
  least_that_fails = rw admission_there (Admitting.least_that_fails (contents ws) c)

  -- With answer 5 some t fails too.
  pub rate_fails_somewhere : admission ws c ≡ (Err Refusal.RateExceeded) →
      (t : ℕ) × (condition_at (contents ws).settings (with_newcomer (contents ws) c) t ≡ false)
  rate_fails_somewhere = rw admission_there (Admitting.rate_fails_somewhere (contents ws) c)

module _ (set : Settings) (ws : List ℕ) (done : (opened set ws).0 ≡ (Ok tt)) (calls : List Call) where
  -- The events are those of the run from a new box, and the words stand for the box after it.
  events : opened_trace set ws calls ≡ trace (new_box set) calls
  events = (run_from_opening set ws done calls).0

  -- The box that the words stand for after the calls is the box after them on contents.
  box : opened_box set ws calls ≡ box_of set calls
  box = (run_from_opening set ws done calls).2

  -- "every call on a sound state leaves a sound one".
  pub every_run_sound : sound_words (opened_words set ws calls) ≡ true
  every_run_sound = (run_from_opening set ws done calls).1

  -- Every connection that stands keeps within its envelope.
  pub within_the_envelope : (n : ℕ) → stands (opened_box set ws calls) n ≡ true →
      WithinEnvelope (connection (opened_box set ws calls) n) (slots_of n (accepted_in (opened_trace set ws calls)))
  within_the_envelope = rw (box, events) (Statements.within_the_envelope set (opened_allowed set ws done) calls)

  -- Each accepted packet has a length from 1 to s, of a connection that stands.
  pub each_length_permitted : (p : Packet) → Memᴰ p (accepted_in (opened_trace set ws calls)) →
      (stands (opened_box set ws calls) p.connection ≡ true) ×
      (within 1 p.units (connection (opened_box set ws calls) p.connection).longest ≡ true)
  each_length_permitted = rw (box, events) (Statements.each_length_permitted set (opened_allowed set ws done) calls)

  -- Turned away: an offer of permitted length that fits is refused only with 10, and only when 1,024 packets wait.
  pub turned_away_only_when_full : (n units : ℕ) → stands (opened_box set ws calls) n ≡ true →
      within 1 units (connection (opened_box set ws calls) n).longest ≡ true →
      fits (may_have (connection (opened_box set ws calls) n)) (slots_of n (accepted_in (opened_trace set ws calls)))
      (opened_box set ws calls).counter ≡ true →
      (offering (opened_words set ws calls) n units ≡ Ok (suc (opened_box set ws calls).accepted)) ⊎
      ((offering (opened_words set ws calls) n units ≡ (Err Refusal.StoreFull)) ×
      (length (waiting (opened_box set ws calls)) ≡ most_waiting))
  turned_away_only_when_full n units =
      rw (offer_there (opened_words set ws calls) every_run_sound n units, box, events)
      (Statements.turned_away_only_when_full set (opened_allowed set ws done) calls n units)

  -- Answer 9 is given to an offer of permitted length exactly when the packet does not fit the envelope.
  pub nine_exactly_when_it_does_not_fit : (n units : ℕ) → stands (opened_box set ws calls) n ≡ true →
      within 1 units (connection (opened_box set ws calls) n).longest ≡ true →
      (offering (opened_words set ws calls) n units ≡ (Err Refusal.NotFitting)) ↔
      (fits (may_have (connection (opened_box set ws calls) n)) (slots_of n (accepted_in (opened_trace set ws calls)))
      (opened_box set ws calls).counter ≡ false)
  nine_exactly_when_it_does_not_fit n units =
      rw (offer_there (opened_words set ws calls) every_run_sound n units, box, events)
      (Statements.nine_exactly_when_it_does_not_fit set (opened_allowed set ws done) calls n units)

  -- "Every accepted packet is exactly once among waiting, on the link and departed."
  pub exactly_once : (p : Packet) → Memᴰ p (accepted_in (opened_trace set ws calls)) →
      times_among p.serial (waiting (opened_box set ws calls)) + times_among p.serial (on_link (opened_box set ws calls).link) +
      times_departed p.serial (departed_in (opened_trace set ws calls)) ≡ 1
  exactly_once = rw (box, events) (Statements.exactly_once set (opened_allowed set ws done) calls)

  -- "Serials count accepted packets from 1."
  pub serials_count_from_one : map (λ p. p.serial) (accepted_in (opened_trace set ws calls)) ≡ count_from 1 (opened_box set ws calls).accepted
  serials_count_from_one = rw (box, events) (Statements.serials_count_from_one set (opened_allowed set ws done) calls)

  -- Every packet in the box was accepted in the run.
  pub in_the_box_was_accepted : (p : Packet) → InBox (opened_box set ws calls) p → Memᴰ p (accepted_in (opened_trace set ws calls))
  in_the_box_was_accepted = rw (box, events) (Statements.in_the_box_was_accepted set (opened_allowed set ws done) calls)

  -- In order: departures of one connection come in the order of acceptance.
  pub departures_in_order : in_order (departed_in (opened_trace set ws calls)) ≡ true
  departures_in_order = rw events (Statements.departures_in_order set (opened_allowed set ws done) calls)

  -- Every departure is of an accepted packet, with its connection and its arrival.
  pub departed_was_accepted : (g : Departure) → Memᴰ g (departed_in (opened_trace set ws calls)) →
      (p : Packet) × Memᴰ p (accepted_in (opened_trace set ws calls)) ×
      ((p.serial ≡ g.serial) × (p.connection ≡ g.connection) × (p.arrival ≡ g.arrival))
  departed_was_accepted = rw events (Statements.departed_was_accepted set (opened_allowed set ws done) calls)

  -- A packet in the box has not reached its bound.
  pub in_the_box_before_bound : (p : Packet) → InBox (opened_box set ws calls) p →
      (opened_box set ws calls).counter < due_by (opened_box set ws calls) p.connection p.arrival
  in_the_box_before_bound = rw box (Statements.in_the_box_before_bound set (opened_allowed set ws done) calls)

  -- Every reported departure slot is at most arrival plus bound.
  pub departs_by_its_bound : (g : Departure) → Memᴰ g (departed_in (opened_trace set ws calls)) →
      g.departure ≤ due_by (opened_box set ws calls) g.connection g.arrival
  departs_by_its_bound = rw (box, events) (Statements.departs_by_its_bound set (opened_allowed set ws done) calls)

  -- Never late: when the slot counter reaches an accepted packet's arrival plus its class's bound, the packet is departed, by then.
  pub never_late : (p : Packet) → Memᴰ p (accepted_in (opened_trace set ws calls)) →
      due_by (opened_box set ws calls) p.connection p.arrival ≤ (opened_box set ws calls).counter →
      (g : Departure) × Memᴰ g (departed_in (opened_trace set ws calls)) ×
      ((g.serial ≡ p.serial) × (g.connection ≡ p.connection) × (g.arrival ≡ p.arrival)) ×
      (g.departure ≤ due_by (opened_box set ws calls) p.connection p.arrival)
  never_late = rw (box, events) (Statements.never_late set (opened_allowed set ws done) calls)

  -- Answer 11 is never given in a run.
  pub turn_never_blocked : stepping (opened_words set ws calls) ≡ (Err Refusal.TurnBlocked) → ⊥
  turn_never_blocked =
      rw (step_there (opened_words set ws calls) every_run_sound, box) (Turning.turn_never_blocked set (opened_allowed set ws done) calls)

  -- A step raises the counter in the words until it ends.
  pub step_goes_on : (opened_box set ws calls).counter < last_slot →
      (contents (words_stepped (opened_words set ws calls))).counter ≡ suc (opened_box set ws calls).counter
  step_goes_on =
      rw (stepped_there (opened_words set ws calls) every_run_sound, box) (Turning.step_goes_on set (opened_allowed set ws done) calls)

-- Isolation: two runs in memory, from openings with the same settings, with the same admissions and the same offers of one connection, all
-- of these at the same slots and in the same order among themselves, give it the same offer answers, serials aside, if neither answers 10.
pub isolation : (set : Settings) (ws others : List ℕ) → (opened set ws).0 ≡ (Ok tt) → (opened set others).0 ≡ (Ok tt) →
    (n : ℕ) → 1 ≤ n → (calls different : List Call) →
    asked n (opened_trace set ws calls) ≡ asked n (opened_trace set others different) →
    never_ten (opened_trace set ws calls) ≡ true → never_ten (opened_trace set others different) ≡ true →
    told n (opened_trace set ws calls) ≡ told n (opened_trace set others different)
isolation set ws others done too n h calls different =
    rw (events set ws done calls, events set others too different) (Isolated.isolation set (opened_allowed set ws done) n h calls different)
