-- What each answer of a call says of the box that gave it: the refusals before it did not apply, and its own reason did.
use Prim.Native.Nat.{ℕ, suc, ◌-◌}
use mathlib.Core.Path.{◌≡◌, refl}
use mathlib.Core.Bool.{Bool, true, false, cond, not, ◌&&◌}
use lib.Dec.{leb}
use lib.ListN.{length}
use Rattle.laws.specs.Tests.{within}
use Rattle.laws.specs.Search.{Search, fails_at, holds}
use Rattle.meaning.specs.declared.Refusal.{Refusal}
use Rattle.meaning.specs.declared.Stepped.{Stepped}
use Rattle.meaning.specs.declared.Connection.{Connection}
use Rattle.meaning.specs.Numbers.{connection_allowed, most_connections, most_waiting, last_slot}
use Rattle.meaning.specs.Envelope.{conforms}
use Rattle.meaning.specs.Admission.{rate_holds, finite_search}
use Rattle.meaning.specs.declared.Packet.{Packet}
use Rattle.meaning.specs.Box.{Box, connection, stands, waiting, sound}
use Rattle.meaning.specs.Calls.{with_newcomer, search_answer, admission_answer, allowance, offer_answer}
use Rattle.meaning.specs.Step.{link_taken, queues_taken, sent_answer, turn_due, step_answer}
use Rattle.meaning.specs.Queues.{tag_zero_waits}
use Rattle.std.proofs.Common.{Result, Ok, Err}
use Rattle.meaning.specs.declared.Link.{Link}

-- What a refusal of an admission says.
pub data AdmissionRefused (box : Box) (c : Connection) : Refusal → Type 0 where
  admission_unsound : sound box ≡ false → AdmissionRefused box c Refusal.NotSound
  off_range : sound box ≡ true → connection_allowed box.settings c ≡ false → AdmissionRefused box c Refusal.ConnectionOffRange
  table_full : sound box ≡ true → connection_allowed box.settings c ≡ true → leb most_connections (length box.standing) ≡ true →
      AdmissionRefused box c Refusal.TableFull
  rate_exceeded : sound box ≡ true → connection_allowed box.settings c ≡ true → leb most_connections (length box.standing) ≡ false →
      rate_holds box.settings (with_newcomer box c) ≡ false → AdmissionRefused box c Refusal.RateExceeded
  fails_first_at : sound box ≡ true → connection_allowed box.settings c ≡ true → leb most_connections (length box.standing) ≡ false →
      rate_holds box.settings (with_newcomer box c) ≡ true → (t : ℕ) → finite_search box.settings (with_newcomer box c) ≡ fails_at t →
      AdmissionRefused box c (Refusal.ConditionFails t)

-- What an answer to an admission says.
abbrev pub AdmissionSays : Box → Connection → Result ℕ Refusal → Type 0
AdmissionSays box c (Err why) = AdmissionRefused box c why
AdmissionSays box c (Ok n) =
    (sound box ≡ true) × (connection_allowed box.settings c ≡ true) × (leb most_connections (length box.standing) ≡ false) ×
    (rate_holds box.settings (with_newcomer box c) ≡ true) × (finite_search box.settings (with_newcomer box c) ≡ holds) ×
    (n ≡ suc (length box.standing))

-- The answer to an admission says what it must.
pub admission_says : (box : Box) (c : Connection) → AdmissionSays box c (admission_answer box c)
unfolding admission_answer search_answer
admission_says box c =
    go (sound box) refl (connection_allowed box.settings c) refl (leb most_connections (length box.standing)) refl
    (rate_holds box.settings (with_newcomer box c)) refl (finite_search box.settings (with_newcomer box c)) refl
  where
    go : (s : Bool) → sound box ≡ s → (a : Bool) → connection_allowed box.settings c ≡ a →
        (f : Bool) → leb most_connections (length box.standing) ≡ f → (r : Bool) → rate_holds box.settings (with_newcomer box c) ≡ r →
        (q : Search) → finite_search box.settings (with_newcomer box c) ≡ q →
        AdmissionSays box c
        (cond (not s) (Err Refusal.NotSound)
        (cond (not a) (Err Refusal.ConnectionOffRange)
        (cond f (Err Refusal.TableFull)
        (cond (not r) (Err Refusal.RateExceeded) (search_answer (suc (length box.standing)) q)))))
    go false s a a' f f' r r' q q' = admission_unsound s
    go true s false a f f' r r' q q' = off_range s a
    go true s true a true f r r' q q' = table_full s a f
    go true s true a false f false r q q' = rate_exceeded s a f r
    go true s true a false f true r (fails_at t) q = fails_first_at s a f r t q
    go true s true a false f true r holds q = (s, a, f, r, q, refl)

-- What a refusal of an offer says.
pub data OfferRefused (box : Box) (n units : ℕ) : Refusal → Type 0 where
  offer_unsound : sound box ≡ false → OfferRefused box n units Refusal.NotSound
  no_connection_lem : sound box ≡ true → stands box n ≡ false → OfferRefused box n units Refusal.NoConnection
  wrong_length : sound box ≡ true → stands box n ≡ true → within 1 units (connection box n).longest ≡ false →
      OfferRefused box n units Refusal.WrongLength
  not_fitting : sound box ≡ true → stands box n ≡ true → within 1 units (connection box n).longest ≡ true →
      conforms (connection box n) (allowance box n) box.counter ≡ false → OfferRefused box n units Refusal.NotFitting
  store_full : sound box ≡ true → stands box n ≡ true → within 1 units (connection box n).longest ≡ true →
      conforms (connection box n) (allowance box n) box.counter ≡ true → leb most_waiting (length (waiting box)) ≡ true →
      OfferRefused box n units Refusal.StoreFull

-- What an answer to an offer says.
abbrev pub OfferSays : Box → ℕ → ℕ → Result ℕ Refusal → Type 0
OfferSays box n units (Err why) = OfferRefused box n units why
OfferSays box n units (Ok serial) =
    (sound box ≡ true) × (stands box n ≡ true) × (within 1 units (connection box n).longest ≡ true) ×
    (conforms (connection box n) (allowance box n) box.counter ≡ true) × (leb most_waiting (length (waiting box)) ≡ false) ×
    (serial ≡ suc box.accepted)

-- The answer to an offer says what it must.
pub offer_says : (box : Box) (n units : ℕ) → OfferSays box n units (offer_answer box n units)
unfolding offer_answer
offer_says box n units =
    go (sound box) refl (stands box n) refl (within 1 units (connection box n).longest) refl
    (conforms (connection box n) (allowance box n) box.counter) refl (leb most_waiting (length (waiting box))) refl
  where
    go : (s : Bool) → sound box ≡ s → (a : Bool) → stands box n ≡ a → (f : Bool) → within 1 units (connection box n).longest ≡ f →
        (r : Bool) → conforms (connection box n) (allowance box n) box.counter ≡ r →
        (q : Bool) → leb most_waiting (length (waiting box)) ≡ q →
        OfferSays box n units
        (cond (not s) (Err Refusal.NotSound)
        (cond (not a) (Err Refusal.NoConnection)
        (cond (not f) (Err Refusal.WrongLength)
        (cond (not r) (Err Refusal.NotFitting)
        (cond q (Err Refusal.StoreFull) (Ok (suc box.accepted)))))))
    go false s a a' f f' r r' q q' = offer_unsound s
    go true s false a f f' r r' q q' = no_connection_lem s a
    go true s true a false f r r' q q' = wrong_length s a f
    go true s true a true f false r q q' = not_fitting s a f r
    go true s true a true f true r true q = store_full s a f r q
    go true s true a true f true r false q = (s, a, f, r, q, refl)

-- A step that is not refused.
pub record StepGoes (box : Box) : Type 0 where
  pub was_sound : sound box ≡ true
  pub not_ended : leb last_slot box.counter ≡ false
  pub not_blocked : turn_due box && tag_zero_waits (queues_taken box.link box.queues) ≡ false

-- What a refusal of a step says.
pub data StepRefused (box : Box) : Refusal → Type 0 where
  step_unsound : sound box ≡ false → StepRefused box Refusal.NotSound
  counter_ended : sound box ≡ true → leb last_slot box.counter ≡ true → StepRefused box Refusal.CounterEnded
  turn_blocked_lem : sound box ≡ true → leb last_slot box.counter ≡ false →
      turn_due box && tag_zero_waits (queues_taken box.link box.queues) ≡ true → StepRefused box Refusal.TurnBlocked

-- What an answer to a step says.
abbrev pub StepSays : Box → Result Stepped Refusal → Type 0
StepSays box (Err why) = StepRefused box why
StepSays box (Ok Stepped.Idle) = StepGoes box × (link_taken box.link box.queues ≡ Link.Free)
StepSays box (Ok (Stepped.Sending serial left)) =
    StepGoes box × (p : Packet) × (units : ℕ) × (link_taken box.link box.queues ≡ Link.Carries p units) × (leb units 1 ≡ false)
StepSays box (Ok (Stepped.Departed serial connection arrival departure)) =
    StepGoes box × (p : Packet) × (units : ℕ) × (link_taken box.link box.queues ≡ Link.Carries p units) × (leb units 1 ≡ true) ×
    (serial ≡ p.serial) × (connection ≡ p.connection) × (arrival ≡ p.arrival) × (departure ≡ suc box.counter)

-- The answer to a step says what it must.
pub step_says : (box : Box) → StepSays box (step_answer box)
unfolding step_answer sent_answer
step_says box =
    go (sound box) refl (leb last_slot box.counter) refl (turn_due box && tag_zero_waits (queues_taken box.link box.queues)) refl
    (link_taken box.link box.queues) refl
  where
    sent : StepGoes box → (p : Packet) (units : ℕ) → link_taken box.link box.queues ≡ Link.Carries p units → (b : Bool) → leb units 1 ≡ b →
        StepSays box (Ok (cond b (Stepped.Departed p.serial p.connection p.arrival (suc box.counter))
        (Stepped.Sending p.serial (units - 1))))
    sent g p units l true e = (g, p, units, l, e, refl, refl, refl, refl)
    sent g p units l false e = (g, p, units, l, e)

    go : (s : Bool) → sound box ≡ s → (a : Bool) → leb last_slot box.counter ≡ a →
        (f : Bool) → turn_due box && tag_zero_waits (queues_taken box.link box.queues) ≡ f →
        (l : Link) → link_taken box.link box.queues ≡ l →
        StepSays box
        (cond (not s) (Err Refusal.NotSound)
        (cond a (Err Refusal.CounterEnded)
        (cond f (Err Refusal.TurnBlocked) (Ok (sent_answer (suc box.counter) l)))))
    go false s a a' f f' l l' = step_unsound s
    go true s true a f f' l l' = counter_ended s a
    go true s false a true f l l' = turn_blocked_lem s a f
    go true s false a false f Link.Free l = (record { was_sound = s; not_ended = a; not_blocked = f }, l)
    go true s false a false f (Link.Carries p units) l =
        sent (record { was_sound = s; not_ended = a; not_blocked = f }) p units l (leb units 1) refl
