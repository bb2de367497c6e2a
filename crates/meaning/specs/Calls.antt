-- Document 01: opening, admission and offering, on the contents of a box. Each call has its answer, with the refusals in the order of
-- "Answer numbers", and what the box is after that answer.
use Rattle.std.specs.Prelude.{ℕ, suc, ◌-◌, cond, not, List, [], ◌∷◌, ◌++◌, map, length, get_or, set, leb, ltb, Result, Ok, Err}
use Rattle.laws.specs.Tests.{within}
use Rattle.laws.specs.Search.{Search, fails_at, holds}
use Rattle.meaning.specs.declared.Refusal.{Refusal}
use Rattle.meaning.specs.declared.Connection.{Connection}
use Rattle.meaning.specs.Numbers.{Settings, factor, settings_allowed, connection_allowed, most_connections, most_waiting}
use Rattle.meaning.specs.declared.Allowance.{Allowance}
use Rattle.meaning.specs.Envelope.{full, conforms, charged}
use Rattle.meaning.specs.Admission.{rate_holds, finite_search}
use Rattle.meaning.specs.Queues.{empty_queues, join_tail}
use Rattle.meaning.specs.declared.Standing.{Standing}
use Rattle.meaning.specs.declared.Packet.{Packet}
use Rattle.meaning.specs.Box.{Box, connections, connection, no_connection, stands, waiting, sound}
use Rattle.meaning.specs.declared.Link.{Link}

-- A new box: no connection stands, nothing waits, the link is free and the counter is 0.
unfoldable pub new_box : Settings → Box
new_box opening = record { settings = opening; standing = []; counter = 0; accepted = 0; link = Link.Free; queues = empty_queues opening }

-- "Opening: 2, 17": a box takes `size` words, and `lent` words are lent.
unfoldable pub opening_answer : ℕ → ℕ → Settings → Result Unit Refusal
opening_answer size lent opening =
    cond (not (settings_allowed opening)) (Err Refusal.SettingsOffRange)
    (cond (ltb lent size) (Err Refusal.TooShort)
    (Ok tt))

-- "the set with the newcomer".
unfoldable pub with_newcomer : Box → Connection → List Connection
with_newcomer box c = connections box ++ (c ∷ [])

-- "The search stops at the first t that fails and answers that t"; else the newcomer has this number.
unfoldable pub search_answer : ℕ → Search → Result ℕ Refusal
search_answer n (fails_at t) = Err (Refusal.ConditionFails t)
search_answer n holds = Ok n

-- "Admission: 1, 3, 4, 5, 6"; connections are "numbered from 1 as admitted".
unfoldable pub admission_answer : Box → Connection → Result ℕ Refusal
admission_answer box c =
    cond (not (sound box)) (Err Refusal.NotSound)
    (cond (not (connection_allowed box.settings c)) (Err Refusal.ConnectionOffRange)
    (cond (leb most_connections (length box.standing)) (Err Refusal.TableFull)
    (cond (not (rate_holds box.settings (with_newcomer box c))) (Err Refusal.RateExceeded)
    (search_answer (suc (length box.standing)) (finite_search box.settings (with_newcomer box c))))))

-- The box with these connections standing.
unfoldable pub with_standing : Box → List Standing → Box
with_standing box rows =
    record {
      settings = box.settings;
      standing = rows;
      counter = box.counter;
      accepted = box.accepted;
      link = box.link;
      queues = box.queues;
    }

-- After an admission: a taken connection stands with a fresh allowance. "A refused admission changes nothing."
unfoldable pub after_admission : Box → Connection → Result ℕ Refusal → Box
after_admission box c (Ok n) = with_standing box (box.standing ++ (record { asked = c; allowance = full c } ∷ []))
after_admission box c (Err why) = box

-- The allowance of the connection of this number.
unfoldable pub allowance : Box → ℕ → Allowance
allowance box n = get_or (map (λ s. s.allowance) box.standing) (n - 1) (full no_connection)

-- "Offer: 1, 7, 8, 9, 10"; "Serials count accepted packets from 1."
unfoldable pub offer_answer : Box → ℕ → ℕ → Result ℕ Refusal
offer_answer box n units =
    cond (not (sound box)) (Err Refusal.NotSound)
    (cond (not (stands box n)) (Err Refusal.NoConnection)
    (cond (not (within 1 units (connection box n).longest)) (Err Refusal.WrongLength)
    (cond (not (conforms (connection box n) (allowance box n) box.counter)) (Err Refusal.NotFitting)
    (cond (leb most_waiting (length (waiting box))) (Err Refusal.StoreFull)
    (Ok (suc box.accepted))))))

-- The connections that stand, with the allowance of this one charged.
unfoldable pub charged_at : Box → ℕ → List Standing
charged_at box n =
    set box.standing (n - 1)
    (record { asked = connection box n; allowance = charged (connection box n) (allowance box n) box.counter })

-- "An accepted packet of class p joins the tail of the queue tagged rp."
unfoldable pub joined : Box → Packet → List (List Packet)
joined box p = join_tail (factor box.settings (connection box p.connection).class) p box.queues

-- After an offer: an accepted packet waits and its connection is charged once; "a refused packet leaves it untouched".
unfoldable pub after_offer : Box → ℕ → ℕ → Result ℕ Refusal → Box
after_offer box n units (Ok serial) =
    record {
      settings = box.settings;
      standing = charged_at box n;
      counter = box.counter;
      accepted = serial;
      link = box.link;
      queues = joined box (record { serial = serial; connection = n; units = units; arrival = box.counter });
    }
after_offer box n units (Err why) = box
