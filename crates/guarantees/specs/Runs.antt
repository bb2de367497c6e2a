-- A run: any list of admissions, offers and steps from a new box, refused ones among them, and the history that its own calls and
-- answers tell.
use Rattle.std.specs.Prelude.{ℕ, zero, suc, ◌+◌, ◌≤◌, ◌≡◌, Bool, true, cond, ◌&&◌, ◌||◌, not, ◌⊎◌, eqb, ltb, Result, Ok, Err}
use mathlib.Core.List.{List, [], ◌∷◌, ◌++◌, Memᴰ}
use Rattle.laws.specs.Tests.{every}
use Rattle.meaning.specs.declared.Stepped.{Stepped}
use Rattle.laws.specs.Sums.{sum_of}
use Rattle.laws.specs.SumLaws.{given}
use Rattle.meaning.specs.declared.Connection.{Connection}
use Rattle.meaning.specs.Numbers.{Settings, bound}
use Rattle.meaning.specs.Envelope.{may_have, count_in}
use Rattle.meaning.specs.declared.Packet.{Packet}
use Rattle.meaning.specs.Box.{Box, connection, waiting}
use Rattle.meaning.specs.Calls.{new_box, admission_answer, after_admission, offer_answer, after_offer}
use Rattle.meaning.specs.Step.{step_answer, after_step}
use Rattle.meaning.specs.declared.Refusal.{Refusal}
use Rattle.meaning.specs.declared.Link.{Link}

-- A call: a connection asks for admission, a packet of this connection and length is offered, or a step.
pub data Call : Type 0 where
  admit : Connection → Call
  offer : ℕ → ℕ → Call
  step : Call

-- The answer to a call.
pub data Reply : Type 0 where
  to_admission : Result ℕ Refusal → Reply
  to_offer : Result ℕ Refusal → Reply
  to_step : Result Stepped Refusal → Reply

-- What the box answers.
unfoldable pub reply : Box → Call → Reply
reply box (admit c) = to_admission (admission_answer box c)
reply box (offer n units) = to_offer (offer_answer box n units)
reply box step = to_step (step_answer box)

-- The box after a call.
unfoldable pub after : Box → Call → Box
after box (admit c) = after_admission box c (admission_answer box c)
after box (offer n units) = after_offer box n units (offer_answer box n units)
after box step = after_step box (step_answer box)

-- The box after a run.
unfoldable pub box_after : Box → List Call → Box
box_after box [] = box
box_after box (c ∷ cs) = box_after (after box c) cs

-- One thing that happens in a run: a call at a slot, and its answer.
pub record Event : Type 0 where
  pub slot : ℕ
  pub call : Call
  pub answer : Reply

-- The events of a run, one after another.
unfoldable pub trace : Box → List Call → List Event
trace box [] = []
trace box (c ∷ cs) = record { slot = box.counter; call = c; answer = reply box c } ∷ trace (after box c) cs

-- The packet that an offer at this slot brought in, if its answer took it.
unfoldable pub offer_taken : ℕ → ℕ → ℕ → Result ℕ Refusal → List Packet
offer_taken slot n units (Ok serial) = record { serial = serial; connection = n; units = units; arrival = slot } ∷ []
offer_taken slot n units (Err why) = []

-- The packet that a call and its answer brought in, if any.
unfoldable pub packet_taken : ℕ → Call → Reply → List Packet
packet_taken slot (admit c) r = []
packet_taken slot step r = []
packet_taken slot (offer n units) (to_admission a) = []
packet_taken slot (offer n units) (to_step a) = []
packet_taken slot (offer n units) (to_offer a) = offer_taken slot n units a

-- Every accepted packet of a run, in the order of acceptance.
unfoldable pub accepted_in : List Event → List Packet
accepted_in [] = []
accepted_in (e ∷ es) = packet_taken e.slot e.call e.answer ++ accepted_in es

-- The slots at which packets of connection n were accepted, the last accepted first.
unfoldable pub slots_of : ℕ → List Packet → List ℕ
slots_of n [] = []
slots_of n (p ∷ ps) = slots_of n ps ++ cond (eqb p.connection n) (p.arrival ∷ []) []

-- Packets accepted at these slots keep a connection's envelope: over every closed stretch from slot x to slot x + t they are at
-- most b + floor(t/T).
abbrev pub WithinEnvelope : Connection → List ℕ → Type 0
WithinEnvelope c slots = (x t : ℕ) → count_in slots x (x + t) ≤ may_have c t

-- A reported departure: serial, connection, arrival and departure.
pub record Departure : Type 0 where
  pub serial : ℕ
  pub connection : ℕ
  pub arrival : ℕ
  pub departure : ℕ

-- The departure that the answer of a step reports, if any.
unfoldable pub step_left : Result Stepped Refusal → List Departure
step_left (Ok (Stepped.Departed serial connection arrival departure)) =
    record { serial = serial; connection = connection; arrival = arrival; departure = departure } ∷ []
step_left (Ok Stepped.Idle) = []
step_left (Ok (Stepped.Sending serial left)) = []
step_left (Err why) = []

-- The departure that an answer reports, if any.
unfoldable pub packet_left : Reply → List Departure
packet_left (to_admission a) = []
packet_left (to_offer a) = []
packet_left (to_step a) = step_left a

-- Every departed packet of a run, in the order of departure.
unfoldable pub departed_in : List Event → List Departure
departed_in [] = []
departed_in (e ∷ es) = packet_left e.answer ++ departed_in es

-- Departures of one connection come in the order of acceptance: serials rise.
unfoldable pub in_order : List Departure → Bool
in_order [] = true
in_order (g ∷ gs) = every (λ h. not (eqb g.connection h.connection) || ltb g.serial h.serial) gs && in_order gs

-- The n numbers from k on.
unfoldable pub count_from : ℕ → ℕ → List ℕ
count_from k zero = []
count_from k (suc n) = k ∷ count_from (suc k) n

-- How often this serial is among these packets.
unfoldable pub times_among : ℕ → List Packet → ℕ
times_among n ps = sum_of (λ p. given (eqb p.serial n) 1) ps

-- How often it is among these departures.
unfoldable pub times_departed : ℕ → List Departure → ℕ
times_departed n gs = sum_of (λ g. given (eqb g.serial n) 1) gs

-- A packet is in the box: it waits or is on the link.
abbrev pub InBox : Box → Packet → Type 0
InBox box p = Memᴰ p (waiting box) ⊎ ((left : ℕ) × (box.link ≡ Link.Carries p left))

-- The slot by which a packet of connection n that arrived at this slot is to have departed: its class's bound later.
unfoldable pub due_by : Box → ℕ → ℕ → ℕ
due_by box n arrival = arrival + bound box.settings (connection box n).class

-- The box after a run from a new box.
abbrev pub box_of : Settings → List Call → Box
box_of set calls = box_after (new_box set) calls

-- The packets that it accepted.
abbrev pub accepted_of : Settings → List Call → List Packet
accepted_of set calls = accepted_in (trace (new_box set) calls)

-- The departures that it reported.
abbrev pub departed_of : Settings → List Call → List Departure
departed_of set calls = departed_in (trace (new_box set) calls)
