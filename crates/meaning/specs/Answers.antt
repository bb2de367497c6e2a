-- Document 01, "Answer numbers": the number of each answer, and its other result fields.
use Rattle.std.specs.Prelude.{ℕ, List, [], ◌∷◌, replicate, Result, Ok, Err}
use Rattle.meaning.specs.declared.Refusal.{Refusal}
use Rattle.meaning.specs.declared.Stepped.{Stepped}
use Rattle.meaning.specs.declared.Header.{Header}

-- An answer's number, 0 for success, and its other result fields in a fixed order.
pub record Answer : Type 0 where
  pub number : ℕ
  pub fields : List ℕ

-- What a call hands out: the number, and then its fields.
unfoldable pub told : Answer → List ℕ
told answer = answer.number ∷ answer.fields

-- "0 is success".
abbrev pub success : List ℕ → Answer
success fields = record { number = 0; fields = fields }

-- The number of a refusal, a row of document 01's table each.
unfoldable pub refusal_number : Refusal → ℕ
-- "the state is not sound"
refusal_number Refusal.NotSound = 1
-- "D, M, the classes or the largest bound are off range"
refusal_number Refusal.SettingsOffRange = 2
-- "class number, s, b or T is off range, or T does not divide M"
refusal_number Refusal.ConnectionOffRange = 3
-- "32 connections stand"
refusal_number Refusal.TableFull = 4
-- "the rate exceeds M"
refusal_number Refusal.RateExceeded = 5
-- "(11) or (12) fails; gives the first such t"
refusal_number (Refusal.ConditionFails t) = 6
-- "no such connection"
refusal_number Refusal.NoConnection = 7
-- "length 0 or above s"
refusal_number Refusal.WrongLength = 8
-- "the packet does not fit the envelope"
refusal_number Refusal.NotFitting = 9
-- "1,024 packets wait"
refusal_number Refusal.StoreFull = 10
-- "the step would turn the queues while tag 0 still has a waiting packet"
refusal_number Refusal.TurnBlocked = 11
-- "the counter stands at 4,000,000,000"
refusal_number Refusal.CounterEnded = 12
-- "plan under 40 bytes, above 65,536, not a multiple of 4, or word 0 differs from its size"
refusal_number Refusal.WrongSize = 13
-- "the plan's words do not sum to 0 modulo 2^32"
refusal_number Refusal.WrongSum = 14
-- "plan counts or offsets are wrong"
refusal_number Refusal.WrongLayout = 15
-- "arrival slots fall, or one exceeds 1,000,000"
refusal_number Refusal.WrongSlots = 16
-- "the buffer lent for a new box or a written plan is too short"
refusal_number Refusal.TooShort = 17

-- What a refusal gives beside its number: 0, "but 6, which gives t".
unfoldable pub failing_t : Refusal → ℕ
failing_t (Refusal.ConditionFails t) = t
failing_t Refusal.NotSound = 0
failing_t Refusal.SettingsOffRange = 0
failing_t Refusal.ConnectionOffRange = 0
failing_t Refusal.TableFull = 0
failing_t Refusal.RateExceeded = 0
failing_t Refusal.NoConnection = 0
failing_t Refusal.WrongLength = 0
failing_t Refusal.NotFitting = 0
failing_t Refusal.StoreFull = 0
failing_t Refusal.TurnBlocked = 0
failing_t Refusal.CounterEnded = 0
failing_t Refusal.WrongSize = 0
failing_t Refusal.WrongSum = 0
failing_t Refusal.WrongLayout = 0
failing_t Refusal.WrongSlots = 0
failing_t Refusal.TooShort = 0

-- "Every refusal leaves .. its other result fields 0": of a call that has so many of them.
unfoldable pub refusal : ℕ → Refusal → Answer
refusal fields why = record { number = refusal_number why; fields = replicate fields 0 }

-- Opening has no other field.
unfoldable pub opened : Result Unit Refusal → Answer
opened (Ok tt) = success []
opened (Err why) = refusal 0 why

-- Admission: the connection's number, and t.
unfoldable pub admitted : Result ℕ Refusal → Answer
admitted (Ok n) = success (n ∷ 0 ∷ [])
admitted (Err why) = record { number = refusal_number why; fields = 0 ∷ failing_t why ∷ [] }

-- An offer: the packet's serial.
unfoldable pub offered : Result ℕ Refusal → Answer
offered (Ok serial) = success (serial ∷ [])
offered (Err why) = refusal 1 why

-- A step: the serial, the units left, the connection, the arrival and the departure.
-- "The answer is idle, sending (serial and units left), or departed (serial, connection, arrival, departure)."
unfoldable pub stepped : Result Stepped Refusal → Answer
stepped (Ok Stepped.Idle) = success (0 ∷ 0 ∷ 0 ∷ 0 ∷ 0 ∷ [])
stepped (Ok (Stepped.Sending serial left)) = success (serial ∷ left ∷ 0 ∷ 0 ∷ 0 ∷ [])
stepped (Ok (Stepped.Departed serial connection arrival departure)) = success (serial ∷ 0 ∷ connection ∷ arrival ∷ departure ∷ [])
stepped (Err why) = refusal 5 why

-- What the header of a plan says: D, M, and the count and the offset of each table.
unfoldable pub header_fields : Header → List ℕ
header_fields h =
    h.interval ∷
    h.cycle ∷
    h.classes.count ∷
    h.classes.start ∷
    h.connections.count ∷
    h.connections.start ∷
    h.arrivals.count ∷
    h.arrivals.start ∷
    []

-- Reading a plan: what its header says.
unfoldable pub plan_read : Result Header Refusal → Answer
plan_read (Ok h) = success (header_fields h)
plan_read (Err why) = refusal 8 why

-- Writing a plan: the number of bytes written.
unfoldable pub plan_written : Result ℕ Refusal → Answer
plan_written (Ok n) = success (n ∷ [])
plan_written (Err why) = refusal 1 why

-- Printing the run of a plan: the number of bytes written.
unfoldable pub printed : Result ℕ Refusal → Answer
printed (Ok n) = success (n ∷ [])
printed (Err why) = refusal 1 why
