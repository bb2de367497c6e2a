-- A refusal in words, as a person reads it: the rows of document 01's "Answer numbers".
use Rattle.std.specs.Prelude.{ℕ, List, ◌++◌, codes, decimal}
use Rattle.meaning.specs.declared.Refusal.{Refusal}

-- The text of a refusal; that of 6 gives t.
unfoldable pub refusal_text : Refusal → List ℕ
refusal_text Refusal.NotSound = codes "the state is not sound"
refusal_text Refusal.SettingsOffRange = codes "D, M, the classes or the largest bound are off range"
refusal_text Refusal.ConnectionOffRange = codes "class number, s, b or T is off range, or T does not divide M"
refusal_text Refusal.TableFull = codes "32 connections stand"
refusal_text Refusal.RateExceeded = codes "the rate exceeds M"
refusal_text (Refusal.ConditionFails t) = codes "(11) or (12) fails, first at t = " ++ decimal t
refusal_text Refusal.NoConnection = codes "no such connection"
refusal_text Refusal.WrongLength = codes "length 0 or above s"
refusal_text Refusal.NotFitting = codes "the packet does not fit the envelope"
refusal_text Refusal.StoreFull = codes "1,024 packets wait"
refusal_text Refusal.TurnBlocked = codes "the step would turn the queues while tag 0 still has a waiting packet"
refusal_text Refusal.CounterEnded = codes "the counter stands at 4,000,000,000"
refusal_text Refusal.WrongSize = codes "plan under 40 bytes, above 65,536, not a multiple of 4, or word 0 differs from its size"
refusal_text Refusal.WrongSum = codes "the plan's words do not sum to 0 modulo 2^32"
refusal_text Refusal.WrongLayout = codes "plan counts or offsets are wrong"
refusal_text Refusal.WrongSlots = codes "arrival slots fall, or one exceeds 1,000,000"
refusal_text Refusal.TooShort = codes "the buffer lent for a new box or a written plan is too short"
