-- Isolation: what one connection asks of a run, and what it is told.
use Rattle.std.specs.Prelude.{ℕ, Bool, false, cond, not, List, [], ◌∷◌, ◌++◌, eqb, Result, Ok, Err}
use Rattle.laws.specs.Tests.{every}
use Rattle.meaning.specs.declared.Connection.{Connection}
use Rattle.meaning.specs.Answers.{offered}
use Rattle.guarantees.specs.Runs.{Call, admit, offer, step, Reply, to_admission, to_offer, to_step, Event}
use Rattle.meaning.specs.declared.Refusal.{Refusal}

-- An admission at a slot, or an offer of the one connection at a slot, with its length.
pub data Ask : Type 0 where
  admission : ℕ → Connection → Ask
  offering : ℕ → ℕ → Ask

-- What a call at this slot is of these, with n the one connection.
unfoldable pub ask_of : ℕ → ℕ → Call → List Ask
ask_of n slot (admit c) = admission slot c ∷ []
ask_of n slot (offer m units) = cond (eqb m n) (offering slot units ∷ []) []
ask_of n slot step = []

-- All of these, "at the same slots and in the same order among themselves".
unfoldable pub asked : ℕ → List Event → List Ask
asked n [] = []
asked n (e ∷ es) = ask_of n e.slot e.call ++ asked n es

-- An answer with "serials aside because others' packets are counted in them".
unfoldable pub serial_aside : Result ℕ Refusal → Result ℕ Refusal
serial_aside (Ok serial) = Ok 0
serial_aside (Err why) = Err why

-- The offer answer that this call gave connection n, if any.
unfoldable pub answer_to : ℕ → Call → Reply → List (Result ℕ Refusal)
answer_to n (admit c) r = []
answer_to n step r = []
answer_to n (offer m units) (to_admission a) = []
answer_to n (offer m units) (to_step a) = []
answer_to n (offer m units) (to_offer a) = cond (eqb m n) (serial_aside a ∷ []) []

-- The offer answers that a run gave connection n.
unfoldable pub told : ℕ → List Event → List (Result ℕ Refusal)
told n [] = []
told n (e ∷ es) = answer_to n e.call e.answer ++ told n es

-- The answer is 10.
unfoldable pub is_ten : Reply → Bool
is_ten (to_admission a) = false
is_ten (to_step a) = false
is_ten (to_offer a) = eqb (offered a).number 10

-- A run answers 10 nowhere.
unfoldable pub never_ten : List Event → Bool
never_ten es = every (λ e. not (is_ten e.answer)) es
