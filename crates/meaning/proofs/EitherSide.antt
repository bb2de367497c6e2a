-- Document 01, "Either side of the line": P1 to P10 as a single table, one list of cases with what must be answered, one test that is
-- computed from the definitions, and one theorem.
use Prim.Native.Nat.{ℕ, zero, suc, ◌-◌}
use Prim.Native.String.{String}
use mathlib.Core.Path.{◌≡◌, refl}
use mathlib.Core.Bool.{Bool, true, false, beq, ◌&&◌}
use mathlib.Core.List.{List, [], ◌∷◌, Memᴰ}
use lib.ListN.{get_or}
use lib.Dec.{eqb}
use Rattle.laws.specs.Tests.{every, every_at}
use Rattle.meaning.specs.declared.Connection.{Connection}
use Rattle.meaning.specs.Numbers.{Settings}
use Rattle.meaning.specs.Envelope.{may_have, fits}
use Rattle.meaning.specs.Admission.{sum_at}
use Rattle.meaning.specs.Box.{Box, connections}
use Rattle.meaning.specs.Answers.{Answer, admitted, offered, stepped}
use Rattle.meaning.specs.Calls.{new_box, admission_answer, after_admission, offer_answer, after_offer}
use Rattle.meaning.specs.Step.{step_answer, after_step}
use Rattle.meaning.proofs.Computed.{definitions}

-- What a case says, in the order in which it happens.
pub data Says : Type 0 where
  -- a connection is offered for admission: the answer and its t
  admits : (asked : Connection) (answer t : ℕ) → Says
  -- the sum of (11) at t, over the connections that stand
  sums : (t sum : ℕ) → Says
  -- a packet of this connection and length is offered at this slot: the answer
  offers : (slot connection units answer : ℕ) → Says
  -- the step of this slot reports the departure of this serial
  departs : (slot serial : ℕ) → Says
  -- an offer at this slot fits this connection's envelope or not, after packets accepted at these slots
  fits_at : (asked : Connection) (accepted : List ℕ) (slot : ℕ) (answer : Bool) → Says

-- A case: its name, what the box is opened with, and what is then said of it.
pub record Case : Type 0 where
  pub name : String
  pub opening : Settings
  pub says : List Says

-- A connection by its four numbers: class, s, b and T.
abbrev pub asks : ℕ → ℕ → ℕ → ℕ → Connection
asks class s b T = record { class = class; longest = s; burst = b; period = T }

-- "D = 4, M = 8, factors 1 and 2, unless said."
abbrev pub usual : Settings
usual = record { interval = 4; cycle = 8; factors = 1 ∷ 2 ∷ [] }

-- Factors 1 and 3.
abbrev pub apart : Settings
apart = record { interval = 4; cycle = 8; factors = 1 ∷ 3 ∷ [] }

-- Both sides of every line.
pub cases : List Case
cases =
    record { name = "P1"; opening = usual; says = admits (asks 1 1 1 4) 0 0 ∷ admits (asks 2 3 1 8) 0 0 ∷ sums 4 4 ∷ [] } ∷
    record { name = "P2"; opening = usual; says = admits (asks 1 1 1 4) 0 0 ∷ admits (asks 2 4 1 8) 6 4 ∷ [] } ∷
    record { name = "P3"; opening = usual; says = admits (asks 1 4 1 4) 0 0 ∷ admits (asks 2 1 1 8) 5 0 ∷ [] } ∷
    record { name = "P4"; opening = usual; says = admits (asks 1 5 1 8) 6 4 ∷ admits (asks 1 4 1 8) 0 0 ∷ [] } ∷
    record { name = "P5"; opening = usual; says = admits (asks 1 1 1 3) 3 0 ∷ admits (asks 1 1 1 2) 0 0 ∷ [] } ∷
    record { name = "P6"; opening = apart; says = admits (asks 1 1 1 8) 0 0 ∷ admits (asks 2 4 1 8) 6 4 ∷ admits (asks 2 3 1 8) 0 0 ∷ [] } ∷
    record {
      name = "P7";
      opening = usual;
      says =
          admits (asks 1 1 1 4) 0 0 ∷
          offers 0 1 1 0 ∷
          offers 3 1 1 9 ∷
          offers 4 1 1 0 ∷
          fits_at (asks 1 1 1 4) [] 0 true ∷
          fits_at (asks 1 1 1 4) (0 ∷ []) 3 false ∷
          fits_at (asks 1 1 1 4) (0 ∷ []) 4 true ∷
          [];
    } ∷
    record {
      name = "P8";
      opening = usual;
      says =
          admits (asks 1 1 1 4) 0 0 ∷
          offers 3 1 1 0 ∷
          offers 4 1 1 9 ∷
          fits_at (asks 1 1 1 4) [] 3 true ∷
          fits_at (asks 1 1 1 4) (3 ∷ []) 4 false ∷
          [];
    } ∷
    record {
      name = "P9, class 2 accepted at 3, class 1 at 4, while a third packet is on the link";
      opening = usual;
      says =
          admits (asks 1 1 1 8) 0 0 ∷
          admits (asks 2 1 1 8) 0 0 ∷
          admits (asks 2 2 1 8) 0 0 ∷
          offers 3 3 2 0 ∷
          offers 3 2 1 0 ∷
          offers 4 1 1 0 ∷
          departs 4 1 ∷
          departs 5 2 ∷
          departs 6 3 ∷
          [];
    } ∷
    record {
      name = "P9, both at 3, while a third packet is on the link";
      opening = usual;
      says =
          admits (asks 1 1 1 8) 0 0 ∷
          admits (asks 2 1 1 8) 0 0 ∷
          admits (asks 2 2 1 8) 0 0 ∷
          offers 2 3 2 0 ∷
          offers 3 2 1 0 ∷
          offers 3 1 1 0 ∷
          departs 3 1 ∷
          departs 4 3 ∷
          departs 5 2 ∷
          [];
    } ∷
    record {
      name = "P10";
      opening = usual;
      says = admits (asks 1 2 2 8) 0 0 ∷ offers 0 1 0 8 ∷ offers 0 1 3 8 ∷ offers 0 1 1 0 ∷ offers 0 1 2 0 ∷ [];
    } ∷
    []

-- The box after so many steps.
unfoldable pub steps : ℕ → Box → Box
steps zero box = box
steps (suc n) box = steps n (after_step box (step_answer box))

-- The box at this slot.
unfoldable pub at_slot : ℕ → Box → Box
at_slot slot box = steps (slot - box.counter) box

-- The answer has this number, and this value in this field.
unfoldable pub answers : Answer → ℕ → ℕ → ℕ → Bool
answers a number field value = eqb a.number number && eqb (get_or a.fields field 0) value

-- What a case says holds of the box, one thing after another.
unfoldable pub holds_of : Box → List Says → Bool
holds_of box [] = true
holds_of box (admits c answer t ∷ rest) =
    let a = admission_answer box c in
    answers (admitted a) answer 1 t && holds_of (after_admission box c a) rest
holds_of box (sums t sum ∷ rest) = eqb (sum_at box.settings (connections box) t) sum && holds_of box rest
holds_of box (offers slot n units answer ∷ rest) =
    let b = at_slot slot box in
    let a = offer_answer b n units in
    eqb (offered a).number answer && holds_of (after_offer b n units a) rest
holds_of box (departs slot serial ∷ rest) =
    let b = at_slot slot box in
    let a = step_answer b in
    answers (stepped a) 0 0 serial && eqb (get_or (stepped a).fields 4 0) (suc slot) && holds_of (after_step b a) rest
holds_of box (fits_at c accepted slot answer ∷ rest) = beq (fits (may_have c) accepted slot) answer && holds_of box rest

-- A case holds from its new box on.
unfoldable pub case_holds : Case → Bool
case_holds c = holds_of (new_box c.opening) c.says

-- Every case of P1 to P10 holds when it is computed.
all_hold : every case_holds cases ≡ true
unfolding definitions cases steps at_slot answers holds_of case_holds
all_hold = refl

-- Every case of the table holds.
pub either_side_of_the_line : {c : Case} → Memᴰ c cases → case_holds c ≡ true
either_side_of_the_line m = every_at case_holds cases all_hold m
