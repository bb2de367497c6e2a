-- The tests of the definitions, read as the sentences of document 01.
use Prim.Native.Nat.{ℕ, zero, suc, ◌-◌, ◌≤◌}
use mathlib.Core.Path.{◌≡◌, refl}
use mathlib.Core.Bool.{true}
use mathlib.Core.List.{List, ◌∷◌}
use mathlib.Core.Logic.{◌↔◌, ◌≢◌}
use native.Mathlib.Omega.{arith}
use lib.Dec.{leb, eqb}
use borrow.Author.Tests.{leb-true, le-leb}
use Rattle.laws.specs.Tests.{every, every_below_at, every_below_all}
use Rattle.laws.specs.Lists.{Placed}
use Rattle.meaning.specs.declared.Arrival.{Arrival}
use Rattle.meaning.specs.Box.{Box}
use Rattle.meaning.specs.Run.{stopped, phase}
use Rattle.meaning.specs.Envelope.{count_in, fits}
use Rattle.meaning.specs.declared.Refusal.{Refusal}
use Rattle.meaning.specs.declared.Stepped.{Stepped}
use Rattle.meaning.specs.Answers.{Answer, refusal_number, failing_t, refusal, opened, admitted, offered, stepped, plan_read}
use Rattle.meaning.specs.Answers.{plan_written, printed}
use Rattle.std.proofs.Common.{Result, Ok, Err}
use Rattle.meaning.specs.declared.Header.{Header}

-- "An offer at slot now fits exactly when, with it counted, no stretch that ends at now and starts at an earlier or the same slot has
-- more than it may."
pub fits_reads : (may : ℕ → ℕ) (slots : List ℕ) (at : ℕ)
    → (fits may slots at ≡ true) ↔ ((x : ℕ) → x ≤ at → count_in (at ∷ slots) x at ≤ may (at - x))
unfolding fits
fits_reads may slots at = (
  λ e x h. leb-true _ _ (every_below_at (λ x. leb (count_in (at ∷ slots) x at) (may (at - x))) (suc at) e x (omega arith)),
  λ f. every_below_all (λ x. leb (count_in (at ∷ slots) x at) (may (at - x))) (suc at) (λ x h. le-leb _ _ (f x (omega arith))),
)

-- "0 is success", and the refusals are numbered from 1 to 17.
pub refusal_range : (why : Refusal) → (1 ≤ refusal_number why) × (refusal_number why ≤ 17)
unfolding refusal_number
refusal_range Refusal.NotSound = (omega arith, omega arith)
refusal_range Refusal.SettingsOffRange = (omega arith, omega arith)
refusal_range Refusal.ConnectionOffRange = (omega arith, omega arith)
refusal_range Refusal.TableFull = (omega arith, omega arith)
refusal_range Refusal.RateExceeded = (omega arith, omega arith)
refusal_range (Refusal.ConditionFails t) = (omega arith, omega arith)
refusal_range Refusal.NoConnection = (omega arith, omega arith)
refusal_range Refusal.WrongLength = (omega arith, omega arith)
refusal_range Refusal.NotFitting = (omega arith, omega arith)
refusal_range Refusal.StoreFull = (omega arith, omega arith)
refusal_range Refusal.TurnBlocked = (omega arith, omega arith)
refusal_range Refusal.CounterEnded = (omega arith, omega arith)
refusal_range Refusal.WrongSize = (omega arith, omega arith)
refusal_range Refusal.WrongSum = (omega arith, omega arith)
refusal_range Refusal.WrongLayout = (omega arith, omega arith)
refusal_range Refusal.WrongSlots = (omega arith, omega arith)
refusal_range Refusal.TooShort = (omega arith, omega arith)

-- A run whose step was refused has stopped with the refusal's number.
pub refused_phase : (l : List (Placed Arrival)) (box : Box) (why : Refusal)
    → phase l box (refusal_number why) ≡ stopped (refusal_number why)
refused_phase l box why = positive (refusal_number why) (refusal_range why).0
  where
    positive : (n : ℕ) → 1 ≤ n → phase l box n ≡ stopped n
    positive zero h = absurd (let z = h in omega arith)
    positive (suc n) h = unfold phase in refl

-- Only 6 gives a t.
no_failing_t : (why : Refusal) → refusal_number why ≢ 6 → failing_t why ≡ 0
unfolding refusal_number failing_t
no_failing_t Refusal.NotSound f = refl
no_failing_t Refusal.SettingsOffRange f = refl
no_failing_t Refusal.ConnectionOffRange f = refl
no_failing_t Refusal.TableFull f = refl
no_failing_t Refusal.RateExceeded f = refl
no_failing_t (Refusal.ConditionFails t) f = absurd (f refl)
no_failing_t Refusal.NoConnection f = refl
no_failing_t Refusal.WrongLength f = refl
no_failing_t Refusal.NotFitting f = refl
no_failing_t Refusal.StoreFull f = refl
no_failing_t Refusal.TurnBlocked f = refl
no_failing_t Refusal.CounterEnded f = refl
no_failing_t Refusal.WrongSize f = refl
no_failing_t Refusal.WrongSum f = refl
no_failing_t Refusal.WrongLayout f = refl
no_failing_t Refusal.WrongSlots f = refl
no_failing_t Refusal.TooShort f = refl

-- "Every refusal leaves .. its other result fields 0, but 6, which gives t": a number other than 0 and 6 comes with fields 0.
abbrev pub FieldsZero : Answer → Type 0
FieldsZero a = a.number ≢ 0 → a.number ≢ 6 → every (eqb 0) a.fields ≡ true

-- A refused opening has its other result fields 0.
pub opened_fields : (r : Result Unit Refusal) → FieldsZero (opened r)
unfolding opened refusal every
opened_fields (Ok tt) f g = refl
opened_fields (Err why) f g = refl

-- A refused admission has its other result fields 0, unless its answer is 6.
pub admitted_fields : (r : Result ℕ Refusal) → FieldsZero (admitted r)
unfolding admitted every
admitted_fields (Ok n) f g = absurd (f refl)
admitted_fields (Err why) f g = rw (no_failing_t why g) refl

-- A refused offer has its other result fields 0.
pub offered_fields : (r : Result ℕ Refusal) → FieldsZero (offered r)
unfolding offered refusal every
offered_fields (Ok serial) f g = absurd (f refl)
offered_fields (Err why) f g = refl

-- A refused step has its other result fields 0.
pub stepped_fields : (r : Result Stepped Refusal) → FieldsZero (stepped r)
unfolding stepped refusal every
stepped_fields (Ok Stepped.Idle) f g = absurd (f refl)
stepped_fields (Ok (Stepped.Sending serial left)) f g = absurd (f refl)
stepped_fields (Ok (Stepped.Departed serial connection arrival departure)) f g = absurd (f refl)
stepped_fields (Err why) f g = refl

-- A refused reading has its other result fields 0.
pub read_fields : (r : Result Header Refusal) → FieldsZero (plan_read r)
unfolding plan_read refusal every
read_fields (Ok h) f g = absurd (f refl)
read_fields (Err why) f g = refl

-- A refused writing has its other result fields 0.
pub written_fields : (r : Result ℕ Refusal) → FieldsZero (plan_written r)
unfolding plan_written refusal every
written_fields (Ok n) f g = absurd (f refl)
written_fields (Err why) f g = refl

-- Every refusal of printing leaves its field 0.
pub printed_fields : (r : Result ℕ Refusal) → FieldsZero (printed r)
unfolding printed refusal every
printed_fields (Ok n) f g = absurd (f refl)
printed_fields (Err why) f g = refl
