-- "answers satisfying one promise are proved the same": for each exported function, two results, two lists of fields and two final
-- memories that satisfy its promise at the same entry are the same.
use Prim.Native.Nat.{ℕ}
use mathlib.Core.Path.{◌≡◌}
use mathlib.Core.List.{List}
use Rattle.meaning.specs.Answers.{Answer}
use Rattle.meaning.specs.declared.Connection.{Connection}
use Rattle.meaning.specs.Plan.{Lent}
use Rattle.tables.proofs.Settles.{one}
use Rattle.cabinet.specs.Told.{Told}
use Rattle.cabinet.specs.Promises.{BoxWordsPromise, OpenPromise, SoundPromise, AdmitPromise, OfferPromise, StepPromise, ReadPromise}
use Rattle.cabinet.specs.Promises.{FactorPromise, ConnectionPromise, ArrivalPromise, StretchPromise, WritePromise, RunPromise}

-- Two numbers and lists of fields that tell the same answer are the same.
told : {answer : Answer} {r s : ℕ} {f g : List ℕ} → Told answer r f → Told answer s g → (r ≡ s) × (f ≡ g)
told p q = (one p.0 q.0, one p.1 q.1)

-- An answer that is told, and the words or bytes afterwards.
called : {answer : Answer} {r s : ℕ} {f g after left exit : List ℕ} →
    Told answer r f × (after ≡ exit) → Told answer s g × (left ≡ exit) → (r ≡ s) × (f ≡ g) × (after ≡ left)
called p q = (one p.0.0 q.0.0, one p.0.1 q.0.1, one p.1 q.1)

-- Two results of `zeppilorn_box_words` that keep its promise are the same.
pub box_words_settles : (r s : ℕ) → BoxWordsPromise r → BoxWordsPromise s → r ≡ s
box_words_settles r s = one

-- Two results of `zeppilorn_open` that keep its promise are the same, and so are the words they leave.
pub open_settles : (entry : List ℕ) (interval cycle : ℕ) (factors : List ℕ) (r s : ℕ) (after left : List ℕ) →
    OpenPromise entry interval cycle factors r after → OpenPromise entry interval cycle factors s left → (r ≡ s) × (after ≡ left)
open_settles entry interval cycle factors r s after left p q = (one p.0.0 q.0.0, one p.1 q.1)

-- `zeppilorn_is_sound`, which is lent its words to read only
pub is_sound_settles : (entry : List ℕ) (r s : ℕ) → SoundPromise entry r → SoundPromise entry s → r ≡ s
is_sound_settles entry r s = one

-- Two results of `zeppilorn_admit` that keep its promise are the same, with their fields and the words they leave.
pub admit_settles : (entry : List ℕ) (c : Connection) (r s : ℕ) (f g after left : List ℕ) →
    AdmitPromise entry c r f after → AdmitPromise entry c s g left → (r ≡ s) × (f ≡ g) × (after ≡ left)
admit_settles entry c r s f g after left = called

-- Two results of `zeppilorn_offer` that keep its promise are the same, with their fields and the words they leave.
pub offer_settles : (entry : List ℕ) (n units r s : ℕ) (f g after left : List ℕ) →
    OfferPromise entry n units r f after → OfferPromise entry n units s g left → (r ≡ s) × (f ≡ g) × (after ≡ left)
offer_settles entry n units r s f g after left = called

-- Two results of `zeppilorn_step` that keep its promise are the same, with their fields and the words they leave.
pub step_settles : (entry : List ℕ) (r s : ℕ) (f g after left : List ℕ) →
    StepPromise entry r f after → StepPromise entry s g left → (r ≡ s) × (f ≡ g) × (after ≡ left)
step_settles entry r s f g after left = called

-- The functions from here to `slot-arrivals` are lent what they read to read only.
pub read_plan_settles : (plan : List ℕ) (r s : ℕ) (f g : List ℕ) → ReadPromise plan r f → ReadPromise plan s g → (r ≡ s) × (f ≡ g)
read_plan_settles plan r s f g = told

-- Two results of `zeppilorn_factor` that keep its promise are the same, with their fields.
pub factor_settles : (classes : List ℕ) (i r s : ℕ) (f g : List ℕ) →
    FactorPromise classes i r f → FactorPromise classes i s g → (r ≡ s) × (f ≡ g)
factor_settles classes i r s f g = told

-- Two results of `zeppilorn_connection` that keep its promise are the same, with their fields.
pub connection_settles : (connections : List ℕ) (i r s : ℕ) (f g : List ℕ) →
    ConnectionPromise connections i r f → ConnectionPromise connections i s g → (r ≡ s) × (f ≡ g)
connection_settles connections i r s f g = told

-- Two results of `zeppilorn_arrival` that keep its promise are the same, with their fields.
pub arrival_settles : (arrivals : List ℕ) (i r s : ℕ) (f g : List ℕ) →
    ArrivalPromise arrivals i r f → ArrivalPromise arrivals i s g → (r ≡ s) × (f ≡ g)
arrival_settles arrivals i r s f g = told

-- `zeppilorn_slot_arrivals`
pub slot_arrivals_settles : (arrivals : List ℕ) (from slot r s : ℕ) (f g : List ℕ) →
    StretchPromise arrivals from slot r f → StretchPromise arrivals from slot s g → (r ≡ s) × (f ≡ g)
slot_arrivals_settles arrivals from slot r s f g = told

-- Two results of `zeppilorn_write_plan` that keep its promise are the same,
-- with their fields and the bytes they leave.
pub write_plan_settles : (l : Lent) (entry : List ℕ) (r s : ℕ) (f g after left : List ℕ) →
    WritePromise l entry r f after → WritePromise l entry s g left → (r ≡ s) × (f ≡ g) × (after ≡ left)
write_plan_settles l entry r s f g after left = called

-- Two results of `zeppilorn_run_plan` that keep its promise are the same,
-- with their fields and the bytes they leave.
pub run_plan_settles : (plan entry : List ℕ) (r s : ℕ) (f g after left : List ℕ) →
    RunPromise plan entry r f after → RunPromise plan entry s g left → (r ≡ s) × (f ≡ g) × (after ≡ left)
run_plan_settles plan entry r s f g after left = called
