-- "answers satisfying one promise are proved the same": for each call, two results and two final memories that satisfy its promise at the
-- same entry are the same.
use Prim.Native.Nat.{ℕ}
use mathlib.Core.Path.{◌≡◌}
use mathlib.Core.List.{List}
use Rattle.meaning.specs.declared.Stepped.{Stepped}
use Rattle.meaning.specs.declared.Connection.{Connection}
use Rattle.tables.proofs.Settles.{one}
use Rattle.multiplexer.specs.Promises.{AdmitPromise, OfferPromise, StepPromise, AdmitSoundPromise, OfferSoundPromise}
use Rattle.multiplexer.specs.Promises.{StepSoundPromise}
use Rattle.std.proofs.Common.{Result}
use Rattle.meaning.specs.declared.Refusal.{Refusal}

-- `multiplexer::admitting::admit`
pub admit_settles : (entry : List ℕ) (class longest burst period : ℕ) (r s : Result ℕ Refusal) (after left : List ℕ) →
    AdmitPromise entry class longest burst period r after → AdmitPromise entry class longest burst period s left → (r ≡ s) × (after ≡ left)
admit_settles entry class longest burst period r s after left p q = (one p.0 q.0, one p.1 q.1)

-- `multiplexer::offering::offer`
pub offer_settles : (entry : List ℕ) (n units : ℕ) (r s : Result ℕ Refusal) (after left : List ℕ) →
    OfferPromise entry n units r after → OfferPromise entry n units s left → (r ≡ s) × (after ≡ left)
offer_settles entry n units r s after left p q = (one p.0 q.0, one p.1 q.1)

-- `multiplexer::stepping::step`
pub step_settles : (entry : List ℕ) (r s : Result Stepped Refusal) (after left : List ℕ) →
    StepPromise entry r after → StepPromise entry s left → (r ≡ s) × (after ≡ left)
step_settles entry r s after left p q = (one p.0 q.0, one p.1 q.1)

-- The same calls on words that are known to be sound: the methods `admit`, `offer` and `step` of `Sound`.
pub admit_sound_settles : (entry : List ℕ) (c : Connection) (r s : Result ℕ Refusal) (after left : List ℕ) →
    AdmitSoundPromise entry c r after → AdmitSoundPromise entry c s left → (r ≡ s) × (after ≡ left)
admit_sound_settles entry c r s after left p q = (one p.0 q.0, one p.1.words_are q.1.words_are)

-- Two results of `Sound::offer` that keep its promise are the same, and so are the words they leave.
pub offer_sound_settles : (entry : List ℕ) (n units : ℕ) (r s : Result ℕ Refusal) (after left : List ℕ) →
    OfferSoundPromise entry n units r after → OfferSoundPromise entry n units s left → (r ≡ s) × (after ≡ left)
offer_sound_settles entry n units r s after left p q = (one p.0 q.0, one p.1.words_are q.1.words_are)

-- Two results of `Sound::step` that keep its promise are the same, and so are the words they leave.
pub step_sound_settles : (entry : List ℕ) (r s : Result Stepped Refusal) (after left : List ℕ) →
    StepSoundPromise entry r after → StepSoundPromise entry s left → (r ≡ s) × (after ≡ left)
step_sound_settles entry r s after left p q = (one p.0 q.0, one p.1.words_are q.1.words_are)
