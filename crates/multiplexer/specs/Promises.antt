-- What each call promises of the words at entry, its answer and the words at exit.
use Rattle.std.specs.Prelude.{ℕ, ◌≡◌, List, Result}
use Rattle.meaning.specs.declared.Stepped.{Stepped}
use Rattle.meaning.specs.Calls.{admission_answer, after_admission, offer_answer, after_offer}
use Rattle.meaning.specs.Step.{step_answer, after_step}
use Rattle.words.specs.Contents.{contents}
use Rattle.meaning.specs.declared.Connection.{Connection}
use Rattle.multiplexer.specs.Promised.{Leaves, admission, words_admitted, offering, words_offered, stepping, words_stepped}
use Rattle.meaning.specs.declared.Refusal.{Refusal}

-- `multiplexer::admitting::admit`: "Admission: 1, 3, 4, 5, 6."
abbrev pub AdmitPromise : List ℕ → ℕ → ℕ → ℕ → ℕ → Result ℕ Refusal → List ℕ → Type 0
AdmitPromise entry class longest burst period r exit =
    (r ≡ admission entry (record { class = class; longest = longest; burst = burst; period = period })) ×
    (exit ≡ words_admitted entry (record { class = class; longest = longest; burst = burst; period = period }))

-- `multiplexer::offering::offer`: "Offer: 1, 7, 8, 9, 10."
abbrev pub OfferPromise : List ℕ → ℕ → ℕ → Result ℕ Refusal → List ℕ → Type 0
OfferPromise entry n units r exit = (r ≡ offering entry n units) × (exit ≡ words_offered entry n units)

-- `multiplexer::stepping::step`: "Step: 1, 12, 11."
abbrev pub StepPromise : List ℕ → Result Stepped Refusal → List ℕ → Type 0
StepPromise entry r exit = (r ≡ stepping entry) × (exit ≡ words_stepped entry)

-- The same calls on words that are known to be sound.
abbrev pub AdmitSoundPromise : List ℕ → Connection → Result ℕ Refusal → List ℕ → Type 0
AdmitSoundPromise entry c r exit =
    (r ≡ admission_answer (contents entry) c) ×
    Leaves entry exit (after_admission (contents entry) c (admission_answer (contents entry) c))

-- What the method `offer` of `Sound` promises.
abbrev pub OfferSoundPromise : List ℕ → ℕ → ℕ → Result ℕ Refusal → List ℕ → Type 0
OfferSoundPromise entry n units r exit =
    (r ≡ offer_answer (contents entry) n units) ×
    Leaves entry exit (after_offer (contents entry) n units (offer_answer (contents entry) n units))

-- What the method `step` of `Sound` promises.
abbrev pub StepSoundPromise : List ℕ → Result Stepped Refusal → List ℕ → Type 0
StepSoundPromise entry r exit =
    (r ≡ step_answer (contents entry)) × Leaves entry exit (after_step (contents entry) (step_answer (contents entry)))
