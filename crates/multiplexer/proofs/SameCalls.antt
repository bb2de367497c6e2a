-- On sound words the method of `Sound` keeps the promise of the public call: who knows that the words are sound need not have them tested again.
use Prim.Native.Nat.{ℕ}
use mathlib.Core.Path.{◌≡◌, refl, ◌∙◌}
use mathlib.Core.Bool.{true}
use mathlib.Core.List.{List}
use Rattle.meaning.specs.declared.Stepped.{Stepped}
use Rattle.meaning.specs.Calls.{admission_answer, after_admission, offer_answer, after_offer}
use Rattle.meaning.specs.Step.{step_answer, after_step}
use Rattle.words.specs.Contents.{contents}
use Rattle.words.specs.Sound.{sound_words}
use Rattle.meaning.specs.declared.Connection.{Connection}
use Rattle.multiplexer.specs.Promised.{admission, words_admitted, offering, words_offered, stepping, words_stepped}
use Rattle.multiplexer.specs.Promises.{AdmitPromise, OfferPromise, StepPromise, AdmitSoundPromise, OfferSoundPromise}
use Rattle.multiplexer.specs.Promises.{StepSoundPromise}
use Rattle.multiplexer.proofs.Sounds.{promised}
use Rattle.std.proofs.Common.{Result}
use Rattle.meaning.specs.declared.Refusal.{Refusal}

module _ (entry exit : List ℕ) (h : sound_words entry ≡ true) where
  -- On sound words what `Sound::admit` promises is what `admit` promises.
  pub admit_same : (c : Connection) (r : Result ℕ Refusal) → AdmitSoundPromise entry c r exit
      → AdmitPromise entry c.class c.longest c.burst c.period r exit
  unfolding admission words_admitted
  admit_same c r p =
      (p.0 ∙ rw h refl, promised entry exit (after_admission (contents entry) c (admission_answer (contents entry) c)) h p.1)

  -- On sound words what `Sound::offer` promises is what `offer` promises.
  pub offer_same : (n units : ℕ) (r : Result ℕ Refusal) → OfferSoundPromise entry n units r exit → OfferPromise entry n units r exit
  unfolding offering words_offered
  offer_same n units r p =
      (p.0 ∙ rw h refl, promised entry exit (after_offer (contents entry) n units (offer_answer (contents entry) n units)) h p.1)

  -- On sound words what `Sound::step` promises is what `step` promises.
  pub step_same : (r : Result Stepped Refusal) → StepSoundPromise entry r exit → StepPromise entry r exit
  unfolding stepping words_stepped
  step_same r p = (p.0 ∙ rw h refl, promised entry exit (after_step (contents entry) (step_answer (contents entry))) h p.1)
