-- A run as a caller has it: of each public call only its promise is known.
use Rattle.std.specs.Prelude.{ℕ, ◌≡◌, List, [], ◌∷◌}
use Rattle.guarantees.specs.Runs.{Call, admit, offer, step, Reply, to_admission, to_offer, to_step}
use Rattle.multiplexer.specs.Promises.{AdmitPromise, OfferPromise, StepPromise}

-- A public call on these words gave this answer and left those words: what its promise says of them.
unfoldable pub Performed : List ℕ → Call → Reply → List ℕ → Type 0
Performed ws (admit c) (to_admission r) exit = AdmitPromise ws c.class c.longest c.burst c.period r exit
Performed ws (admit c) (to_offer r) exit = ⊥
Performed ws (admit c) (to_step r) exit = ⊥
Performed ws (offer n units) (to_admission r) exit = ⊥
Performed ws (offer n units) (to_offer r) exit = OfferPromise ws n units r exit
Performed ws (offer n units) (to_step r) exit = ⊥
Performed ws step (to_admission r) exit = ⊥
Performed ws step (to_offer r) exit = ⊥
Performed ws step (to_step r) exit = StepPromise ws r exit

-- These calls, one after another on the same lent words, gave these answers and left those words.
unfoldable pub PerformedRun : List ℕ → List Call → List Reply → List ℕ → Type 0
PerformedRun ws [] [] exit = exit ≡ ws
PerformedRun ws [] (r ∷ answers) exit = ⊥
PerformedRun ws (c ∷ calls) [] exit = ⊥
PerformedRun ws (c ∷ calls) (r ∷ answers) exit = (between : List ℕ) × Performed ws c r between × PerformedRun between calls answers exit
