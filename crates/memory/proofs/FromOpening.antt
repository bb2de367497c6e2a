-- A run from the words that a successful opening leaves is a run from a new box.
use Prim.Native.Nat.{ℕ}
use mathlib.Core.Path.{◌≡◌, ap, ◌∙◌}
use mathlib.Core.Bool.{true}
use mathlib.Core.List.{List}
use Rattle.meaning.specs.Numbers.{Settings}
use Rattle.meaning.specs.Calls.{new_box}
use Rattle.words.specs.Sound.{sound_words}
use Rattle.tables.specs.Opening.{opened}
use Rattle.tables.proofs.Opened.{opened_sound, opened_new}
use Rattle.guarantees.specs.Runs.{Call, box_of, box_after, trace}
use Rattle.memory.specs.Runs.{opened_trace, opened_words, opened_box}
use Rattle.memory.proofs.RunOnWords.{run_on_words}
use Rattle.std.proofs.Common.{Ok}

-- So a run from them has the events of the run from a new box, leaves sound words, and these stand for the box after that run.
pub run_from_opening : (set : Settings) (ws : List ℕ) → (opened set ws).0 ≡ (Ok tt) → (calls : List Call) →
    (opened_trace set ws calls ≡ trace (new_box set) calls) × (sound_words (opened_words set ws calls) ≡ true) ×
    (opened_box set ws calls ≡ box_of set calls)
run_from_opening set ws done calls =
    let r = run_on_words (opened set ws).1 calls (opened_sound set ws done) in
    (r.0 ∙ ap (λ box. trace box calls) (opened_new set ws done), r.1, r.2 ∙ ap (λ box. box_after box calls) (opened_new set ws done))
