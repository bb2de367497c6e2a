-- A run of the public calls on lent words gives the answers of the run on contents, and leaves sound words that stand for its box.
use Prim.Native.Nat.{ℕ}
use mathlib.Core.Path.{◌≡◌, refl, ap, ◌∙◌}
use mathlib.Core.Bool.{true}
use mathlib.Core.List.{List, [], ◌∷◌}
use Rattle.meaning.specs.Box.{Box, sound}
use Rattle.words.specs.Contents.{contents}
use Rattle.words.specs.Sound.{sound_words}
use Rattle.words.proofs.Counts.{sound_put, sound_fitting, sound_contents_put}
use Rattle.words.proofs.TestedSound.{sound_contents}
use Rattle.multiplexer.specs.Promised.{Leaves, words_after, admission, words_admitted, offering, words_offered, stepping, words_stepped}
use Rattle.guarantees.specs.Runs.{Call, admit, offer, step, reply, after, box_after, trace}
use Rattle.guarantees.proofs.Always.{sound_after}
use Rattle.memory.specs.Runs.{reply_on, left_by, left_by_run, trace_on}

-- On sound words the words of a sound box are left, they are sound, and they stand for it.
after_leaves : (ws : List ℕ) (box : Box) → sound_words ws ≡ true → sound box ≡ true → Leaves ws (words_after ws box) box
unfolding words_after
after_leaves ws box h s =
    rw h (record {
      words_are = refl;
      still_sound = sound_put box ws s (sound_fitting ws h).enough;
      stand_for = sound_contents_put box ws s;
    })

-- The answer of a call on sound words is that of 01 on their contents.
pub reply_on_words : (ws : List ℕ) (c : Call) → sound_words ws ≡ true → reply_on ws c ≡ reply (contents ws) c
unfolding reply_on reply admission offering stepping
reply_on_words ws (admit c) h = rw h refl
reply_on_words ws (offer n units) h = rw h refl
reply_on_words ws step h = rw h refl

-- And it leaves the words of the box after it, sound ones.
pub left_by_call : (ws : List ℕ) (c : Call) → sound_words ws ≡ true → Leaves ws (left_by ws c) (after (contents ws) c)
unfolding left_by words_admitted words_offered words_stepped after
left_by_call ws (admit c) h = after_leaves ws _ h (sound_after (contents ws) (admit c) (sound_contents ws h))
left_by_call ws (offer n units) h = after_leaves ws _ h (sound_after (contents ws) (offer n units) (sound_contents ws h))
left_by_call ws step h = after_leaves ws _ h (sound_after (contents ws) step (sound_contents ws h))

-- "A run of the public calls on a lent slice gives the answers of the run on contents": the events are the same, the words after it are
-- sound, and they stand for the box after it.
pub run_on_words : (ws : List ℕ) (calls : List Call) → sound_words ws ≡ true →
    (trace_on ws calls ≡ trace (contents ws) calls) × (sound_words (left_by_run ws calls) ≡ true) ×
    (contents (left_by_run ws calls) ≡ box_after (contents ws) calls)
unfolding trace_on left_by_run trace box_after
run_on_words ws [] h = (refl, h, refl)
run_on_words ws (c ∷ calls) h =
    let l = left_by_call ws c h in
    let r = reply_on_words ws c h in
    let rest = run_on_words (left_by ws c) calls l.still_sound in
    let t = rest.0 ∙ ap (λ box. trace box calls) l.stand_for in (
      λ i. record { slot = (contents ws).counter; call = c; answer = r i } ∷ t i,
      rest.1,
      rest.2 ∙ ap (λ box. box_after box calls) l.stand_for,
    )
