-- Sound words: what they give, and what a change that leaves a sound box leaves of them.
use Prim.Native.Nat.{ℕ, ◌≤◌}
use mathlib.Core.Path.{◌≡◌, refl, sym, ap, ◌∙◌}
use mathlib.Core.Bool.{true, false}
use mathlib.Core.List.{List}
use Rattle.meaning.specs.Numbers.{last_slot}
use Rattle.meaning.specs.Box.{Box, sound}
use Rattle.meaning.proofs.Facts.{SoundFacts, sound_facts}
use Rattle.words.specs.Contents.{contents}
use Rattle.words.specs.Sound.{Fitting, sound_words}
use Rattle.words.specs.Changes.{Become}
use Rattle.words.proofs.PutContents.{put_contents}
use Rattle.words.proofs.Counts.{sound_put, sound_fitting}
use Rattle.words.proofs.TestedSound.{sound_contents}
use Rattle.words.proofs.Becoming.{become_put}
use Rattle.multiplexer.specs.Promised.{Leaves, words_after}

-- The facts of sound contents.
pub facts : (ws : List ℕ) → sound_words ws ≡ true → SoundFacts (contents ws)
facts ws h = sound_facts (contents ws) (sound_contents ws h)

-- The counter of sound words is at most 4,000,000,000.
pub counter_most : (ws : List ℕ) → sound_words ws ≡ true → (contents ws).counter ≤ last_slot
counter_most ws h = (facts ws h).counter_most

-- A refusal leaves the words as they are.
pub leaves_same : (ws : List ℕ) → sound_words ws ≡ true → Leaves ws ws (contents ws)
leaves_same ws h = record { words_are = sym (put_contents ws (sound_fitting ws h)); still_sound = h; stand_for = refl }

-- A change to a sound box leaves sound words.
pub leaves : (ws after : List ℕ) (box : Box) → sound_words ws ≡ true → sound box ≡ true → Become ws after box → Leaves ws after box
leaves ws after box h s b =
    let e = become_put ws after box b in
    record { words_are = e; still_sound = ap sound_words e ∙ sound_put box ws s (sound_fitting ws h).enough; stand_for = b.stands_for }

-- What a public call promises, from what the inner one leaves.
pub promised : (ws after : List ℕ) (box : Box) → sound_words ws ≡ true → Leaves ws after box → after ≡ words_after ws box
unfolding words_after
promised ws after box h l = rw h l.words_are

-- Words that are not sound are left as they are.
pub unchanged : (ws : List ℕ) (box : Box) → sound_words ws ≡ false → ws ≡ words_after ws box
unfolding words_after
unchanged ws box h = rw h refl

-- Words that are not written.
pub become_same : (ws : List ℕ) → Fitting ws → Become ws ws (contents ws)
become_same ws f = record { fitting = f; stands_for = refl; same_length = refl; beyond = λ i h. refl }
