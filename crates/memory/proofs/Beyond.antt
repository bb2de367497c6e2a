-- "Words beyond a state .. are never altered": not by a public call, nor by a run of them, nor by an opening, on any words.
use Prim.Native.Nat.{ℕ, ◌+◌, ◌-◌, ◌≤◌}
use mathlib.Core.Path.{◌≡◌, refl, sym, ap, ◌∙◌}
use mathlib.Core.Bool.{true, false}
use mathlib.Core.List.{List, [], ◌∷◌, ◌++◌}
use mathlib.Core.Logic.{⊎_elim}
use native.Mathlib.Omega.{arith}
use lib.ListN.{length, drop}
use lib.Seq.{drop-append-add, drop-drop}
use Rattle.laws.specs.Tests.{bool_cases}
use Rattle.meaning.specs.Numbers.{Settings}
use Rattle.meaning.specs.Box.{Box, sound}
use Rattle.meaning.specs.Calls.{new_box, opening_answer}
use Rattle.meaning.proofs.Facts.{sound_facts}
use Rattle.meaning.proofs.KeepsSound.{new_box_sound}
use Rattle.words.specs.Places.{box_words}
use Rattle.words.specs.Contents.{contents, image, put}
use Rattle.words.specs.Sound.{sound_words}
use Rattle.tables.specs.Opening.{opened, after_opening}
use Rattle.words.proofs.ContentsPut.{sound_puttable}
use Rattle.words.proofs.Counts.{image_size, length_put, sound_fitting}
use Rattle.words.proofs.TestedSound.{sound_contents}
use Rattle.multiplexer.specs.Promised.{words_after, words_admitted, words_offered, words_stepped}
use Rattle.guarantees.specs.Runs.{Call, admit, offer, step, after}
use Rattle.guarantees.proofs.Always.{sound_after}
use Rattle.memory.specs.Runs.{left_by, left_by_run, BeyondKept}
use Rattle.tables.proofs.Opened.{opened_allowed, words_enough}
use Rattle.std.proofs.Common.{Result, Ok, Err}
use Rattle.meaning.specs.declared.Refusal.{Refusal}

-- The words of a sound box take none of them.
put_beyond : (box : Box) (ws : List ℕ) → sound box ≡ true → box_words ≤ length ws → BeyondKept ws (put box ws)
unfolding put
put_beyond box ws s h =
    let k = sound_puttable box s in
    let n = image_size box k in
    let w = (sound_facts box s).waiting_most in
    let m = length (image box) in
    let e : box_words ≡ m + (box_words - m) = omega arith in (
      length_put box ws k w h,
      ap (λ i. drop i (image box ++ drop m ws)) e ∙ drop-append-add (image box) (drop m ws) (box_words - m) ∙ drop-drop (box_words - m) m ws ∙
          ap (λ i. drop i ws) (sym e),
    )

-- Nor do the words after a call, sound or not.
after_beyond : (ws : List ℕ) (box : Box) → (sound (contents ws) ≡ true → sound box ≡ true) → BeyondKept ws (words_after ws box)
unfolding words_after
after_beyond ws box s =
    ⊎_elim (λ (h : sound_words ws ≡ true). rw h (put_beyond box ws (s (sound_contents ws h)) (sound_fitting ws h).enough))
    (λ (h : sound_words ws ≡ false). rw h (refl, refl)) (bool_cases (sound_words ws))

-- A public call leaves them as they were, and as many words.
pub call_keeps_beyond : (ws : List ℕ) (c : Call) → BeyondKept ws (left_by ws c)
unfolding left_by words_admitted words_offered words_stepped after
call_keeps_beyond ws (admit c) = after_beyond ws _ (sound_after (contents ws) (admit c))
call_keeps_beyond ws (offer n units) = after_beyond ws _ (sound_after (contents ws) (offer n units))
call_keeps_beyond ws step = after_beyond ws _ (sound_after (contents ws) step)

-- A run keeps the words beyond a state too.
pub run_keeps_beyond : (ws : List ℕ) (calls : List Call) → BeyondKept ws (left_by_run ws calls)
unfolding left_by_run
run_keeps_beyond ws [] = (refl, refl)
run_keeps_beyond ws (c ∷ calls) =
    let a = call_keeps_beyond ws c in
    let b = run_keeps_beyond (left_by ws c) calls in
    (b.0 ∙ a.0, b.1 ∙ a.1)

-- And an opening, refused or not.
pub opening_keeps_beyond : (set : Settings) (ws : List ℕ) → BeyondKept ws (opened set ws).1
unfolding opened
opening_keeps_beyond set ws = go (opening_answer box_words (length ws) set) refl
  where
    go : (r : Result Unit Refusal) → opening_answer box_words (length ws) set ≡ r → BeyondKept ws (after_opening set ws r)
    go (Ok tt) e =
        unfold after_opening in put_beyond (new_box set) ws (new_box_sound set (opened_allowed set ws (unfold opened in e)))
        (words_enough set ws (unfold opened in e))
    go (Err why) e = unfold after_opening in (refl, refl)
