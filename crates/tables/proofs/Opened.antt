-- What a successful opening leaves: the words of a new box, which are sound and stand for it.
use Prim.Native.Nat.{ℕ, ◌≤◌}
use mathlib.Core.Path.{◌≡◌, refl, sym, ap, ◌∙◌}
use mathlib.Core.Bool.{Bool, true, false, cond, not, true≢false}
use mathlib.Core.List.{List}
use lib.ListN.{length}
use lib.Dec.{ltb}
use borrow.Author.Tests.{ltb-false}
use Rattle.meaning.specs.declared.Refusal.{Refusal}
use Rattle.meaning.specs.Numbers.{Settings, settings_allowed}
use Rattle.meaning.specs.Calls.{new_box, opening_answer}
use Rattle.meaning.proofs.KeepsSound.{new_box_sound}
use Rattle.words.specs.Places.{box_words}
use Rattle.words.specs.Contents.{contents, put}
use Rattle.words.specs.Sound.{sound_words}
use Rattle.tables.specs.Opening.{opened, after_opening}
use Rattle.words.proofs.Counts.{sound_put, sound_contents_put}
use Rattle.std.proofs.Common.{Result, Ok, Err}

-- The answer is 0.
abbrev is_done : Result Unit Refusal → Bool
is_done (Ok tt) = true
is_done (Err why) = false

-- An opening that is answered 0 had settings that are allowed and words enough.
done_says : (set : Settings) (size lent : ℕ) → opening_answer size lent set ≡ Ok (tt {0})
    → (settings_allowed set ≡ true) × (ltb lent size ≡ false)
unfolding opening_answer
done_says set size lent = go (settings_allowed set) (ltb lent size)
  where
    go : (a b : Bool) → cond (not a) (Err Refusal.SettingsOffRange) (cond b (Err Refusal.TooShort) (Ok (tt {0}))) ≡ Ok (tt {0}) → (a ≡ true) × (b ≡ false)
    go true false e = (refl, refl)
    go true true e = absurd (true≢false (sym (ap is_done e)))
    go false b e = absurd (true≢false (sym (ap is_done e)))

module _ (set : Settings) (ws : List ℕ) (done : (opened set ws).0 ≡ Ok (tt {0})) where
  -- Its settings are allowed.
  pub opened_allowed : settings_allowed set ≡ true
  unfolding opened
  opened_allowed = (done_says set box_words (length ws) done).0

  -- It leaves the words of a new box.
  opened_words_lem : (opened set ws).1 ≡ put (new_box set) ws
  unfolding opened after_opening
  opened_words_lem = ap (after_opening set ws) done

  -- A successful opening was lent enough words for a box.
  pub words_enough : box_words ≤ length ws
  unfolding opened
  words_enough = ltb-false (length ws) box_words (done_says set box_words (length ws) done).1

  -- "A new box is sound": so are its words, and they stand for it.
  pub opened_sound : sound_words (opened set ws).1 ≡ true
  opened_sound = ap sound_words opened_words_lem ∙ sound_put (new_box set) ws (new_box_sound set opened_allowed) words_enough

  -- The words after a successful opening stand for a new box.
  pub opened_new : contents (opened set ws).1 ≡ new_box set
  opened_new = ap contents opened_words_lem ∙ sound_contents_put (new_box set) ws (new_box_sound set opened_allowed)
