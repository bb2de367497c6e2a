-- What a caller reads of the contents, as the words that the inner functions ask about.
use Prim.Native.Nat.{ℕ}
use mathlib.Core.Path.{◌≡◌, refl}
use mathlib.Core.List.{List}
use lib.ListN.{length}
use Rattle.meaning.specs.Numbers.{class_count}
use Rattle.words.specs.Places.{word, interval_at, classes_at, row_count_at, counter_at, accepted_at}
use Rattle.words.specs.Contents.{contents, settings_at}
use Rattle.words.proofs.PutContents.{class_count_lem, row_count}

-- The rotation interval D is the word at its place.
pub interval_word : (ws : List ℕ) → (contents ws).settings.interval ≡ word ws interval_at
unfolding contents settings_at
interval_word ws = refl

-- The number of classes is the word at its place.
pub classes_word : (ws : List ℕ) → class_count (contents ws).settings ≡ word ws classes_at
unfolding contents class_count
classes_word ws = class_count_lem ws

-- As many connections stand as the word at the count of rows says.
pub standing_word : (ws : List ℕ) → length (contents ws).standing ≡ word ws row_count_at
unfolding contents
standing_word ws = row_count ws

-- The slot counter is the word at its place.
pub counter_word : (ws : List ℕ) → (contents ws).counter ≡ word ws counter_at
unfolding contents
counter_word ws = refl

-- The count of accepted packets is the word at its place.
pub accepted_word : (ws : List ℕ) → (contents ws).accepted ≡ word ws accepted_at
unfolding contents
accepted_word ws = refl
