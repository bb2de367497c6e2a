-- Opening a box in lent words.
use Rattle.std.specs.Prelude.{ℕ, ◌+◌, ◌≡◌, List, ◌++◌, length, take, drop, Result, Ok, Err}
use Rattle.meaning.specs.Numbers.{Settings}
use Rattle.meaning.specs.Calls.{opening_answer, new_box}
use Rattle.words.specs.Places.{factors_at, box_words}
use Rattle.words.specs.Contents.{put}
use Rattle.meaning.specs.declared.Refusal.{Refusal}

-- The settings that a box is opened with.
abbrev pub asked : ℕ → ℕ → List ℕ → Settings
asked D M fs = record { interval = D; cycle = M; factors = fs }

-- The words with these factors at their places.
abbrev pub factors_put : List ℕ → List ℕ → List ℕ
factors_put fs ws = take factors_at ws ++ fs ++ drop (factors_at + length fs) ws

-- The words after an opening: those of a new box, or as they were where it is refused.
unfoldable pub after_opening : Settings → List ℕ → Result Unit Refusal → List ℕ
after_opening opening ws (Ok tt) = put (new_box opening) ws
after_opening opening ws (Err why) = ws

-- The answer of an opening, and the words after it.
unfoldable pub opened : Settings → List ℕ → Result Unit Refusal × List ℕ
opened opening ws =
    (opening_answer box_words (length ws) opening, after_opening opening ws (opening_answer box_words (length ws) opening))

-- What `open` promises of the words at entry, its answer and the words at exit: "Opening: 2, 17."
abbrev pub OpenPromise : List ℕ → ℕ → ℕ → List ℕ → Result Unit Refusal → List ℕ → Type 0
OpenPromise entry d m factors r exit = (r, exit) ≡ opened (asked d m factors) entry
