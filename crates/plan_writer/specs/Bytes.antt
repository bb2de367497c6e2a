-- Words as bytes, and bytes put into a buffer.
use Rattle.std.specs.Prelude.{ℕ, ◌+◌, List, ◌++◌, map, length, take, drop}
use mathlib.Core.List.{flatten}
use Rattle.meaning.specs.Plan.{bytes_of_word}

-- The bytes of words, one word after another.
unfoldable pub bytes_of_words : List ℕ → List ℕ
bytes_of_words ws = flatten (map bytes_of_word ws)

-- A buffer with other bytes put over its own from `at` on; all others are as they were.
unfoldable pub pasted : List ℕ → ℕ → List ℕ → List ℕ
pasted buf at bytes = take at buf ++ (bytes ++ drop (at + length bytes) buf)
