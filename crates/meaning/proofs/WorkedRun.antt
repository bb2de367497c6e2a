-- Document 01, "The program and one whole run": the worked run, from the words of the input to the twelve lines, computed from the
-- definitions.
use Prim.Native.Nat.{ℕ}
use mathlib.Core.Path.{◌≡◌, refl}
use mathlib.Core.List.{List, [], ◌∷◌, ◌++◌, map, flatten}
use Rattle.meaning.specs.Plan.{bytes_of_word}
use Rattle.meaning.specs.Lines.{ascii, run_text}
use Rattle.meaning.proofs.Computed.{definitions}

-- "Words of the input".
pub input_words : List ℕ
input_words =
    140 ∷ 4 ∷ 8 ∷ 2 ∷ 40 ∷ 2 ∷ 48 ∷ 5 ∷ 80 ∷ 4294966912 ∷
    1 ∷ 2 ∷
    1 ∷ 1 ∷ 1 ∷ 4 ∷
    2 ∷ 3 ∷ 1 ∷ 8 ∷
    0 ∷ 2 ∷ 3 ∷
    1 ∷ 1 ∷ 1 ∷
    2 ∷ 1 ∷ 1 ∷
    5 ∷ 1 ∷ 1 ∷
    8 ∷ 2 ∷ 2 ∷
    []

-- "Output".
pub output : List ℕ
unfolding ascii
output =
    ascii "ADMIT 1 0 0\n" ++
    ascii "ADMIT 2 0 0\n" ++
    ascii "OFFER 1 0 1\n" ++
    ascii "OFFER 2 0 2\n" ++
    ascii "OFFER 3 9 0\n" ++
    ascii "DEPART 1 2 0 3\n" ++
    ascii "DEPART 2 1 1 4\n" ++
    ascii "OFFER 4 0 3\n" ++
    ascii "DEPART 3 1 5 6\n" ++
    ascii "OFFER 5 0 4\n" ++
    ascii "DEPART 4 2 8 10\n" ++
    ascii "END 10 4 4\n"

-- The definitions print these lines for these words.
pub worked_run : run_text (flatten (map bytes_of_word input_words)) ≡ output
unfolding input_words output definitions
worked_run = refl
