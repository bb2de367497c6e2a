-- Document 01, "The program and one whole run": the text of the lines, byte for byte.
use Rattle.std.specs.Prelude.{ℕ, zero, suc, ◌+◌, ◌/◌, ◌%◌, Bool, true, false, ltb}
use Prim.Native.Char.{code}
use Prim.Native.String as Str
use Prim.Native.String.{String}
use mathlib.Core.List.{List, [], ◌∷◌, ◌++◌, map, flatten}
use Rattle.meaning.specs.Run.{run}
use Rattle.meaning.specs.declared.Line.{Line}

-- The bytes of a fixed word.
unfoldable pub ascii : String → List ℕ
ascii Str.[] = []
ascii (Str.◌∷◌ c s) = code c ∷ ascii s

-- The digit of a number below ten.
unfoldable pub digit : ℕ → ℕ
digit n = 48 + n

-- The digits of n, by recursion on the number divided by ten; the first number bounds the divisions, and the Bool says that n is below ten.
unfoldable pub digits_by : ℕ → Bool → ℕ → List ℕ
digits_by zero small n = digit n ∷ []
digits_by (suc k) true n = digit n ∷ []
digits_by (suc k) false n = digits_by k (ltb (n / 10) 10) (n / 10) ++ (digit (n % 10) ∷ [])

-- "numbers are printed most significant digit first with no leading zeros".
unfoldable pub decimal : ℕ → List ℕ
decimal n = digits_by n (ltb n 10) n

-- Numbers one after another, a space before each but the first.
unfoldable pub numbers_text : List ℕ → List ℕ
numbers_text [] = []
numbers_text (n ∷ []) = decimal n
numbers_text (n ∷ m ∷ ns) = decimal n ++ ascii " " ++ numbers_text (m ∷ ns)

-- "Lines start with a fixed word and a space"; each ends in one newline.
unfoldable pub line_of : String → List ℕ → List ℕ
line_of word ns = ascii word ++ ascii " " ++ numbers_text ns ++ ascii "\n"

-- The text of a line.
unfoldable pub line_text : Line → List ℕ
line_text (Line.Admit place answer t) = line_of "ADMIT" (place ∷ answer ∷ t ∷ [])
line_text (Line.Offer place answer serial) = line_of "OFFER" (place ∷ answer ∷ serial ∷ [])
line_text (Line.Depart serial place arrival departure) = line_of "DEPART" (serial ∷ place ∷ arrival ∷ departure ∷ [])
line_text (Line.End counter accepted departed) = line_of "END" (counter ∷ accepted ∷ departed ∷ [])
line_text (Line.Refused answer) = line_of "REFUSED" (answer ∷ [])
line_text (Line.Stop answer) = line_of "STOP" (answer ∷ [])

-- The text of lines, one after another.
unfoldable pub text_of : List Line → List ℕ
text_of ls = flatten (map line_text ls)

-- What the program prints for these bytes.
unfoldable pub run_text : List ℕ → List ℕ
run_text bytes = text_of (run bytes)

-- A buffer of this many bytes holds the text of the run of any bytes: proved in `RunFits`.
abbrev pub text_most : ℕ
text_most = 420000
