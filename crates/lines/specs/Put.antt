-- Bytes put into a buffer, and the room that they need.
use Rattle.std.specs.Prelude.{ℕ, suc, ◌+◌, ◌≤◌, ◌≡◌, cond, List, [], ◌∷◌, ◌++◌, ltb, length, take, drop}
use Rattle.meaning.specs.Lines.{decimal}

-- The buffer with these bytes from `at` on: none before them and none beyond them changed.
unfoldable pub put_at : List ℕ → ℕ → List ℕ → List ℕ
put_at out at s = take at out ++ s ++ drop (at + length s) out

-- The bytes fit from `at` on.
abbrev pub Room : List ℕ → ℕ → List ℕ → Type 0
Room out at s = at + length s ≤ length out

-- A buffer before and after these bytes are put at `at`, and the place after them.
pub record Put (before after : List ℕ) (at : ℕ) (s : List ℕ) (next : ℕ) : Type 0 where
  pub bytes : after ≡ put_at before at s
  pub place : next ≡ at + length s

-- A number and the byte after it.
abbrev pub field : ℕ → ℕ → List ℕ
field n after = decimal n ++ (after ∷ [])

-- The byte after the number at place i of so many: a space, or the newline that ends a line.
unfoldable pub byte_after : ℕ → ℕ → ℕ
byte_after i count = cond (ltb (suc i) count) 32 10

-- Numbers, each with the byte after it.
unfoldable pub fields : List ℕ → List ℕ
fields [] = []
fields (n ∷ []) = field n 10
fields (n ∷ m ∷ ns) = field n 32 ++ fields (m ∷ ns)

-- A fixed word with its space, and a list of numbers.
abbrev pub line : List ℕ → List ℕ → List ℕ
line word numbers = word ++ fields numbers
