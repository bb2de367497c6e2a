-- How an answer is handed to C: its number is the result, and its other result fields are written into words that the caller lends.
use Rattle.std.specs.Prelude.{ℕ, ◌≡◌, List}
use Rattle.meaning.specs.Answers.{Answer}

-- This result and these fields tell this answer.
abbrev pub Told : Answer → ℕ → List ℕ → Type 0
Told answer number fields = (number ≡ answer.number) × (fields ≡ answer.fields)
