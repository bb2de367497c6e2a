-- The number that writing answers, and the first test that refuses.
use Rattle.std.specs.Prelude.{ℕ, Bool, cond}
use Rattle.meaning.specs.Answers.{plan_written}
use Rattle.meaning.specs.Plan.{Lent, writing_answer}

-- The number of the first test of writing that refuses, 0 where none does.
abbrev pub writing_of : Bool → Bool → Bool → ℕ
writing_of a b c = cond a 15 (cond b 16 (cond c 17 0))

-- The number that writing answers.
unfoldable pub writing_number : Lent → ℕ → ℕ
writing_number l room = (plan_written (writing_answer l room)).number
