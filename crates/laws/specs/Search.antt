-- The first number at which a test fails, looked for in a finite range.
use Rattle.std.specs.Prelude.{ℕ, zero, suc, Bool, true, false}

-- What a search finds: the first number that fails, or that none does.
pub data Search : Type 0 where
  fails_at : ℕ → Search
  holds : Search

-- n numbers are looked at from t on; the Bool is the test at t.
unfoldable pub search_from : (ℕ → Bool) → ℕ → ℕ → Bool → Search
search_from test zero t b = holds
search_from test (suc n) t false = fails_at t
search_from test (suc n) t true = search_from test n (suc t) (test (suc t))

-- The first of the numbers 0 to n - 1 at which the test fails.
unfoldable pub first_failing : (ℕ → Bool) → ℕ → Search
first_failing test n = search_from test n 0 (test 0)
