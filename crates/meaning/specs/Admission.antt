-- Document 01, "Admission": the rate, conditions (11) and (12) of source document 004, Theorem 2, and the search for the first t that
-- fails.
use Rattle.std.specs.Prelude.{ℕ, ◌+◌, ◌*◌, ◌/◌, ◌≡◌, Bool, true, cond, not, ◌&&◌, ◌||◌, List, leb, ltb, eqb}
use Rattle.laws.specs.Search.{Search, first_failing}
use Rattle.laws.specs.Sums.{sum_of, largest_of}
use Rattle.meaning.specs.declared.Connection.{Connection}
use Rattle.meaning.specs.Numbers.{Settings, bound, largest_bound}
use Rattle.meaning.specs.Envelope.{envelope, delayed}

-- What one connection adds to the sum at t: "E(t - d1) over class 1 and .. E(t + D - dq) over each class q above 1".
unfoldable pub term : Settings → ℕ → Connection → ℕ
term set t c =
    cond (eqb c.class 1) (delayed (envelope c) (bound set c.class) t)
    (delayed (envelope c) (bound set c.class) (t + set.interval))

-- The sum of (11) at t, over the set with the newcomer.
unfoldable pub sum_at : Settings → List Connection → ℕ → ℕ
sum_at set cs t = sum_of (term set t) cs

-- "the largest s among connections whose bound exceeds t + D (0 if there are none)".
unfoldable pub in_the_way : Settings → List Connection → ℕ → ℕ
in_the_way set cs t = largest_of (λ c. cond (ltb (t + set.interval) (bound set c.class)) c.longest 0) cs

-- "(11) t is at least the sum".
unfoldable pub eleven : Settings → List Connection → ℕ → Bool
eleven set cs t = leb (sum_at set cs t) t

-- The t that (12) speaks of: "d1 <= t < dP - D".
unfoldable pub twelve_range : Settings → ℕ → Bool
twelve_range set t = leb (bound set 1) t && ltb (t + set.interval) (largest_bound set)

-- "(12) for d1 <= t < dP - D, t is at least that same sum plus the largest s".
unfoldable pub twelve : Settings → List Connection → ℕ → Bool
twelve set cs t = not (twelve_range set t) || leb (sum_at set cs t + in_the_way set cs t) t

-- Both conditions at one t.
unfoldable pub condition_at : Settings → List Connection → ℕ → Bool
condition_at set cs t = eleven set cs t && twelve set cs t

-- "at each t from 0 without end".
abbrev pub HoldsWithoutEnd : Settings → List Connection → Type 0
HoldsWithoutEnd set cs = (t : ℕ) → condition_at set cs t ≡ true

-- "First the rate: the sum of s x (M/T)".
unfoldable pub rate : Settings → List Connection → ℕ
rate set cs = sum_of (λ c. c.longest * (set.cycle / c.period)) cs

-- "must not exceed M".
unfoldable pub rate_holds : Settings → List Connection → Bool
rate_holds set cs = leb (rate set cs) set.cycle

-- "t = 0 to dP + M - 1 .. The search stops at the first t that fails and answers that t."
unfoldable pub finite_search : Settings → List Connection → Search
finite_search set cs = first_failing (condition_at set cs) (largest_bound set + set.cycle)
