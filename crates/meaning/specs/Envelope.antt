-- Document 01, "Envelope": what a connection may send, when an offer fits, and the allowance that is kept of it.
use Rattle.std.specs.Prelude.{ℕ, suc, ◌+◌, ◌*◌, ◌-◌, ◌/◌, ◌≤◌, ◌≡◌, Bool, cond, ◌&&◌, ◌||◌, List, ◌∷◌, leb, ltb, eqb}
use Rattle.laws.specs.Tests.{within, every_below}
use Rattle.laws.specs.Sums.{sum_of}
use Rattle.meaning.specs.declared.Connection.{Connection}
use Rattle.meaning.specs.declared.Allowance.{Allowance}

-- "Over a closed stretch from slot x to slot x+t a connection may have b + floor(t/T) accepted packets, whatever their lengths."
unfoldable pub may_have : Connection → ℕ → ℕ
may_have c t = c.burst + t / c.period

-- "E(t) = s x (b + floor(t/T)) for t at least 0": equation (31) of source document 004.
unfoldable pub envelope : Connection → ℕ → ℕ
envelope c t = c.longest * may_have c t

-- E(t - d), "and E(t) = 0 below 0": nothing where d is above t.
unfoldable pub delayed : (ℕ → ℕ) → ℕ → ℕ → ℕ
delayed E d t = cond (leb d t) (E (t - d)) 0

-- What the promises use of an envelope E of packets up to s, and no more, so that another kind of sender can come: it never falls,
-- is at least s at 0, and repeats with M, by the same gain each time. (It is 0 below 0 by `delayed`.)
pub record IsEnvelope (E : ℕ → ℕ) (s M gain : ℕ) : Type 0 where
  pub never_falls : (t u : ℕ) → t ≤ u → E t ≤ E u
  pub at_start : s ≤ E 0
  pub repeats : (t : ℕ) → E (t + M) ≡ E t + gain

-- How many packets of those accepted at these slots lie in the closed stretch from slot x to slot y.
unfoldable pub count_in : List ℕ → ℕ → ℕ → ℕ
count_in slots x y = sum_of (λ a. cond (within x a y) 1 0) slots

-- "An offer at slot now fits exactly when, with it counted, no stretch that ends at now and starts at an earlier or the same slot
-- has more than it may. Only accepted packets count." `may t` is what a stretch from x to x+t may have.
unfoldable pub fits : (ℕ → ℕ) → List ℕ → ℕ → Bool
fits may slots at = every_below (λ x. leb (count_in (at ∷ slots) x at) (may (at - x))) (suc at)

-- The allowance with all b credits; it is kept in this one form.
unfoldable pub full : Connection → Allowance
full c = record { next = 0; credit = c.burst }

-- The credits that have come back by slot `at`: one at the slot `next`, and one more after each T.
unfoldable pub came_back : Connection → Allowance → ℕ → ℕ
came_back c a at = cond (leb a.next at) (suc ((at - a.next) / c.period)) 0

-- The allowance with those credits put in.
unfoldable pub refilled : Connection → Allowance → ℕ → Allowance
refilled c a at =
    cond (leb c.burst (a.credit + came_back c a at)) (full c)
    (record { next = a.next + came_back c a at * c.period; credit = a.credit + came_back c a at })

-- A packet conforms where a credit is left.
unfoldable pub conforms : Connection → Allowance → ℕ → Bool
conforms c a at = leb 1 (refilled c a at).credit

-- "charged once by an accepted packet": one credit less, and from a full allowance the next one comes back after T.
unfoldable pub charged : Connection → Allowance → ℕ → Allowance
charged c a at =
    cond (eqb (refilled c a at).credit c.burst) (record { next = at + c.period; credit = c.burst - 1 })
    (record { next = (refilled c a at).next; credit = (refilled c a at).credit - 1 })

-- "each allowance in the range that b, T and the counter permit": full, or fewer credits with the next one back after at most T.
unfoldable pub allowance_kept : Connection → ℕ → Allowance → Bool
allowance_kept c counter a =
    eqb a.credit c.burst && eqb a.next 0 ||
    ltb a.credit c.burst && within 1 a.next (counter + c.period)
