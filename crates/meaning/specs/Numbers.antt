-- Document 01, "Numbers allowed": every row of the table, and the bound of a class.
use Rattle.std.specs.Prelude.{ℕ, ◌*◌, ◌-◌, ◌%◌, Bool, true, ◌&&◌, List, [], ◌∷◌, length, get_or, leb, ltb, eqb}
use Rattle.laws.specs.Tests.{within}
use Rattle.meaning.specs.declared.Connection.{Connection}

-- What a box is opened with: the rotation interval D, the cycle M and the factors r1 to rP of its classes.
pub record Settings : Type 0 where
  pub interval : ℕ
  pub cycle : ℕ
  pub factors : List ℕ

-- P, the number of classes.
unfoldable pub class_count : Settings → ℕ
class_count set = length set.factors

-- The factor rp of class p; classes are numbered from 1.
unfoldable pub factor : Settings → ℕ → ℕ
factor set p = get_or set.factors (p - 1) 0

-- The factor rP of the last class.
unfoldable pub largest_factor : Settings → ℕ
largest_factor set = factor set (class_count set)

-- "Class p has the delay bound dp = rp x D."
unfoldable pub bound : Settings → ℕ → ℕ
bound set p = factor set p * set.interval

-- The largest bound dP, which is rP x D.
unfoldable pub largest_bound : Settings → ℕ
largest_bound set = bound set (class_count set)

-- Each number is above the one before it, and the first is above `low`.
unfoldable pub rising_above : ℕ → List ℕ → Bool
rising_above low [] = true
rising_above low (n ∷ ns) = ltb low n && rising_above n ns

-- "rotation interval D (slots): 1 to 256".
unfoldable pub interval_allowed : Settings → Bool
interval_allowed set = within 1 set.interval 256

-- "cycle M (slots): 1 to 4,096".
unfoldable pub cycle_allowed : Settings → Bool
cycle_allowed set = within 1 set.cycle 4096

-- "classes P: 1 to 8, with factors r1 < r2 < .. < rP, r1 at least 1, rP at most 63".
unfoldable pub classes_allowed : Settings → Bool
classes_allowed set = within 1 (class_count set) 8 && rising_above 0 set.factors && leb (largest_factor set) 63

-- "largest bound rP x D: at most 1,024".
unfoldable pub largest_bound_allowed : Settings → Bool
largest_bound_allowed set = leb (largest_bound set) 1024

-- The rows of a box: refusal 2 is given exactly when one of them is broken.
unfoldable pub settings_allowed : Settings → Bool
settings_allowed set = interval_allowed set && cycle_allowed set && classes_allowed set && largest_bound_allowed set

-- A class number is one of 1 to P (answer 3: "class number .. is off range").
unfoldable pub class_allowed : Settings → Connection → Bool
class_allowed set c = within 1 c.class (class_count set)

-- "longest packet s: 1 to 64".
unfoldable pub longest_allowed : Connection → Bool
longest_allowed c = within 1 c.longest 64

-- "burst b: 1 to 64 packets".
unfoldable pub burst_allowed : Connection → Bool
burst_allowed c = within 1 c.burst 64

-- "period T: 1 to M, dividing M".
unfoldable pub period_allowed : Settings → Connection → Bool
period_allowed set c = within 1 c.period set.cycle && eqb (set.cycle % c.period) 0

-- The rows of a connection: refusal 3 is given exactly when one of them is broken.
unfoldable pub connection_allowed : Settings → Connection → Bool
connection_allowed set c = class_allowed set c && longest_allowed c && burst_allowed c && period_allowed set c

-- "connections: at most 32".
abbrev pub most_connections : ℕ
most_connections = 32

-- "packets waiting (the one on the link not counted): at most 1,024".
abbrev pub most_waiting : ℕ
most_waiting = 1024

-- "slot counter: 0 to 4,000,000,000".
abbrev pub last_slot : ℕ
last_slot = 4000000000
