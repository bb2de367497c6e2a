-- The parts of a plan: tables as bytes of the plan, and the arrivals of a slot as a stretch of the arrival table.
use Rattle.std.specs.Prelude.{ℕ, suc, ◌+◌, ◌-◌, ◌*◌, ◌/◌, cond, List, [], ◌∷◌, length, take, drop, nat_le, nat_lt, slice_index}
use Rattle.meaning.specs.declared.Table.{Table}
use Rattle.meaning.specs.declared.Arrival.{Arrival}
use Rattle.meaning.specs.Plan

-- The table that two words of a header tell, the count and then the offset.
unfoldable pub table_of : List ℕ → ℕ → Table
table_of ws i = record { count = slice_index ws i; start = slice_index ws (i + 1) }

-- The bytes of a table's entries, of so many bytes each; none where they do not lie in the plan.
unfoldable pub part_of : List ℕ → Table → ℕ → List ℕ
part_of bytes t width =
    cond (nat_le (t.start + width * t.count) (length bytes)) (take (width * t.count) (drop t.start bytes)) []

-- The arrivals of a table of bytes: twelve bytes each.
unfoldable pub arrivals_in : List ℕ → List Arrival
arrivals_in bytes = Plan.table Plan.arrival_at 3 (Plan.words_of bytes) 0 (length bytes / 12)

-- The arrivals of a table of words: three words each.
unfoldable pub arrivals_of_words : List ℕ → List Arrival
arrivals_of_words ws = Plan.table Plan.arrival_at 3 ws 0 (length ws / 3)

-- How many arrivals at the head of a list have slots below a limit.
unfoldable pub leading : ℕ → List Arrival → ℕ
leading limit [] = 0
leading limit (a ∷ l) = cond (nat_lt a.slot limit) (suc (leading limit l)) 0

-- The first arrival, from the one numbered `from` on, whose slot is the limit or more.
unfoldable pub boundary : List Arrival → ℕ → ℕ → ℕ
boundary l from limit = from + leading limit (drop from l)

-- Where the stretch of a slot starts, in entries.
unfoldable pub stretch_start : List ℕ → ℕ → ℕ → ℕ
stretch_start bytes from slot = boundary (arrivals_in bytes) from slot

-- Where the stretch of a slot ends, in entries.
unfoldable pub stretch_end : List ℕ → ℕ → ℕ → ℕ
stretch_end bytes from slot = boundary (arrivals_in bytes) (stretch_start bytes from slot) (slot + 1)

-- The stretch of a slot: from the first entry, at `from` or after it, that is not before the slot, up to the next one that is after it.
unfoldable pub stretch_of : List ℕ → ℕ → ℕ → List ℕ
stretch_of bytes from slot =
    take (12 * (stretch_end bytes from slot - stretch_start bytes from slot)) (drop (12 * stretch_start bytes from slot) bytes)

-- Some arrival, for lists that are read past their end.
abbrev pub no_arrival : Arrival
no_arrival = record { slot = 0; place = 0; units = 0 }
