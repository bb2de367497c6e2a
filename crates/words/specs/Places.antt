-- Where each thing lies in the words of a box: see docs/LAYOUT.md.
use Rattle.std.specs.Prelude.{ℕ, zero, suc, ◌+◌, ◌-◌, ◌*◌, ◌%◌, List, get_or}

-- The places, each by the one before it: D, M, P, the factors, the number of rows, the rows, counter, count of accepted packets, units
-- left,
-- the packet on the link, the lengths of the queues, the packets, and the number of words that a box takes.
abbrev pub interval_at : ℕ
interval_at = 0

-- The word of the cycle M.
abbrev pub cycle_at : ℕ
cycle_at = interval_at + 1

-- The word of the number of classes P.
abbrev pub classes_at : ℕ
classes_at = cycle_at + 1

-- The first word of the factors, of which there are places for 8.
abbrev pub factors_at : ℕ
factors_at = classes_at + 1

-- The word of the number of connections.
abbrev pub row_count_at : ℕ
row_count_at = factors_at + 8

-- The first word of the connections' rows, 32 of 6 words.
abbrev pub rows_at : ℕ
rows_at = row_count_at + 1

-- The word of the slot counter.
abbrev pub counter_at : ℕ
counter_at = rows_at + 192

-- The word of the count of accepted packets.
abbrev pub accepted_at : ℕ
accepted_at = counter_at + 1

-- The word of the units left on the link.
abbrev pub left_at : ℕ
left_at = accepted_at + 1

-- The first word of the packet on the link.
abbrev pub link_at : ℕ
link_at = left_at + 1

-- The first word of the lengths of the 64 queues, by place.
abbrev pub lengths_at : ℕ
lengths_at = link_at + 4

-- The first word of the waiting packets.
abbrev pub packets_at : ℕ
packets_at = lengths_at + 64

-- The number of words that a box takes.
abbrev pub box_words : ℕ
box_words = packets_at + 4096

-- The word at a place.
abbrev pub word : List ℕ → ℕ → ℕ
word ws i = get_or ws i 0

-- The waiting packets of the queues at the places below p.
unfoldable pub lengths_below : List ℕ → ℕ → ℕ
lengths_below ws zero = 0
lengths_below ws (suc p) = lengths_below ws p + word ws (lengths_at + p)

-- The word at which the queue at place p starts.
unfoldable pub start_of : List ℕ → ℕ → ℕ
start_of ws p = packets_at + 4 * lengths_below ws p

-- The place of the queue tagged k, where floor(now/D) is `turns`.
unfoldable pub place_of : ℕ → ℕ → ℕ
place_of turns k = (turns + k) % 64

-- The tag of the queue at place p; a number above rP is no tag.
unfoldable pub tag_of : ℕ → ℕ → ℕ
tag_of turns p = (p + (64 - turns % 64)) % 64
