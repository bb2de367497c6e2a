-- The test of soundness part by part, in the order in which the code asks.
use Rattle.std.specs.Prelude.{ℕ, ◌+◌, ◌-◌, ◌*◌, ◌≤◌, ◌<◌, ◌≡◌, Bool, true, ◌&&◌, cond, List, [], ◌∷◌, length, leb, ltb, eqb}
use Rattle.laws.specs.Tests.{every, every_below}
use Rattle.meaning.specs.Numbers.{largest_factor, settings_allowed, connection_allowed, most_connections, most_waiting, last_slot}
use Rattle.meaning.specs.Envelope.{allowance_kept}
use Rattle.meaning.specs.declared.Packet.{Packet}
use Rattle.meaning.specs.declared.Standing.{Standing}
use Rattle.meaning.specs.Box.{Box, packet_kept, rank_in}
use Rattle.words.specs.Places.{box_words, word, lengths_below, start_of, tag_of, classes_at, factors_at, row_count_at, rows_at, counter_at, accepted_at, left_at, link_at, lengths_at}
use Rattle.words.specs.Contents.{contents, settings_at, standings, packet_at, turns_at, queue_at}
use Rattle.words.specs.Sound.{zeros, Tables}

-- The settings are allowed, and the factors that are not used are 0.
unfoldable pub settings_tested : List ℕ → Bool
settings_tested ws = leb (word ws classes_at) 8 && settings_allowed (settings_at ws) &&
    zeros ws (factors_at + word ws classes_at) (row_count_at - (factors_at + word ws classes_at))

-- A connection's row is allowed, and its allowance is in range.
unfoldable pub row_kept : List ℕ → Standing → Bool
row_kept ws s = connection_allowed (settings_at ws) s.asked && allowance_kept s.asked (word ws counter_at) s.allowance

-- At most 32 connections stand, each row is kept, and the rows that are not used are 0.
unfoldable pub rows_tested : List ℕ → Bool
rows_tested ws =
    leb (word ws row_count_at) most_connections && every (row_kept ws) (standings ws) &&
    zeros ws (rows_at + 6 * word ws row_count_at) (counter_at - (rows_at + 6 * word ws row_count_at))

-- The link is free and its words are 0, or its packet is kept and has more units than are left.
unfoldable pub link_tested : List ℕ → Bool
link_tested ws =
    cond (eqb (word ws left_at) 0) (zeros ws link_at (lengths_at - link_at))
    (packet_kept (contents ws) (packet_at ws link_at) && ltb (word ws left_at) (word ws (link_at + 2)))

-- The counter, the waiting packets and the count of accepted ones are in range.
unfoldable pub counts_tested : List ℕ → Bool
counts_tested ws =
    leb (word ws counter_at) last_slot &&
    leb (lengths_below ws 64) most_waiting &&
    leb (word ws accepted_at) (word ws counter_at + (lengths_below ws 64 + cond (eqb (word ws left_at) 0) 0 1))

-- A packet's serial is above the one before it, the packet is kept, and it has this rank.
unfoldable pub packet_fits : Box → ℕ → ℕ → Packet → Bool
packet_fits box rank before p = ltb before p.serial && packet_kept box p && eqb (rank_in box p) rank

-- The packets of a queue of this rank fit, one after another.
unfoldable pub packets_fit : Box → ℕ → ℕ → List Packet → Bool
packets_fit box rank before [] = true
packets_fit box rank before (p ∷ ps) = packet_fits box rank before p && packets_fit box rank p.serial ps

-- The queue with this tag fits; where that is no tag it is empty.
unfoldable pub queue_fits : List ℕ → ℕ → List Packet → Bool
queue_fits ws tag q =
    cond (leb tag (largest_factor (settings_at ws))) (packets_fit (contents ws) (turns_at ws + tag) 0 q) (eqb (length q) 0)

-- The queues at all places fit.
unfoldable pub queues_tested : List ℕ → Bool
queues_tested ws = every_below (λ p. queue_fits ws (tag_of (turns_at ws) p) (queue_at ws p)) 64

-- All parts of the test.
unfoldable pub tested : List ℕ → Bool
tested ws =
    leb box_words (length ws) && settings_tested ws && rows_tested ws && counts_tested ws && link_tested ws && queues_tested ws

-- The queue at this place starts at word `at` and lies within the words.
abbrev pub QueueLies : List ℕ → ℕ → ℕ → Type 0
QueueLies ws place at =
    Tables ws × (place < 64) × (at ≡ start_of ws place) × (at + 4 * word ws (lengths_at + place) ≤ length ws)
