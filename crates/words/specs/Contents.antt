-- What words stand for, and how contents are put into words.
use Rattle.std.specs.Prelude.{ℕ, zero, suc, ◌+◌, ◌-◌, ◌*◌, ◌/◌, length, get_or, drop, replicate}
use mathlib.Core.List.{List, [], ◌∷◌, ◌++◌, map, flatten}
use Rattle.laws.specs.Series.{series}
use Rattle.meaning.specs.Numbers.{Settings, largest_factor}
use Rattle.meaning.specs.declared.Connection.{Connection}
use Rattle.meaning.specs.declared.Packet.{Packet}
use Rattle.meaning.specs.declared.Standing.{Standing}
use Rattle.meaning.specs.Box.{Box}
use Rattle.words.specs.Places.{word, start_of, place_of, tag_of, interval_at, cycle_at, classes_at, factors_at, row_count_at, rows_at, counter_at, accepted_at, left_at, link_at, lengths_at, packets_at}
use Rattle.meaning.specs.declared.Link.{Link}

-- The settings: D, M and as many factors as word 2 says.
unfoldable pub settings_at : List ℕ → Settings
settings_at ws = record {
  interval = word ws interval_at;
  cycle = word ws cycle_at;
  factors = series (λ i. word ws i) 1 factors_at (word ws classes_at);
}

-- The connection's row that starts at this word.
unfoldable pub standing_at : List ℕ → ℕ → Standing
standing_at ws at =
    record {
      asked = record { class = word ws at; longest = word ws (at + 1); burst = word ws (at + 2); period = word ws (at + 3) };
      allowance = record { next = word ws (at + 4); credit = word ws (at + 5) };
    }

-- The rows of the connections that stand.
unfoldable pub standings : List ℕ → List Standing
standings ws = series (standing_at ws) 6 rows_at (word ws row_count_at)

-- What the connection in row i, counted from 0, asked for.
abbrev pub asked_at : List ℕ → ℕ → Connection
asked_at ws i = (standing_at ws (rows_at + 6 * i)).asked

-- The packet that starts at this word.
unfoldable pub packet_at : List ℕ → ℕ → Packet
packet_at ws at =
    record { serial = word ws at; connection = word ws (at + 1); units = word ws (at + 2); arrival = word ws (at + 3) }

-- The packet whose words are all 0, where the link is free.
abbrev pub no_packet : Packet
no_packet = record { serial = 0; connection = 0; units = 0; arrival = 0 }

-- The link with so many units left of this packet; 0 left is a free link.
unfoldable pub link_of : ℕ → Packet → Link
link_of zero p = Link.Free
link_of (suc n) p = Link.Carries p (suc n)

-- How often the queues have turned, which is floor(now/D), read from the words.
unfoldable pub turns_at : List ℕ → ℕ
turns_at ws = word ws counter_at / word ws interval_at

-- The queue at place p, its head first.
unfoldable pub queue_at : List ℕ → ℕ → List Packet
queue_at ws p = series (packet_at ws) 4 (start_of ws p) (word ws (lengths_at + p))

-- The queues by their tags, 0 to rP.
unfoldable pub queues_at : List ℕ → List (List Packet)
queues_at ws = series (λ k. queue_at ws (place_of (turns_at ws) k)) 1 0 (suc (largest_factor (settings_at ws)))

-- The contents that words stand for.
unfoldable pub contents : List ℕ → Box
contents ws =
    record {
      settings = settings_at ws;
      standing = standings ws;
      counter = word ws counter_at;
      accepted = word ws accepted_at;
      link = link_of (word ws left_at) (packet_at ws link_at);
      queues = queues_at ws;
    }

-- A list of words with zeros after it, n words in all.
unfoldable pub padded : ℕ → List ℕ → List ℕ
padded n l = l ++ replicate (n - length l) 0

-- The words of a connection's row.
unfoldable pub standing_words : Standing → List ℕ
standing_words s =
    s.asked.class ∷
    s.asked.longest ∷
    s.asked.burst ∷
    s.asked.period ∷
    s.allowance.next ∷
    s.allowance.credit ∷
    []

-- The words of a packet.
unfoldable pub packet_words : Packet → List ℕ
packet_words p = p.serial ∷ p.connection ∷ p.units ∷ p.arrival ∷ []

-- The words of the link: units left, then the packet; all 0 where it is free.
unfoldable pub link_words : Link → List ℕ
link_words Link.Free = 0 ∷ 0 ∷ 0 ∷ 0 ∷ 0 ∷ []
link_words (Link.Carries p left) = left ∷ packet_words p

-- How often the queues have turned, which is floor(now/D), of contents.
unfoldable pub turns_of : Box → ℕ
turns_of box = box.counter / box.settings.interval

-- The queues by their 64 places; a place of no tag has an empty queue.
unfoldable pub by_place : Box → List (List Packet)
by_place box = series (λ p. get_or box.queues (tag_of (turns_of box) p) []) 1 0 64

-- A table: how many words it takes, and the words in it; zeros fill it up.
pub record Table : Type 0 where
  pub size : ℕ
  pub entries : List ℕ

-- Tables laid one after another.
unfoldable pub laid : List Table → List ℕ
laid [] = []
laid (t ∷ ts) = padded t.size t.entries ++ laid ts

-- The tables of a box, in their order; each ends at the place of the next.
unfoldable pub tables : Box → List Table
tables box =
    record {
      size = factors_at - interval_at;
      entries =
          box.settings.interval ∷ box.settings.cycle ∷ length box.settings.factors ∷ [];
    } ∷
    record { size = row_count_at - factors_at; entries = box.settings.factors } ∷
    record { size = rows_at - row_count_at; entries = length box.standing ∷ [] } ∷
    record { size = counter_at - rows_at; entries = flatten (map standing_words box.standing) } ∷
    record { size = left_at - counter_at; entries = box.counter ∷ box.accepted ∷ [] } ∷
    record { size = lengths_at - left_at; entries = link_words box.link } ∷
    record { size = packets_at - lengths_at; entries = map length (by_place box) } ∷
    []

-- The words of contents: the tables, then the waiting packets queue after queue.
unfoldable pub image : Box → List ℕ
image box = laid (tables box) ++ flatten (map packet_words (flatten (by_place box)))

-- Contents put into words: the words past the last packet stay.
unfoldable pub put : Box → List ℕ → List ℕ
put box ws = image box ++ drop (length (image box)) ws
