-- Document 01, "The box": its contents, and when they are sound.
use Rattle.std.specs.Prelude.{ℕ, suc, ◌+◌, ◌-◌, ◌/◌, Bool, true, ◌&&◌, length, get_or, leb, eqb}
use mathlib.Core.List.{List, [], ◌∷◌, ◌++◌, map, flatten}
use Rattle.laws.specs.Tests.{within, every}
use Rattle.meaning.specs.declared.Connection.{Connection}
use Rattle.meaning.specs.declared.Packet.{Packet}
use Rattle.meaning.specs.declared.Standing.{Standing}
use Rattle.meaning.specs.Numbers.{Settings, largest_factor, settings_allowed, connection_allowed, rising_above, most_connections}
use Rattle.meaning.specs.Numbers.{most_waiting, last_slot}
use Rattle.meaning.specs.Envelope.{allowance_kept}
use Rattle.meaning.specs.Queues.{rank}
use Rattle.meaning.specs.declared.Link.{Link}

-- "The box holds classes, connections, an allowance per connection, waiting packets, the packet on the link and the slot counter",
-- and the count of accepted packets. The queue tagged k stands at place k.
pub record Box : Type 0 where
  pub settings : Settings
  pub standing : List Standing
  pub counter : ℕ
  pub accepted : ℕ
  pub link : Link
  pub queues : List (List Packet)

-- The connections that stand, in the order of their numbers.
unfoldable pub connections : Box → List Connection
connections box = map (λ s. s.asked) box.standing

-- A connection that allows nothing, where none stands.
unfoldable pub no_connection : Connection
no_connection = record { class = 0; longest = 0; burst = 0; period = 0 }

-- What the connection of this number asked for; connections are numbered from 1.
unfoldable pub connection : Box → ℕ → Connection
connection box n = get_or (connections box) (n - 1) no_connection

-- "no such connection" is the opposite of this.
unfoldable pub stands : Box → ℕ → Bool
stands box n = within 1 n (length box.standing)

-- The packets that wait, "the one on the link not counted".
unfoldable pub waiting : Box → List Packet
waiting box = flatten box.queues

-- The packet on the link, if there is one.
unfoldable pub on_link : Link → List Packet
on_link Link.Free = []
on_link (Link.Carries p left) = p ∷ []

-- The packets in the box: those that wait and the one on the link.
unfoldable pub packets : Box → List Packet
packets box = waiting box ++ on_link box.link

-- The rank that a packet's arrival slot and class give.
unfoldable pub rank_in : Box → Packet → ℕ
rank_in box p = rank box.settings (connection box p.connection).class p.arrival

-- "contents that keep the table of numbers".
unfoldable pub numbers_kept : Box → Bool
numbers_kept box =
    settings_allowed box.settings &&
    leb (length box.standing) most_connections &&
    every (connection_allowed box.settings) (connections box) &&
    leb (length (waiting box)) most_waiting &&
    leb box.counter last_slot

-- The packets of the queues tagged `tag` and up lie where their ranks put them: rank - floor(now/D) is the tag.
unfoldable pub in_their_queues : Box → ℕ → List (List Packet) → Bool
in_their_queues box tag [] = true
in_their_queues box tag (q ∷ qs) =
    every (λ p. eqb (rank_in box p) (box.counter / box.settings.interval + tag)) q && in_their_queues box (suc tag) qs

-- "each waiting packet in the queue that its arrival slot and class give"; there are rP + 1 queues.
unfoldable pub queues_kept : Box → Bool
queues_kept box = eqb (length box.queues) (suc (largest_factor box.settings)) && in_their_queues box 0 box.queues

-- "serials .. rising within each queue".
unfoldable pub serials_rise : Box → Bool
serials_rise box = every (λ q. rising_above 0 (map (λ p. p.serial) q)) box.queues

-- Of each packet in the box: "serials at least 1 .., no serial above the count of accepted packets, .. each packet's connection
-- standing and its length 1 to that connection's s, .. no arrival after the counter".
unfoldable pub packet_kept : Box → Packet → Bool
packet_kept box p =
    within 1 p.serial box.accepted &&
    stands box p.connection &&
    within 1 p.units (connection box p.connection).longest &&
    leb p.arrival box.counter

-- "units left on the link from 1 to the length less 1".
unfoldable pub link_kept : Link → Bool
link_kept Link.Free = true
link_kept (Link.Carries p left) = within 1 left (p.units - 1)

-- "that count at most the counter plus the packets in the box".
unfoldable pub count_kept : Box → Bool
count_kept box = leb box.accepted (box.counter + length (packets box))

-- "each allowance in the range that b, T and the counter permit".
unfoldable pub allowances_kept : Box → Bool
allowances_kept box = every (λ s. allowance_kept s.asked box.counter s.allowance) box.standing

-- "A state is sound exactly when": every clause of that sentence, none more and none fewer.
unfoldable pub sound : Box → Bool
sound box =
    numbers_kept box && queues_kept box && serials_rise box && every (packet_kept box) (packets box) &&
    link_kept box.link && count_kept box && allowances_kept box
