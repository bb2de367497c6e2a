-- What a change of words leaves, said of their contents.
use Rattle.std.specs.Prelude.{ℕ, ◌+◌, ◌*◌, ◌≤◌, ◌<◌, ◌≡◌, List, length}
use Rattle.meaning.specs.declared.Packet.{Packet}
use Rattle.meaning.specs.Box.{Box}
use Rattle.words.specs.Places.{word, lengths_below, packets_at}
use Rattle.words.specs.Contents.{contents, packet_at}
use Rattle.words.specs.Sound.{Fitting}

-- Words that become the words of this box: what lies past its last packet stays. `become_put` makes of it that they are `put box ws`.
pub record Become (ws after : List ℕ) (box : Box) : Type 0 where
  pub fitting : Fitting after
  pub stands_for : contents after ≡ box
  pub same_length : length after ≡ length ws
  pub beyond : (i : ℕ) → packets_at + 4 * lengths_below after 64 ≤ i → word after i ≡ word ws i

-- The words become those of the box that a change makes of their contents.
abbrev pub Makes : (Box → Box) → List ℕ → List ℕ → Type 0
Makes change entry exit = Become entry exit (change (contents entry))

-- A packet stands at word `at`, and the other words are as they were.
pub record PacketPut (ws after : List ℕ) (at : ℕ) (p : Packet) : Type 0 where
  pub same_length : length after ≡ length ws
  pub packet : packet_at after at ≡ p
  pub below : (i : ℕ) → i < at → word after i ≡ word ws i
  pub above : (i : ℕ) → at + 4 ≤ i → word after i ≡ word ws i
