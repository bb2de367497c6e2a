-- What the writers of the tables do to sound words, said of their contents.
use Rattle.std.specs.Prelude.{ℕ, suc, ◌+◌, ◌-◌, ◌≤◌, ◌<◌, ◌≡◌, true, false, cond, List, [], ◌∷◌, ◌++◌, length, set}
use Rattle.meaning.specs.Queues.{tag_zero_waits, turn_at, turned}
use Rattle.meaning.specs.declared.Allowance.{Allowance}
use Rattle.meaning.specs.declared.Standing.{Standing}
use Rattle.meaning.specs.Box.{Box, connection}
use Rattle.meaning.specs.Calls.{allowance, with_standing}
use Rattle.words.specs.Places.{word, interval_at, counter_at}
use Rattle.words.specs.Contents.{contents, standing_at}
use Rattle.words.specs.Sound.{Fitting}
use Rattle.meaning.specs.declared.Link.{Link}

-- The box with this link.
unfoldable pub with_link : Box → Link → Box
with_link box l =
    record {
      settings = box.settings;
      standing = box.standing;
      counter = box.counter;
      accepted = box.accepted;
      link = l;
      queues = box.queues;
    }

-- A link that can be written: where it carries a packet, units of it are left.
abbrev pub Sendable : Link → Type 0
Sendable Link.Free = Unit {0}
Sendable (Link.Carries p left) = 1 ≤ left

-- The box with this count of accepted packets.
unfoldable pub with_accepted : Box → ℕ → Box
with_accepted box n =
    record {
      settings = box.settings;
      standing = box.standing;
      counter = box.counter;
      accepted = n;
      link = box.link;
      queues = box.queues;
    }

-- The box with this counter.
unfoldable pub with_counter : Box → ℕ → Box
with_counter box n =
    record {
      settings = box.settings;
      standing = box.standing;
      counter = n;
      accepted = box.accepted;
      link = box.link;
      queues = box.queues;
    }

-- The box a slot later: the counter is raised, and the queues are turned if due.
unfoldable pub raised : Box → Box
raised box =
    record {
      settings = box.settings;
      standing = box.standing;
      counter = suc box.counter;
      accepted = box.accepted;
      link = box.link;
      queues = cond (turn_at box.settings.interval (suc box.counter)) (turned box.queues) box.queues;
    }

-- A row stands at word `at`, and the other words are as they were.
pub record RowPut (ws after : List ℕ) (at : ℕ) (s : Standing) : Type 0 where
  pub same_length : length after ≡ length ws
  pub row : standing_at after at ≡ s
  pub below : (i : ℕ) → i < at → word after i ≡ word ws i
  pub above : (i : ℕ) → at + 6 ≤ i → word after i ≡ word ws i

-- The box with one more packet counted as accepted.
abbrev pub counted_more : Box → Box
counted_more box = with_accepted box (suc box.accepted)

-- The box with this allowance of the connection with this number.
abbrev pub with_allowance : ℕ → Allowance → Box → Box
with_allowance n a box = with_standing box (set box.standing (n - 1) (record { asked = connection box n; allowance = a }))

-- The box with one connection more.
abbrev pub with_row : Standing → Box → Box
with_row row box = with_standing box (box.standing ++ (row ∷ []))

-- What raising the counter asks: it does not wrap, and where the queues turn tag 0 has no packet.
abbrev pub Raisable : List ℕ → Type 0
Raisable ws =
    Fitting ws ×
    (word ws counter_at < 4294967295) ×
    (turn_at (word ws interval_at) (suc (word ws counter_at)) ≡ true → tag_zero_waits (contents ws).queues ≡ false)

-- The row of the connection with this number.
abbrev pub RowOf : List ℕ → ℕ → Standing → Type 0
RowOf ws n row = (connection (contents ws) n ≡ row.asked) × (allowance (contents ws) n ≡ row.allowance)
