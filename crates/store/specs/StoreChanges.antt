-- What joining and taking do to sound words, said of their contents.
use Rattle.std.specs.Prelude.{ℕ, suc, ◌+◌, ◌≤◌, ◌<◌, ◌≡◌, true, List, [], ◌∷◌, get_or, set, drop, Option, MatchOption}
use Rattle.meaning.specs.Numbers.{largest_factor}
use Rattle.meaning.specs.Queues.{join_tail}
use Rattle.meaning.specs.declared.Packet.{Packet}
use Rattle.meaning.specs.Box.{Box}
use Rattle.meaning.specs.Step.{link_taken, queues_taken}
use Rattle.words.specs.Places.{word, place_of, left_at, lengths_at}
use Rattle.words.specs.Contents.{contents, turns_at}
use Rattle.words.specs.Sound.{Fitting, sound_words}
use Rattle.tables.specs.TableChanges.{with_link}

-- The box with these queues.
unfoldable pub with_queues : Box → List (List Packet) → Box
with_queues box qs =
    record {
      settings = box.settings;
      standing = box.standing;
      counter = box.counter;
      accepted = box.accepted;
      link = box.link;
      queues = qs;
    }

-- "if the link is free, take the head of the lowest-tagged queue that has a packet".
unfoldable pub loaded_box : Box → Box
loaded_box box = with_link (with_queues box (queues_taken box.link box.queues)) (link_taken box.link box.queues)

-- The tag of the lowest-tagged queue that has a packet, or the number of queues where none has.
unfoldable pub lowest_tag : {A : Type 0} → List (List A) → ℕ
lowest_tag [] = 0
lowest_tag ([] ∷ qs) = suc (lowest_tag qs)
lowest_tag ((p ∷ q) ∷ qs) = 0

-- The box with this packet at the tail of the queue with this tag.
abbrev pub joined_at : ℕ → Packet → Box → Box
joined_at tag p box = with_queues box (join_tail tag p box.queues)

-- The box without the head of the queue with this tag.
abbrev pub beheaded : ℕ → Box → Box
beheaded tag box = with_queues box (set box.queues tag (drop 1 (get_or box.queues tag [])))

-- The tag of the lowest-tagged queue that has a packet, and none where no queue has one.
abbrev pub LowestTag : List ℕ → Option ℕ → Type 0
LowestTag ws found =
    MatchOption found
    ((largest_factor (contents ws).settings < lowest_tag (contents ws).queues)
    × (lowest_tag (contents ws).queues ≤ suc (largest_factor (contents ws).settings)))
    (λ tag. (tag ≡ lowest_tag (contents ws).queues) × (tag ≤ largest_factor (contents ws).settings))

-- The queue with this tag has a packet.
abbrev pub HeadWaits : List ℕ → ℕ → Type 0
HeadWaits ws tag =
    Fitting ws × (tag ≤ largest_factor (contents ws).settings) × (1 ≤ word ws (lengths_at + place_of (turns_at ws) tag))

-- The link of sound words is free, and this is the tag of the queue whose head goes onto it.
abbrev pub Loadable : List ℕ → ℕ → Type 0
Loadable ws tag =
    (sound_words ws ≡ true) ×
    (tag ≡ lowest_tag (contents ws).queues) ×
    (tag ≤ largest_factor (contents ws).settings) ×
    (word ws left_at ≡ 0)
