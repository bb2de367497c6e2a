-- Words that become those of a box: they are the box put into them, and one change after another is one change.
use Prim.Native.Nat.{ℕ, ◌+◌, ◌*◌, ◌≤◌}
use mathlib.Core.Path.{◌≡◌, ap, ◌∙◌}
use mathlib.Core.List.{List}
use native.Mathlib.Omega.{arith}
use lib.ListN.{length}
use Rattle.meaning.specs.Box.{Box, waiting}
use Rattle.words.specs.Places.{lengths_below, packets_at}
use Rattle.words.specs.Contents.{put}
use Rattle.words.specs.Changes.{Become}
use Rattle.words.proofs.PutContents.{put_from}
use Rattle.words.proofs.Counts.{waiting_count}
use Rattle.words.proofs.Same.{drop_same}

-- Words that become those of a box are the box put into them.
pub become_put : (ws after : List ℕ) (box : Box) → Become ws after box → after ≡ put box ws
become_put ws after box b =
    put_from ws after box b.fitting b.stands_for
    (drop_same ws after (packets_at + 4 * lengths_below after 64) b.same_length b.beyond)

-- One change after another is one change, where the first leaves no more packets waiting than the second.
pub become_then : (ws mid after : List ℕ) (first second : Box) → Become ws mid first → Become mid after second
    → length (waiting first) ≤ length (waiting second) → Become ws after second
become_then ws mid after first second a b h =
    (let m = waiting_count mid a.fitting.untagged a.fitting.largest ∙ ap (λ x. length (waiting x)) a.stands_for in
    let n = waiting_count after b.fitting.untagged b.fitting.largest ∙ ap (λ x. length (waiting x)) b.stands_for in
    record {
      fitting = b.fitting;
      stands_for = b.stands_for;
      same_length = b.same_length ∙ a.same_length;
      beyond = λ i l. b.beyond i l ∙ a.beyond i (omega arith);
    })
