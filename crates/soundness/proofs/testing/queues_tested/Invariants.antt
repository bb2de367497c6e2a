use Rattle.std.proofs.Common.{◌≡◌, true}
use Rattle.laws.specs.Tests.{every_below}
use Rattle.words.specs.Places.{start_of, tag_of}
use Rattle.words.specs.Tested.{queue_fits}
use Rattle.words.specs.Contents.{turns_at, queue_at}
use Rattle.soundness.proofs.testing.queues_tested.Given as goal

abbrev pub invariant-loop-place : goal.invariant-loop-place
invariant-loop-place l = record {
  at_start : l.at ≡ start_of l.ws l.place;
  below : every_below (λ p. queue_fits l.ws (tag_of (turns_at l.ws) p) (queue_at l.ws p)) l.place ≡ true;
}
