use Rattle.std.proofs.Common.{rules}
use Rattle.words.specs.Places.{tag_of}
use Rattle.words.specs.Contents.{queue_at}
use Rattle.words.specs.Tested.{queue_fits}
use Rattle.words.proofs.ContentsPut.{length_queue}
use Rattle.soundness.proofs.testing.queue_fits.Goals as goal

pub returns-then-tag-largest_factor : goal.returns-then-tag-largest_factor
unfolding queue_fits queue_at tag_of
returns-then-tag-largest_factor c = search rules

pub returns-else-tag-largest_factor : goal.returns-else-tag-largest_factor
unfolding queue_fits tag_of
returns-else-tag-largest_factor c = let n = length_queue c.args.ws.now c.args.place in search rules
