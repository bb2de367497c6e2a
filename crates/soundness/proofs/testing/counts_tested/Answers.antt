use Rattle.std.proofs.Common.{rules}
use Rattle.words.specs.Tested.{counts_tested}
use Rattle.soundness.proofs.testing.counts_tested.Goals as goal

pub returns-then-waiting-le1024 : goal.returns-then-waiting-le1024
unfolding counts_tested
returns-then-waiting-le1024 c = search rules

pub returns-else-waiting-le1024 : goal.returns-else-waiting-le1024
unfolding counts_tested
returns-else-waiting-le1024 c = search rules
