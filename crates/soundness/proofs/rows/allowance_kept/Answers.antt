use Rattle.std.proofs.Common.{arith}
use Rattle.std.proofs.lemmas.Bool.Decides.{nat_tests}
use Rattle.laws.specs.Tests.{within}
use Rattle.meaning.specs.Envelope.{allowance_kept}
use Rattle.soundness.proofs.rows.allowance_kept.Goals as goal

pub returns-then-a-c : goal.returns-then-a-c
unfolding allowance_kept
returns-then-a-c c = grind (arith, nat_tests)

pub returns-then-a-ge1 : goal.returns-then-a-ge1
unfolding allowance_kept within
returns-then-a-ge1 c = grind (arith, nat_tests)

pub returns-else-a-ge1 : goal.returns-else-a-ge1
unfolding allowance_kept within
returns-else-a-ge1 c = grind (arith, nat_tests)
