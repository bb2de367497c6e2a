use Rattle.std.proofs.Common.{rules}
use Rattle.words.proofs.Ranges.{zeros_between}
use Rattle.words.specs.Tested.{rows_tested}
use Rattle.soundness.proofs.rows.rows_tested.Goals as goal

pub returns-then-rows_kept : goal.returns-then-rows_kept
unfolding rows_tested
returns-then-rows_kept c = search (rules, zeros_between)

pub returns-else-rows_kept : goal.returns-else-rows_kept
unfolding rows_tested
returns-else-rows_kept c = search rules
