use Rattle.std.proofs.Common.{rules}
use Rattle.words.specs.Contents.{contents}
use Rattle.words.specs.Tested.{row_kept}
use Rattle.soundness.proofs.rows.row_kept.Goals as goal

pub returns-then-connection_allowed : goal.returns-then-connection_allowed
unfolding row_kept contents
returns-then-connection_allowed c = search rules

pub returns-else-connection_allowed : goal.returns-else-connection_allowed
unfolding row_kept contents
returns-else-connection_allowed c = search rules
