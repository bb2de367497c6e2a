use mathlib.Core.Path.{◌∙◌}
use native.Mathlib.Omega.{arith}
use Rattle.whole_run.proofs.Passing.{not_yet, all_passed}
use Rattle.whole_run.proofs.slots.is_finished.Goals as goal

pub returns-then-passed-table : goal.returns-then-passed-table
returns-then-passed-table c = not_yet _ _ _ c.requires c.if-passed-table.true

pub returns : goal.returns
returns c =
    c.is_empty.ensures ∙ all_passed _ _ _ c.requires (omega (arith, c.if-passed-table.false))
