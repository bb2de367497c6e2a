use Rattle.words.proofs.PutContents.{row_count}
use mathlib.Core.Path.{sym}
use Rattle.words.specs.Contents.{contents}
use Rattle.tables.proofs.rows.standing_count.Goals as goal

pub returns : goal.returns
unfolding contents
returns c = sym (row_count _)
