use Rattle.words.proofs.PutContents.{class_count_lem}
use Rattle.meaning.specs.Numbers.{class_count}
use Rattle.words.specs.Contents.{contents}
use mathlib.Core.Path.{sym}
use Rattle.tables.proofs.settings.class_count.Goals as goal

pub returns : goal.returns
unfolding contents class_count
returns c = (sym (class_count_lem c.args.ws.now), c.requires.classes)
