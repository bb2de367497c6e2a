use Rattle.words.proofs.TableReads.{factor_at_lem}
use Rattle.words.specs.Contents.{contents}
use Rattle.std.proofs.Common.{sym}
use Rattle.tables.proofs.settings.class_factor.Goals as goal

pub returns : goal.returns
unfolding contents
returns c = sym (factor_at_lem c.args.ws.now c.args.p c.requires.2 c.requires.3)
