use Rattle.words.proofs.TableReads.{largest_at}
use Rattle.std.proofs.Common.{sym}
use Rattle.tables.proofs.settings.largest_factor.Goals as goal

pub returns : goal.returns
returns c = (sym (largest_at c.args.ws.now c.requires.1), (c.type_inv.ws _).fits)
