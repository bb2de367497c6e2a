use Rattle.words.proofs.Counts.{waiting_count}
use mathlib.Core.Path.{◌∙◌}
use Rattle.store.proofs.lengths.waiting_count.Goals as goal

pub returns : goal.returns
returns c = c.lengths_below.ensures.0 ∙ waiting_count c.args.ws.now c.requires.untagged
    c.requires.largest
