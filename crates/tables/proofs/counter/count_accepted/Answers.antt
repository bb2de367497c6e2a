use native.Mathlib.Numerals.{add-one}
use Rattle.tables.proofs.SmallChanges.{accepted_become}
use Rattle.words.specs.Places.{word, accepted_at}
use Rattle.words.specs.Contents.{contents}
use Prim.Native.Nat.{◌+◌}
use Rattle.tables.proofs.counter.count_accepted.Goals as goal

pub returns : goal.returns
unfolding contents
returns c = let ws = c.args.ws.now in rw (← (add-one (word ws accepted_at)))
    (accepted_become ws (word ws accepted_at + 1) c.requires.0)
