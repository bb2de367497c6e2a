use native.Mathlib.Numerals.{add-one}
use Rattle.tables.proofs.SmallChanges.{raise_become}
use Rattle.words.specs.Places.{word, counter_at}
use Prim.Native.Nat.{◌+◌}
use Rattle.tables.proofs.counter.raise_counter.Goals as goal

pub returns : goal.returns
returns c = let ws = c.args.ws.now in raise_become ws (word ws counter_at + 1) c.requires.0 (add-one (word ws counter_at))
    c.requires.2
