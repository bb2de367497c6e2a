use lib.Seq.{paste}
use Rattle.std.proofs.Common.{◌≡◌}
use Rattle.words.specs.Places.{factors_at}
use Rattle.tables.proofs.opening.write_factors.Given as goal

abbrev pub invariant-loop-i : goal.invariant-loop-i
invariant-loop-i l = l.ws ≡ paste l.initial.ws factors_at l.factors l.i
