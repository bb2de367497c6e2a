use Rattle.std.proofs.Common.{◌≡◌, take}
use Rattle.meaning.specs.Plan.{words_of, factor_at, table}
use Rattle.whole_run.proofs.running.copy_factors.Given as goal

abbrev pub invariant-loop-i : goal.invariant-loop-i
invariant-loop-i l = take l.i l.factors ≡ table factor_at 1 (words_of l.classes) 0 l.i
