use mathlib.Core.Path.{◌≡◌}
use lib.ListN.{length}
use Rattle.meaning.specs.Rest.{potential}
use Rattle.words.specs.Contents.{contents}
use Rattle.whole_run.specs.Parts.{arrivals_placed}
use Rattle.whole_run.proofs.Going.{Going}
use Rattle.whole_run.proofs.slots.run_slots.Given as goal

abbrev pub invariant-loop-state : goal.invariant-loop-state
invariant-loop-state l =
    (length l.out ≡ length l.initial.out) × Going l.numbers l.table (contents l.initial.state.words.now) l.state.words.now l.initial.out l.out l.start l.at l.passed l.departed

abbrev pub decreases-loop-state : goal.decreases-loop-state
decreases-loop-state l = potential (arrivals_placed l.table) (contents l.state.words.now)
