use mathlib.Core.Path.{sym, ◌∙◌}
use native.Mathlib.Omega.{arith}
use Rattle.words.proofs.Counts.{sound_fitting}
use Rattle.whole_run.proofs.EmptyBox.{none_waiting}
use Rattle.whole_run.proofs.Idle.{passes_idle, idle_stays_sound}
use Rattle.whole_run.proofs.slots.pass_idle.Goals as goal

pub pass_to-requires : goal.pass_to-requires
pass_to-requires c =
    (sound_fitting _ c.args.state.now.sound, none_waiting _ (sym c.is_empty.ensures ∙ c.if-not-is_empty.false))

pub invariant_of-state : goal.invariant_of-state
invariant_of-state c =
    record {
      sound = idle_stays_sound c.args.table.now c.args.passed c.args.state.now.words.now _ c.args.state.now.sound c.requires.0 c.requires.1 c.arrival-next.result
          (omega (arith, c.if-passed-table.false)) c.arrival-next.ensures
          (omega (arith, c.if-next-counter.false, c.counter.ensures)) (sym c.is_empty.ensures ∙ c.if-not-is_empty.false)
          c.pass_to.ensures;
    }

pub returns : goal.returns
returns c =
    passes_idle c.args.table.now c.args.passed c.args.state.now.words.now _ c.args.state.now.sound c.requires.0 c.requires.1 c.arrival-next.result
    (omega (arith, c.if-passed-table.false)) c.arrival-next.ensures
    (omega (arith, c.if-next-counter.false, c.counter.ensures)) (sym c.is_empty.ensures ∙ c.if-not-is_empty.false)
    c.pass_to.ensures
