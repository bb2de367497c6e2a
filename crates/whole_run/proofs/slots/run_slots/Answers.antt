use mathlib.Core.Path.{refl, sym, ◌∙◌}
use native.Mathlib.Omega.{arith}
use Rattle.multiplexer.proofs.Sounds.{counter_most}
use Rattle.whole_run.proofs.Going.{going_start, going_on, going_later, departed_fits, falls, slot_room, stop_room, stop_put}
use Rattle.whole_run.proofs.Going.{end_room, end_put}
use Rattle.whole_run.proofs.slots.run_slots.Goals as goal

pub loop-state-init : goal.loop-state-init
loop-state-init c =
    (refl, going_start _ _ _ _ _ c.requires.given.0)

pub is_finished-requires : goal.is_finished-requires
is_finished-requires c =
    c.loop-state.invariant.1.walked

pub run_slot-slot-requires : goal.run_slot-slot-requires
run_slot-slot-requires c =
    let g = c.loop-state.invariant.1 in
    record {
      walked = (g.walked, c.requires.given.1, c.requires.given.2);
      room = slot_room c.requires.room g (sym c.is_finished.ensures ∙ c.loop-state-test.true);
    }

pub put-requires : goal.put-requires
put-requires c =
    stop_room c.requires.room c.loop-state.invariant.1 (sym c.is_finished.ensures ∙ c.loop-state-test.true)
    c.run_slot-slot.ensures _ c.in-Err.is _ c.from.ensures

pub shape_of-out-in-Err : goal.shape_of-out-in-Err
shape_of-out-in-Err c =
    omega (arith, c.put.auto.out, c.run_slot-slot.auto.out, c.loop-state.invariant.0)

pub returns-in-Err : goal.returns-in-Err
returns-in-Err c =
    stop_put c.requires.room c.loop-state.invariant.1 (sym c.is_finished.ensures ∙ c.loop-state-test.true)
    c.run_slot-slot.ensures _ c.in-Err.is _ c.from.ensures c.put.ensures

pub overflow_add-departed : goal.overflow_add-departed
overflow_add-departed c =
    let d = departed_fits c.requires.room c.loop-state.invariant.1 (sym c.is_finished.ensures ∙ c.loop-state-test.true)
    c.run_slot-slot.ensures c.in_default.not-Err _ c.departed_by-departed.ensures (counter_most _ c.loop-state.state.sound) in
    omega (arith, d)

pub pass_idle-requires : goal.pass_idle-requires
pass_idle-requires c =
    let g = going_on c.requires.room c.loop-state.invariant.1 (sym c.is_finished.ensures ∙ c.loop-state-test.true)
    c.run_slot-slot.ensures c.in_default.not-Err _ c.departed_by-departed.ensures in
    (g.walked, c.requires.given.1)

pub loop-state-smaller : goal.loop-state-smaller
loop-state-smaller c =
    let less = falls c.requires.room c.loop-state.invariant.1 (sym c.is_finished.ensures ∙ c.loop-state-test.true)
    c.run_slot-slot.ensures c.in_default.not-Err _ c.departed_by-departed.ensures in
    omega (arith, less, c.pass_idle.ensures.no_more)

pub loop-state-preserved : goal.loop-state-preserved
loop-state-preserved c =
    let i = c.loop-state.invariant in
    let idle = c.pass_idle in (
      omega (arith, c.run_slot-slot.auto.out, i.0),
      going_later (going_on c.requires.room i.1 (sym c.is_finished.ensures ∙ c.loop-state-test.true)
          c.run_slot-slot.ensures c.in_default.not-Err _ c.departed_by-departed.ensures) idle.ensures,
    )

pub put-requires-2 : goal.put-requires-2
put-requires-2 c =
    end_room c.requires.room c.loop-state.invariant.1 (sym c.is_finished.ensures ∙ c.loop-state-test.false) _ _
    c.counter-counter.ensures.0 c.accepted-accepted.ensures

pub shape_of-out : goal.shape_of-out
shape_of-out c =
    omega (arith, c.put-2.auto.out, c.loop-state.invariant.0)

pub returns : goal.returns
returns c =
    end_put c.requires.room c.loop-state.invariant.1 (sym c.is_finished.ensures ∙ c.loop-state-test.false) _ _
    c.counter-counter.ensures.0 c.accepted-accepted.ensures c.put-2.ensures
