use native.Mathlib.Omega.{arith}
use Rattle.words.specs.Contents.{contents}
use Rattle.whole_run.proofs.SlotRun.{due_few, offers_room, step_room, slot_runs}
use Rattle.whole_run.proofs.slots.run_slot.Goals as goal

pub offer_all-offered-requires : goal.offer_all-offered-requires
offer_all-offered-requires c =
    let a = c.args in
    let p = c.requires.walked in
    let stretch = c.stretch-due in
    let counter = c.counter-slot in
    let few =
    due_few a.numbers.now a.table.now (contents a.state.now.words.now) a.passed p.0 p.1 stretch.result.now counter.result
    stretch.ensures counter.ensures.0 in
    let room =
    offers_room a.numbers.now a.table.now (contents a.state.now.words.now) a.passed p.0 p.1 stretch.result.now counter.result
    stretch.ensures counter.ensures.0
    a.out.now a.start c.requires.room in
    record { most = omega (arith, few); room = room }

pub print_stepped-requires : goal.print_stepped-requires
print_stepped-requires c =
    let a = c.args in
    let p = c.requires.walked in
    let stretch = c.stretch-due in
    let counter = c.counter-slot in
    let offers = c.offer_all-offered in
    let step = c.step-answer in
    let room =
    step_room a.numbers.now a.table.now (contents a.state.now.words.now) a.passed p.0 p.1 stretch.result.now counter.result
    stretch.ensures counter.ensures.0
    a.out.now a.start c.requires.room offers.ensures step.result step.ensures.promise.0 in
    (p.2, room)

pub overflow_add-result : goal.overflow_add-result
overflow_add-result c =
    let a = c.args in
    let p = c.requires.walked in
    let stretch = c.stretch-due in
    let counter = c.counter-slot in
    let few =
    due_few a.numbers.now a.table.now (contents a.state.now.words.now) a.passed p.0 p.1 stretch.result.now counter.result
    stretch.ensures counter.ensures.0 in
    omega (arith, few)

pub returns : goal.returns
returns c =
    let a = c.args in
    let p = c.requires.walked in
    let stretch = c.stretch-due in
    let counter = c.counter-slot in
    let offers = c.offer_all-offered in
    let step = c.step-answer in
    (slot_runs a.numbers.now a.table.now (contents a.state.now.words.now) a.passed p.0 p.1 stretch.result.now counter.result
    stretch.ensures counter.ensures.0
    a.out.now a.start c.requires.room offers.ensures step.result step.ensures.promise.0
    step.ensures.promise.1 c.print_stepped.ensures).0
