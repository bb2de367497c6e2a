use Prim.Native.Nat.{◌/◌}
use mathlib.Core.Path.{sym}
use native.Mathlib.Omega.{arith}
use lib.ListN.{length}
use lib.Seq.{length-take-le}
use Rattle.whole_run.proofs.Whole.{connections_few, sorted, admissions_room, counter_zero, rest_room, rest_put}
use Rattle.whole_run.proofs.running.run_open.Goals as goal

pub admit_all-at-requires : goal.admit_all-at-requires
admit_all-at-requires c =
    let p = c.requires.opened in
    let conns = c.connections-asked in
    record {
      most = (connections_few _ _ p.1 _ conns.ensures, omega arith);
      room = admissions_room _ _ p.1 c.args.state.now.words.now p.0
          conns.result.now conns.ensures c.args.out.now c.requires.room;
    }

pub slice_bounds-numbers-end : goal.slice_bounds-numbers-end
slice_bounds-numbers-end c =
    let few = connections_few _ _ c.requires.opened.1 _ c.connections-asked.ensures in
    omega (arith, few, c.admit_all-at.auto.numbers)

pub slice_bounds-run_slots-end : goal.slice_bounds-run_slots-end
slice_bounds-run_slots-end c =
    let few = connections_few _ _ c.requires.opened.1 _ c.connections-asked.ensures in
    sym (length-take-le _ c.admit_all-at.new.numbers (omega (arith, few, c.admit_all-at.auto.numbers)))

pub run_slots-requires : goal.run_slots-requires
run_slots-requires c =
    let p = c.requires.opened in
    let conns = c.connections-asked in
    let admitted = c.admit_all-at in
    let few = connections_few _ _ p.1 _ conns.ensures in
    let long = length-take-le (length conns.result.now / 16) admitted.new.numbers (omega (arith, few, admitted.auto.numbers)) in
    record {
      given = (
        counter_zero _ _ p.1 c.args.state.now.words.now p.0 conns.result.now conns.ensures
            c.args.out.now c.requires.room admitted.ensures,
        sorted _ _ p.1 _ c.arrivals.ensures,
        omega
            (arith, few, long),
      );
      room = rest_room _ _ p.1 c.args.state.now.words.now p.0 conns.result.now conns.ensures c.args.out.now c.requires.room
          admitted.ensures _ c.arrivals.ensures;
    }

pub returns : goal.returns
returns c =
    let p = c.requires.opened in
    let conns = c.connections-asked in
    rest_put _ _ p.1 c.args.state.now.words.now p.0 conns.result.now conns.ensures c.args.out.now c.requires.room
    c.admit_all-at.ensures _ c.arrivals.ensures c.run_slots.ensures
