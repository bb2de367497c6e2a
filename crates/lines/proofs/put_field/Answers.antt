use mathlib.Core.List.{[], ◌∷◌}
use native.Mathlib.Omega.{arith}
use Rattle.meaning.specs.Lines.{decimal}
use Rattle.lines.proofs.Puts.{then, room_first, room_after, put_byte}
use Rattle.lines.proofs.put_field.Goals as goal

pub put_number-last-requires : goal.put_number-last-requires
put_number-last-requires c =
    room_first c.args.out.now c.args.at (decimal c.args.n) (c.args.after ∷ []) c.requires

pub bounds-out-last : goal.bounds-out-last
bounds-out-last c =
    omega (arith, room_after (c.args.after ∷ []) c.put_number-last.ensures c.requires)

pub overflow_add-result : goal.overflow_add-result
overflow_add-result c =
    omega (
      arith,
      room_after (c.args.after ∷ []) c.put_number-last.ensures c.requires,
      c.put_number-last.auto.out,
      c.well_formed.0.0,
    )

pub returns : goal.returns
returns c =
    let p = c.put_number-last in
    then p.ensures (put_byte p.new.out p.result c.args.after (room_after (c.args.after ∷ []) p.ensures c.requires)) c.requires
