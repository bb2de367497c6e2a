use Prim.Native.Nat.{◌+◌}
use native.Mathlib.Omega.{arith}
use mathlib.Core.List.{[], ◌++◌}
use lib.ListN.{get_or, drop}
use Rattle.lines.specs.Put.{field, fields}
use Rattle.lines.proofs.Reached.{reached_start, reached_as, reached_next, reached_on, reached_end}
use Rattle.lines.proofs.Texts.{fields_from, no_fields}
use Rattle.lines.proofs.put_fields.Goals as goal

pub loop-i-init : goal.loop-i-init
loop-i-init c =
    let a = c.args in
    reached_start a.out.now a.at (fields a.numbers.now)

pub put_field-next-requires : goal.put_field-next-requires
put_field-next-requires c =
    let l = c.loop-i in
    let numbers = c.args.numbers.now in
    let piece = field (get_or numbers l.i 0) c.byte_after.result in
    let rest = fields (drop (l.i + 1) numbers) in
    reached_next piece rest c.requires
    (reached_as (piece ++ rest) (fields_from numbers l.i c.byte_after.result (omega arith) c.byte_after.ensures) l.invariant)

pub loop-i-preserved : goal.loop-i-preserved
loop-i-preserved c =
    let l = c.loop-i in
    let byte = c.byte_after in
    let numbers = c.args.numbers.now in
    let piece = field (get_or numbers l.i 0) byte.result in
    let rest = fields (drop (l.i + 1) numbers) in
    reached_on piece rest c.requires
    (reached_as (piece ++ rest) (fields_from numbers l.i byte.result (omega arith) byte.ensures) l.invariant)
    c.put_field-next.ensures

pub returns : goal.returns
returns c =
    let l = c.loop-i in
    let numbers = c.args.numbers.now in
    reached_end (reached_as [] (no_fields numbers l.i (omega arith)) l.invariant)
