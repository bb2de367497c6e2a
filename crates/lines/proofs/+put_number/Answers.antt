-- `put_number` calls itself on the number divided by ten: the measure is the number.
use Rattle.std.proofs.Common.{arith}
use Rattle.lines.proofs.Puts.{small_room, small_put, tenth_room, last_room, large_length, large_put}
use Rattle.lines.proofs.+put_number.Goals as goal

pub bounds-out-at : goal.bounds-out-at
bounds-out-at t c = omega (arith, small_room c.args.out.now c.args.at c.args.n c.requires c.if-n-lt10.true)

pub returns-then-n-lt10 : goal.returns-then-n-lt10
returns-then-n-lt10 t c = small_put c.args.out.now c.args.at c.args.n c.requires c.if-n-lt10.true

pub put_number-last-requires : goal.put_number-last-requires
put_number-last-requires t c = (omega (arith, c.decreases), tenth_room c.args.out.now c.args.at c.args.n c.requires c.if-n-lt10.false)

pub bounds-out-last : goal.bounds-out-last
bounds-out-last t c = omega (arith, last_room c.args.out.now c.args.at c.args.n c.requires c.put_number-last.ensures c.if-n-lt10.false)

pub overflow_add-result-2 : goal.overflow_add-result-2
overflow_add-result-2 t c =
    omega (
      arith,
      last_room c.args.out.now c.args.at c.args.n c.requires c.put_number-last.ensures c.if-n-lt10.false,
      large_length c.args.out.now c.args.at c.args.n c.requires c.put_number-last.ensures c.if-n-lt10.false,
    )

pub returns : goal.returns
returns t c = large_put c.args.out.now c.args.at c.args.n c.requires c.put_number-last.ensures c.if-n-lt10.false
