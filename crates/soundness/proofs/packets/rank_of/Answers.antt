use Rattle.std.proofs.Common.{arith, ap}
use Rattle.meaning.specs.Queues.{rank}
use Rattle.meaning.specs.Box.{rank_in}
use Rattle.words.specs.Contents.{contents, settings_at}
use Rattle.words.proofs.TableReads.{kept_connection, class_in_range}
use Rattle.soundness.proofs.packets.rank_of.Goals as goal

pub asked_by-class-requires : goal.asked_by-class-requires
asked_by-class-requires c =
    let n = kept_connection c.args.ws.now c.args.p c.requires.kept in
    let k = c.requires.tables in
    (omega (arith, k.enough), k.rows, n.0, n.1)

pub class_factor-requires : goal.class_factor-requires
class_factor-requires c =
    let n = kept_connection c.args.ws.now c.args.p c.requires.kept in
    let k = c.requires.tables in
    let class = rw (← (ap (λ a. a.class) c.asked_by-class.ensures)) at (class_in_range c.args.ws.now c.args.p.connection k n.0 n.1) in
    (omega (arith, k.enough), k.classes, class.0, class.1)

pub returns : goal.returns
unfolding rank_in rank contents settings_at
returns c = cc
