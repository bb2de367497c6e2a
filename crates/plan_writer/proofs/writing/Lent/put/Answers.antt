use Rattle.std.proofs.Common.{arith}
use Rattle.plan_writer.specs.Written.{tables_of}
use Rattle.plan_writer.proofs.LentTables.{words_put, bytes_put}
use Rattle.plan_writer.proofs.writing.Lent.put.Goals as goal

pub returns : goal.returns
returns c =
    let l = tables_of c.args.self in
    let last = c.wrapping_neg in
    let words =
    words_put l c.requires.lengths c.sum-head.result c.sum-front.result c.sum-most.result c.sum.result last.result
    (rw c.size.ensures at c.sum-head.ensures) c.sum-front.ensures c.sum-most.ensures c.sum.ensures (omega arith) last.ensures in
    bytes_put l c.requires.lengths c.args.buf.now
    c.put_words.new.buf
    c.put_words-2.new.buf
    c.put_words-3.new.buf
    c.put_words-4.new.buf
    last.result
    c.requires.room
    (rw c.size.ensures at c.put_words.ensures)
    c.put_words-2.ensures
    c.put_words-3.ensures
    c.put_words-4.ensures
    words
