use Rattle.std.proofs.Common.{sym, ◌∙◌, arith}
use Rattle.plan_writer.specs.Written.{tables_of}
use Rattle.plan_writer.proofs.LentTables.{arrivals_lent, lengths_facts, size_of_lent}
use Rattle.plan_writer.proofs.Answers.{answer_15, answer_16, answer_17, answer_0}
use Rattle.plan_writer.proofs.writing.write.Goals as goal

pub returns-then-is_wrong : goal.returns-then-is_wrong
returns-then-is_wrong c =
    let e = answer_15 (tables_of c.args.lent) c.args.buf.now (sym c.is_wrong.ensures ∙ c.if-is_wrong.true) in
    record { answer = e.0; bytes = e.1 }

pub returns-then-slots_wrong : goal.returns-then-slots_wrong
returns-then-slots_wrong c =
    let l = tables_of c.args.lent in
    let e = answer_16 l c.args.buf.now (sym c.is_wrong.ensures ∙ c.if-is_wrong.false)
    (sym (arrivals_lent l) ∙ sym c.slots_wrong.ensures ∙ c.if-slots_wrong.true) in
    record { answer = e.0; bytes = e.1 }

pub size-size-requires : goal.size-size-requires
size-size-requires c = lengths_facts (tables_of c.args.lent) (sym c.is_wrong.ensures ∙ c.if-is_wrong.false)

pub returns-then-buf-size : goal.returns-then-buf-size
returns-then-buf-size c =
    let l = tables_of c.args.lent in
    let right = sym c.is_wrong.ensures ∙ c.if-is_wrong.false in
    let size = size_of_lent l (lengths_facts l right) in
    let e = answer_17 l c.args.buf.now right (sym (arrivals_lent l) ∙ sym c.slots_wrong.ensures ∙ c.if-slots_wrong.false) (omega (arith, size)) in
    record { answer = e.0; bytes = e.1 }

pub put-requires-clause-lengths : goal.put-requires-clause-lengths
put-requires-clause-lengths c = lengths_facts (tables_of c.args.lent) (sym c.is_wrong.ensures ∙ c.if-is_wrong.false)

pub returns : goal.returns
returns c =
    let l = tables_of c.args.lent in
    let right = sym c.is_wrong.ensures ∙ c.if-is_wrong.false in
    let size = size_of_lent l (lengths_facts l right) in
    let e = answer_0 l c.args.buf.now right
    (sym (arrivals_lent l) ∙ sym c.slots_wrong.ensures ∙ c.if-slots_wrong.false)
    _
    c.put.new.buf
    (c.size-size.ensures ∙ sym size)
    (omega arith)
    c.put.ensures in
    record { answer = e.0; bytes = e.1 }
