use Rattle.plan.proofs.Answers.{sum_right, sum_off, answer_13, answer_14, answer_15, answer_16, answer_0, sum_of_chunks, slots_of_rest}
use Rattle.std.proofs.Common.{sym, ◌∙◌, arith}
use Rattle.meaning.specs.Plan.{words_of}
use Rattle.plan.proofs.LaidOut.{layout_facts}
use Rattle.plan.proofs.reading.read.Goals as goal

pub returns-then-size_wrong : goal.returns-then-size_wrong
returns-then-size_wrong c = answer_13 _ (sym c.size_wrong.ensures ∙ c.if-size_wrong.true)

pub returns-then-sum-ne0 : goal.returns-then-sum-ne0
returns-then-sum-ne0 c =
    let bytes = c.args.plan.now in
    answer_14 bytes (sym c.size_wrong.ensures ∙ c.if-size_wrong.false)
    (sum_off (words_of bytes) (λ e. c.if-sum-ne0.true (c.sum.ensures ∙ sum_of_chunks c.words.result.now (words_of bytes) c.words.ensures ∙ e)))

pub returns-then-layout_wrong : goal.returns-then-layout_wrong
returns-then-layout_wrong c =
    let bytes = c.args.plan.now in
    answer_15 bytes c.header-h.result c.header-h.ensures
    (sym c.size_wrong.ensures ∙ c.if-size_wrong.false)
    (sum_right (words_of bytes) (sym (c.sum.ensures ∙ sum_of_chunks c.words.result.now (words_of bytes) c.words.ensures) ∙ c.if-sum-ne0.false))
    (sym c.layout_wrong.ensures ∙ c.if-layout_wrong.true)

pub slice_bounds-words-count : goal.slice_bounds-words-count
slice_bounds-words-count c =
    let w = c.layout_wrong in
    let l = layout_facts _ _ (sym w.ensures ∙ c.if-layout_wrong.false) in
    omega arith

pub slice_bounds-words-start : goal.slice_bounds-words-start
slice_bounds-words-start c =
    let w = c.layout_wrong in
    let l = layout_facts _ _ (sym w.ensures ∙ c.if-layout_wrong.false) in
    omega arith

pub returns-then-slots_wrong : goal.returns-then-slots_wrong
returns-then-slots_wrong c =
    let bytes = c.args.plan.now in
    let right = sym c.layout_wrong.ensures ∙ c.if-layout_wrong.false in
    answer_16 bytes c.header-h.result c.header-h.ensures
    (sym c.size_wrong.ensures ∙ c.if-size_wrong.false)
    (sum_right (words_of bytes) (sym (c.sum.ensures ∙ sum_of_chunks c.words.result.now (words_of bytes) c.words.ensures) ∙ c.if-sum-ne0.false))
    right
    (sym (slots_of_rest bytes _ c.header-h.result right c.words-2.ensures) ∙ sym c.slots_wrong.ensures ∙ c.if-slots_wrong.true)

pub returns : goal.returns
returns c =
    let bytes = c.args.plan.now in
    let right = sym c.layout_wrong.ensures ∙ c.if-layout_wrong.false in
    answer_0 bytes c.header-h.result c.header-h.ensures
    (sym c.size_wrong.ensures ∙ c.if-size_wrong.false)
    (sum_right (words_of bytes) (sym (c.sum.ensures ∙ sum_of_chunks c.words.result.now (words_of bytes) c.words.ensures) ∙ c.if-sum-ne0.false))
    right
    (sym (slots_of_rest bytes _ c.header-h.result right c.words-2.ensures) ∙ sym c.slots_wrong.ensures ∙ c.if-slots_wrong.false)
