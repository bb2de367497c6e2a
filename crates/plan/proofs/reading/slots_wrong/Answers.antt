use Rattle.std.proofs.Common.{true, false, map, sym, ◌∙◌, arith, inl, inr, ⊎_elim}
use Rattle.std.specs.Slice.Iter.{chunks_exact_rest}
use Rattle.plan.specs.Parts.{arrivals_of_words}
use Rattle.plan.proofs.Passes.{slots_next, slots_fail, slots_end, slots_answer}
use Rattle.plan.proofs.reading.slots_wrong.Goals as goal

pub returns-then-slot-low : goal.returns-then-slot-low
returns-then-slot-low g c =
    let l = c.loop-arrival in
    let step = c.in-Some.ensures.steps in
    let first = c.index-arrival-0 in
    slots_answer (arrivals_of_words (map g.W.Word.value c.args.arrivals.now)) false
    (sym l.invariant.same_test ∙
    slots_fail g.W.Word.value (chunks_exact_rest l.arrival-iterator) c.in-Some.arrival.now (chunks_exact_rest c.next.new.self) first.result c.value-slot.result
    step.1.0 (step.1.1 ∙ l.invariant.by_three) first.is c.value-slot.ensures l.low (⊎_elim (λ a. inl (omega (arith, a))) (λ b. inr (b.0, omega (arith, b.1)))
    c.then-slot-low.either))

pub loop-arrival-preserved : goal.loop-arrival-preserved
loop-arrival-preserved g c =
    let l = c.loop-arrival in
    let step = c.in-Some.ensures.steps in
    let first = c.index-arrival-0 in
    record {
      by_three = step.0 ∙ l.invariant.by_three;
      same_test =
          sym (slots_next g.W.Word.value (chunks_exact_rest l.arrival-iterator) c.in-Some.arrival.now (chunks_exact_rest c.next.new.self)
          first.result c.value-slot.result step.1.0 (step.1.1 ∙ l.invariant.by_three) first.is c.value-slot.ensures
          l.low (omega arith) (omega arith)) ∙ l.invariant.same_test;
    }

pub returns : goal.returns
returns g c =
    let l = c.loop-arrival in
    let step = c.in-None.ensures.steps in
    slots_answer (arrivals_of_words (map g.W.Word.value c.args.arrivals.now)) true
    (sym l.invariant.same_test ∙
    slots_end g.W.Word.value l.low (chunks_exact_rest l.arrival-iterator) (omega (arith, step.1.0, l.invariant.by_three)))
