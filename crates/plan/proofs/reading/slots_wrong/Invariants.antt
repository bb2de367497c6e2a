use Rattle.std.proofs.Common.{◌≡◌, map}
use Rattle.std.specs.Slice.Iter.{chunks_exact_rest, chunks_exact_size}
use Rattle.plan.specs.Parts.{arrivals_of_words}
use Rattle.plan.proofs.Passes.{slots_good_from}
use Rattle.plan.proofs.reading.slots_wrong.Given as goal

abbrev pub invariant-loop-arrival : goal.invariant-loop-arrival
invariant-loop-arrival g l = record {
  by_three : chunks_exact_size l.arrival-iterator ≡ 3;
  same_test : slots_good_from l.low (arrivals_of_words (map g.W.Word.value (chunks_exact_rest l.arrival-iterator))) ≡
      slots_good_from 0 (arrivals_of_words (map g.W.Word.value l.arrivals));
}
