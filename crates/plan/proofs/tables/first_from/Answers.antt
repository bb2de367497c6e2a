use Rattle.std.proofs.Common.{◌+◌, List, ℕ, Bool, nat_lt, slice_index, ap, ◌∙◌, rules, tests}
use Rattle.std.proofs.lemmas.Iterator.{YieldsList-from_slice}
use Rattle.std.proofs.lemmas.Iterator.Consumers.{YieldsList-at, count_from_yields_List}
use Rattle.std.proofs.lemmas.Iterator.Search.{YieldsList-from_take_while}
use Rattle.meaning.specs.Plan.{words_of}
use Rattle.plan.proofs.Stretch.{boundary_counts}
use Rattle.plan.proofs.tables.first_from.Goals as goal

pub returns : goal.returns
returns c =
    let a = c.args in
    let w = c.take_while.ensures in
    let test : List ℕ → Bool = λ e. nat_lt (slice_index (words_of e) 0) a.limit in
    ap (λ n. a.from + n)
    (count_from_yields_List c.take_while.result c.count-before.result c.count-before.ensures.ran
    (YieldsList-from_take_while _ test (YieldsList-at w.source (YieldsList-from_slice _ c.iter.ensures.rest)) w.closure w.done (λ x b q k. search (rules, tests)))) ∙
    boundary_counts a.arrivals.now c.as_chunks.result.0.now c.entries_from-entries.result.now a.from a.limit c.as_chunks.ensures.front c.entries_from-entries.ensures
