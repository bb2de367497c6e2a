use Prim.Native.Nat.{◌+◌}
use mathlib.Core.Path.{◌≡◌, sym}
use mathlib.Core.Bool.{true, false}
use native.Mathlib.Omega.{arith}
use lib.ListN.{length}
use borrow.Author.Count.{below_more}
use Rattle.std.proofs.lemmas.Bool.Decides.{nat_tests}
use Rattle.laws.specs.Found.{found_fails, found_holds}
use Rattle.meaning.specs.Admission.{term, finite_search, condition_at}
use Rattle.words.specs.Contents.{contents, settings_at}
use Rattle.admission.specs.Asking.{way_term, with_asked}
use Rattle.admission.proofs.Rows.{sum_next, largest_next, fails_early, condition_is}
use Rattle.admission.proofs.Asking.first_failing.Goals as goal
use Rattle.admission.proofs.Asking.first_failing.Goals.{then-t-sum-2-via-then-t-sum-2, then-t-sum-2-via-else-t-sum-2+then-t-sum-3, then-speaks, else-speaks}

pub loop-i-preserved : goal.loop-i-preserved
loop-i-preserved c =
    let ws = c.args.self.now.ws.now in
    let more = sum_next (term (settings_at ws) c.search.t) ws c.loop-i.i c.row-row.result c.row-row.ensures.value in
    let wider = largest_next (way_term (settings_at ws) c.search.t) ws c.loop-i.i c.row-row.result c.row-row.ensures.value in
    let a = c.loop-i.invariant in
    record {
      sum_is = omega (arith, a.sum_is, c.term_of-sum-in-loop-i.ensures.value);
      sum_most = omega (arith, a.sum_most, c.term_of-sum-in-loop-i.ensures.most);
      way_is = omega (arith, a.way_is, c.way_of.ensures.value);
      way_most = omega (arith, a.way_most, c.way_of.ensures.most);
    }

pub returns-then-end-t : goal.returns-then-end-t
unfolding finite_search
returns-then-end-t c =
    sym (found_holds _ _ (λ k h. c.search.invariant.held k (omega (arith, c.end-end.ensures.value))))

pub returns-then-t-sum : goal.returns-then-t-sum
unfolding finite_search
returns-then-t-sum c =
    let ws = c.args.self.now.ws.now in
    let more = sum_next (term (settings_at ws) c.search.t) ws c.loop-i.i c.row-row.result c.row-row.ensures.value in
    sym (found_fails _ _ c.search.t (omega (arith, c.end-end.ensures.value)) c.search.invariant.held
    (fails_early ws c.args.self.now.newcomer c.search.t (c.loop-i.sum + c.term_of-sum-in-loop-i.result) (c.loop-i.i + 1) c.standing_count-count.result
    (omega (arith, c.loop-i.invariant.sum_is)) (omega arith) (c.standing_count-count.ensures) c.if-t-sum.true))

pub returns-then-t-sum-2 : goal.returns-then-t-sum-2
unfolding finite_search
returns-then-t-sum-2 c =
    let ws = c.args.self.now.ws.now in
    let n = c.args.self.now.newcomer in
    let t = c.search.t in
    let rows : c.loop-i.i ≡ length (contents ws).standing = omega (arith, c.standing_count-count.ensures) in
    let condition = condition_is ws n t c.loop-i.sum c.loop-i.way c.loop-i.i c.speaks_of-speaks.result (rw c.term_of-sum.ensures.value at c.loop-i.invariant.sum_is)
    (rw c.way_of-way.ensures.value at c.loop-i.invariant.way_is) c.speaks_of-speaks.ensures rows in
    let fails : condition_at (settings_at ws) (with_asked ws n) t ≡ false =
    elim c.then-t-sum-2.branch [
      | then-t-sum-2-via-then-t-sum-2 w ↦ grind (arith, nat_tests, condition)
      | then-t-sum-2-via-else-t-sum-2+then-t-sum-3 w ↦
          elim w.if-speaks.branch [
            | then-speaks w' ↦ grind (arith, nat_tests, condition)
            | else-speaks w' ↦ absurd (cc)
          ]
    ] in
    sym (found_fails _ _ t (omega (arith, c.end-end.ensures.value)) c.search.invariant.held fails)

pub search-preserved : goal.search-preserved
search-preserved c =
    let ws = c.args.self.now.ws.now in
    let n = c.args.self.now.newcomer in
    let t = c.search.t in
    let rows : c.loop-i.i ≡ length (contents ws).standing = omega (arith, c.standing_count-count.ensures) in
    let condition = condition_is ws n t c.loop-i.sum c.loop-i.way c.loop-i.i c.speaks_of-speaks.result (rw c.term_of-sum.ensures.value at c.loop-i.invariant.sum_is)
    (rw c.way_of-way.ensures.value at c.loop-i.invariant.way_is) c.speaks_of-speaks.ensures rows in
    let holds : condition_at (settings_at ws) (with_asked ws n) t ≡ true =
    elim c.if-speaks.branch [
      | then-speaks w ↦ grind (arith, nat_tests, condition)
      | else-speaks w ↦ grind (arith, nat_tests, condition)
    ] in
    record { t_most = omega arith; held = below_more (λ k. condition_at (settings_at ws) (with_asked ws n) k ≡ true) t c.search.invariant.held holds }
