use Rattle.std.proofs.Common.{◌≡◌, ◌+◌, ◌%◌, ◌^◌, ◌∙◌, arith, rules}
use Rattle.std.specs.List.{fold}
use Rattle.plan.proofs.Passes.{sum_wraps}
use Rattle.plan.proofs.words.sum.Goals as goal

pub returns : goal.returns
returns g c =
    let a = c.args in
    let folded : c.fold.result ≡ fold (λ sum w. (sum + g.W.Word.value w) % 2 ^ 32) a.first a.words.now = search rules in
    folded ∙ sum_wraps g.W.Word.value a.first a.words.now (omega arith)
