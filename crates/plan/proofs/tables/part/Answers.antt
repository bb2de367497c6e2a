use Rattle.std.proofs.Common.{refl, ap, ◌∙◌, arith}
use Rattle.plan.proofs.Fitting.{looked_up}
use Rattle.plan.proofs.tables.part.Goals as goal

pub returns : goal.returns
returns c =
    let a = c.args in
    ap (λ s. s.now) c.unwrap_or.ensures ∙
    looked_up a.plan.now a.t a.width c.saturating_add-end.result c.get.result _ (omega arith) (omega arith) (omega arith) c.get.ensures.lookup refl
