use Rattle.std.proofs.Common.{sym, ◌∙◌, arith}
use lib.Seq.{length-take-le}
use Rattle.whole_run.proofs.Texts.{written_within}
use Rattle.gateway.proofs.main.Goals as goal

pub slice_bounds-text-end : goal.slice_bounds-text-end
slice_bounds-text-end c =
    omega (arith, written_within _ _ c.in_ok-size.size (omega arith) (sym c.in_ok-size.ensures ∙ c.run_plan.ensures.0))

pub slice_bounds-write_all-end : goal.slice_bounds-write_all-end
slice_bounds-write_all-end c =
    sym (length-take-le c.in_ok-size.size c.run_plan.new.out
    (omega (arith, written_within _ _ c.in_ok-size.size (omega arith) (sym c.in_ok-size.ensures ∙ c.run_plan.ensures.0))))
