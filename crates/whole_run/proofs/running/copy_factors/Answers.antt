use mathlib.Core.Path.{refl}
use native.Mathlib.Omega.{arith}
use Rattle.meaning.specs.Plan.{table}
use Rattle.whole_run.proofs.Factors.{factor_on, factors_end}
use Rattle.whole_run.proofs.running.copy_factors.Goals as goal

pub loop-i-init : goal.loop-i-init
loop-i-init c = unfold table in refl

pub loop-i-preserved : goal.loop-i-preserved
loop-i-preserved c = factor_on _ _ _ _ (omega arith) c.factor.ensures c.loop-i.invariant

pub returns : goal.returns
returns c = factors_end _ _ c.args.factors.now _ (omega arith) c.loop-i.auto.factors c.loop-i.invariant
