use Rattle.meaning.specs.Numbers.{rising_above}
use Rattle.std.proofs.Common.{◌≡◌, drop}
use Rattle.tables.proofs.settings.factors_rise.Given as goal

abbrev pub invariant-loop-factor : goal.invariant-loop-factor
invariant-loop-factor l = rising_above l.low (drop l.factor-index l.factors) ≡ rising_above 0 l.factors
