use Rattle.std.proofs.Common.{◌≡◌, ◌<◌, ◌+◌, ◌&&◌, ℕ, List, length, get_or, drop, ltb, arith}
use Rattle.std.proofs.lemmas.List.{at_drop_more, at_drop_all}
use Rattle.std.proofs.lemmas.Bool.Decides.{nat_tests}
use Rattle.meaning.specs.Numbers.{rising_above}
use Rattle.tables.proofs.settings.factors_rise.Goals as goal

-- The factors from number i on rise above `low` if this one does, and those behind it rise above it.
rises_next : (low : ℕ) (fs : List ℕ) (i : ℕ) → i < length fs
    → rising_above low (drop i fs) ≡ (ltb low (get_or fs i 0) && rising_above (get_or fs i 0) (drop (i + 1) fs))
unfolding rising_above
rises_next low fs i h = at_drop_more (rising_above low) fs i 0 h

pub returns-then-factor-low : goal.returns-then-factor-low
returns-then-factor-low c =
    let next = rises_next c.loop-factor.low c.args.factors.now c.loop-factor.factor-index c.loop-factor-test.true in
    grind (arith, nat_tests)

pub loop-factor-preserved : goal.loop-factor-preserved
loop-factor-preserved c =
    let next = rises_next c.loop-factor.low c.args.factors.now c.loop-factor.factor-index c.loop-factor-test.true in
    grind (arith, nat_tests)

pub returns : goal.returns
unfolding rising_above
returns c =
    let end = at_drop_all (rising_above c.loop-factor.low) c.args.factors.now c.loop-factor.factor-index c.loop-factor-test.false in
    grind (arith, nat_tests)
