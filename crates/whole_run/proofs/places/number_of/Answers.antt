use Rattle.std.proofs.Common.{ap, ◌∙◌, le_refl, arith}
use Rattle.std.specs.Option.{unwrap_or}
use Rattle.whole_run.proofs.Lookups.{none_zero, number_there}
use Rattle.whole_run.proofs.places.number_of.Goals as goal

pub returns-in_default : goal.returns-in_default
returns-in_default c = none_zero c.args.numbers.now c.args.place (omega (arith, c.in_default.ensures))

pub returns : goal.returns
returns c =
    let a = c.args in
    c.unwrap_or.ensures ∙
    ap (λ o. unwrap_or o 0) c.copied.ensures ∙
    c.get.ensures.lookup.4 (le_refl _) 0 ∙
    number_there a.numbers.now a.place c.in-Some.i (omega (arith, c.in-Some.ensures))
