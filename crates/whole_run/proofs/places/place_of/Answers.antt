use Rattle.std.proofs.Common.{◌≡◌, ◌+◌, nat_eq, ◌∙◌, rules, tests}
use Rattle.std.specs.Option.{option_map, unwrap_or}
use Rattle.std.proofs.lemmas.Iterator.{YieldsList-from_slice}
use Rattle.std.proofs.lemmas.Iterator.Search.{position_from_yields_List}
use Rattle.whole_run.proofs.Lookups.{place_is}
use Rattle.whole_run.proofs.places.place_of.Goals as goal

pub returns : goal.returns
returns c =
    let a = c.args in
    let first = c.position in
    let mapped : c.map_or.result ≡ unwrap_or (option_map (λ i. i + 1) first.result) 0 = search rules in
    mapped ∙ place_is a.numbers.now a.n first.result
    (position_from_yields_List (λ m. nat_eq m a.n) _ _ first.result first.ensures.ran
    (YieldsList-from_slice a.numbers.now c.iter.ensures.rest) (λ x b q k. search (rules, tests)))
