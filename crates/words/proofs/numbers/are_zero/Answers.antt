use Rattle.std.proofs.Common.{rules}
use Rattle.std.proofs.Common.{eqb}
use Rattle.std.proofs.lemmas.Iterator.{YieldsList-from_slice}
use Rattle.std.proofs.lemmas.Iterator.Search.{all_from_yields_List}
use Rattle.std.proofs.lemmas.List.Recursion.{same_from_clauses}
use Rattle.std.specs.List.{list_all}
use borrow.Author.Tests.{tests}
use Rattle.std.proofs.Common.{refl, ◌&&◌, ◌∙◌}
use Rattle.laws.specs.Tests.{every}
use Rattle.words.proofs.numbers.are_zero.Goals as goal

pub returns : goal.returns
unfolding every
returns c =
    all_from_yields_List (λ w. eqb w 0) _ _ _ c.all.ensures.ran (YieldsList-from_slice c.args.words.now cc) (λ x b q k. search (rules, tests)) ∙
    same_from_clauses (list_all (λ w. eqb w 0)) (every (λ w. eqb w 0)) (λ w b. eqb w 0 && b) refl (λ _ _. refl) (λ _ _. refl) c.args.words.now
