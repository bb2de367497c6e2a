use Rattle.std.proofs.Common.{◌≡◌, ℕ, [], length, get_or, arith, rules}
use borrow.Author.Tests.{tests}
use Rattle.std.proofs.lemmas.Iterator.{serves_from_Range, first_from_Range}
use Rattle.words.specs.Contents.{contents}
use Rattle.store.proofs.Loading.{lowest_found}
use Rattle.store.proofs.queues.lowest_tag.Goals as goal

pub find-requires-clause-callable : goal.find-requires-clause-callable
unfolding contents
find-requires-clause-callable c = serves_from_Range (λ x q k. search (rules, tests)) (λ x low high. search rules)

pub returns : goal.returns
returns c =
    let ws = c.args.ws.now in
    let Empty : ℕ → Type 0 = λ k. length (get_or (contents ws).queues k []) ≡ 0 in
    lowest_found ws _ c.find.result (omega arith)
    (first_from_Range _ _ _ c.find.result (λ k. Empty k → ⊥) Empty c.find.ensures.ran (λ x q k. search (rules, tests)) (λ x q k. search (rules, tests)))
