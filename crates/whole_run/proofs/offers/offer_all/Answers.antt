use mathlib.Core.Path.{◌≡◌, ap, subst, ◌∙◌}
use native.Mathlib.Omega.{arith}
use Rattle.meaning.specs.Answers.{told, offered}
use Rattle.meaning.specs.Calls.{offer_answer, after_offer}
use Rattle.meaning.specs.Run.{number_of}
use Rattle.words.specs.Contents.{contents}
use Rattle.multiplexer.specs.Promised.{Leaves}
use Rattle.answers.proofs.Tells.{told_number, told_field}
use Rattle.whole_run.proofs.Offering.{offer_start, offer_room, offer_on, offer_end}
use Rattle.whole_run.proofs.offers.offer_all.Goals as goal
use Rattle.std.proofs.Common.{ℕ, Result}
use Rattle.meaning.specs.declared.Refusal.{Refusal}

pub loop-i-init : goal.loop-i-init
loop-i-init c = offer_start _ _ _ _ _ _

pub overflow_cast-place : goal.overflow_cast-place
overflow_cast-place c =
    omega (arith, c.loop-i-test.true, c.requires.most)

pub put-at-requires : goal.put-at-requires
put-at-requires c =
    let loop = c.loop-i in
    let below = c.loop-i-test.true in
    let read = c.arrival-a in
    let answer : c.tell_offered.result ≡
    told (offered (offer_answer (contents c.loop-i.state.words.now) (number_of c.args.numbers.now c.arrival-a.result.place) c.arrival-a.result.units)) =
    c.tell_offered.ensures ∙ ap (λ (a : Result ℕ Refusal). told (offered a))
    (c.offer.ensures.promise.0 ∙ ap (λ (n : ℕ). offer_answer (contents c.loop-i.state.words.now) n c.arrival-a.result.units) c.number_of.ensures) in
    offer_room c.args.numbers.now c.args.due.now c.args.from loop.i _ read.ensures below c.requires.room loop.invariant
    _ _ _ (omega arith) (told_number _ answer) (told_field _ answer 0)

pub loop-i-preserved : goal.loop-i-preserved
loop-i-preserved c =
    let loop = c.loop-i in
    let i = loop.invariant in
    let below = c.loop-i-test.true in
    let read = c.arrival-a in
    let number = c.number_of in
    let offer = c.offer in
    let answer : c.tell_offered.result ≡
    told (offered (offer_answer (contents c.loop-i.state.words.now) (number_of c.args.numbers.now c.arrival-a.result.place) c.arrival-a.result.units)) =
    c.tell_offered.ensures ∙ ap (λ (a : Result ℕ Refusal). told (offered a))
    (c.offer.ensures.promise.0 ∙ ap (λ (n : ℕ). offer_answer (contents c.loop-i.state.words.now) n c.arrival-a.result.units) c.number_of.ensures) in
    let line = c.put-at in
    let box = contents loop.state.words.now in
    let units = read.result.units in
    let left =
    subst (λ (n : ℕ). Leaves loop.state.words.now offer.new.self.words.now (after_offer box n units (offer_answer box n units)))
    number.ensures offer.ensures.promise.1 in
    offer_on c.args.numbers.now c.args.due.now c.args.from loop.i _ read.ensures below c.requires.room i
    _ _ _ (omega arith) (told_number _ answer) (told_field _ answer 0) _ left line.ensures

pub returns : goal.returns
returns c =
    offer_end _ _ _ (omega arith) c.loop-i.invariant
