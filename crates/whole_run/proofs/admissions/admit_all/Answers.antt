use mathlib.Core.Path.{◌≡◌, ap, ◌∙◌}
use native.Mathlib.Omega.{arith}
use Rattle.meaning.specs.Answers.{told, admitted}
use Rattle.meaning.specs.Calls.{admission_answer}
use Rattle.words.specs.Contents.{contents}
use Rattle.answers.proofs.Tells.{told_number, told_field}
use Rattle.whole_run.proofs.Admitting.{admit_start, admit_room, admit_on, admit_end}
use Rattle.whole_run.proofs.admissions.admit_all.Goals as goal
use Rattle.std.proofs.Common.{ℕ, Result}
use Rattle.meaning.specs.declared.Refusal.{Refusal}

pub loop-i-init : goal.loop-i-init
loop-i-init c = admit_start _ _ _ _

pub overflow_cast-place : goal.overflow_cast-place
overflow_cast-place c =
    omega (arith, c.loop-i-test.true, c.requires.most.0, c.requires.most.1)

pub put-at-requires : goal.put-at-requires
put-at-requires c =
    let loop = c.loop-i in
    let below = c.loop-i-test.true in
    let read = c.connection-c in
    let answer : c.tell_admitted.result ≡ told (admitted (admission_answer (contents c.loop-i.state.words.now) c.connection-c.result)) =
    c.tell_admitted.ensures ∙ ap (λ (a : Result ℕ Refusal). told (admitted a)) c.admit.ensures.promise.0 in
    admit_room c.args.table.now loop.i _ read.ensures below c.requires.room loop.invariant _ _ _ (omega arith)
    (told_number _ answer) (told_field _ answer 1)

pub loop-i-preserved : goal.loop-i-preserved
loop-i-preserved c =
    let loop = c.loop-i in
    let i = loop.invariant in
    let below = c.loop-i-test.true in
    let read = c.connection-c in
    let admission = c.admit in
    let answer : c.tell_admitted.result ≡ told (admitted (admission_answer (contents c.loop-i.state.words.now) c.connection-c.result)) =
    c.tell_admitted.ensures ∙ ap (λ (a : Result ℕ Refusal). told (admitted a)) c.admit.ensures.promise.0 in
    let line = c.put-at in
    (admit_on c.args.table.now loop.i _ read.ensures below c.requires.room i _ _ _ (omega arith)
    (told_number _ answer) (told_field _ answer 1) _ _ (omega arith)
    (told_field _ answer 0) admission.ensures.promise.1 line.ensures).0

pub returns : goal.returns
returns c = admit_end _ (omega arith) c.loop-i.invariant
