use Rattle.std.proofs.Common.{◌+◌, ◌++◌, ◌≡◌, ◌∙◌, ap, arith, length, take, drop, slice_index_or, slice_set}
use native.Mathlib.Numerals.{add-one}
use lib.Seq.{paste, paste-suc, take-length}
use Rattle.words.specs.Places.{factors_at}
use Rattle.tables.proofs.opening.write_factors.Goals as goal

pub loop-i-preserved : goal.loop-i-preserved
loop-i-preserved c =
    let l = c.loop-i in
    let a = c.args in
    let x = slice_index_or a.factors.now l.i 0 in
    rw (add-one l.i) (ap (λ ws. slice_set ws (factors_at + l.i) x) l.invariant ∙
    paste-suc a.ws.now factors_at a.factors.now l.i 0 (omega arith) c.loop-i-test.true)

pub returns : goal.returns
returns c =
    let a = c.args in
    let fs = a.factors.now in
    let e : c.loop-i.i ≡ length fs = omega arith in
    c.loop-i.invariant ∙ ap (λ i. paste a.ws.now factors_at fs i) e ∙
    ap (λ l. take factors_at a.ws.now ++ l ++ drop (factors_at + length fs) a.ws.now) (take-length fs)
