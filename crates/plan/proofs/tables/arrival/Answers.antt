use Rattle.std.proofs.Common.{◌≡◌, ◌*◌, drop, refl, ap, ◌∙◌, arith}
use Rattle.meaning.specs.Plan.{words_of, arrival_at}
use Rattle.plan.proofs.EntryLaws.{arrival_local, entry_of_rest}
use Rattle.plan.proofs.tables.arrival.Goals as goal

pub returns : goal.returns
unfolding arrival_at
returns c =
    let a = c.args in
    let start : 12 * a.i ≡ 4 * (3 * a.i) = omega arith in
    let rest = c.rest-entry.ensures ∙ ap (λ n. drop n a.arrivals.now) start in
    rw (c.number.ensures, c.number-2.ensures, c.number-3.ensures) refl ∙
    ap (λ b. arrival_at (words_of b) 0) rest ∙
    entry_of_rest arrival_at 3 arrival_local a.arrivals.now (3 * a.i)
