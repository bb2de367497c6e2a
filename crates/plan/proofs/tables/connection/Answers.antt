use Rattle.std.proofs.Common.{◌≡◌, ◌*◌, drop, refl, ap, ◌∙◌, arith}
use Rattle.meaning.specs.Plan.{words_of, connection_at}
use Rattle.plan.proofs.EntryLaws.{connection_local, entry_of_rest}
use Rattle.plan.proofs.tables.connection.Goals as goal

pub returns : goal.returns
unfolding connection_at
returns c =
    let a = c.args in
    let start : 16 * a.i ≡ 4 * (4 * a.i) = omega arith in
    let rest = c.rest-entry.ensures ∙ ap (λ n. drop n a.connections.now) start in
    rw (c.number.ensures, c.number-2.ensures, c.number-3.ensures, c.number-4.ensures) refl ∙
    ap (λ b. connection_at (words_of b) 0) rest ∙
    entry_of_rest connection_at 4 connection_local a.connections.now (4 * a.i)
