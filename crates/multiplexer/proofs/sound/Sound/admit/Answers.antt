use mathlib.Core.Path.{sym, ap, ◌∙◌}
use native.Mathlib.Omega.{arith}
use Rattle.meaning.specs.declared.Standing.{Standing}
use Rattle.multiplexer.proofs.Admits.{taken}
use Rattle.multiplexer.proofs.sound.Sound.admit.Goals as goal

pub invariant_of-self-2 : goal.invariant_of-self-2
invariant_of-self-2 c =
    let row : Standing = record { asked = c.args.c; allowance = c.fresh.result } in
    let whole = taken c.args.self.now.words.now c.args.c c.args.self.now.sound c.append_row.new.ws c.standing_count-n.result c.cycle.result c.rate.result row
    (ap (λ a. record { asked = c.args.c; allowance = a }) c.fresh.ensures) (sym c.if-not-connection_allowed.false ∙ c.connection_allowed.ensures)
    c.standing_count-n.ensures (omega arith) c.cycle.ensures c.rate.ensures (omega arith) c.in_default.ensures c.append_row.ensures in
    record { sound = whole.1.still_sound }
