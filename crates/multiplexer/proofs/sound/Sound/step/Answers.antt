use mathlib.Core.Path.{sym, ◌∙◌}
use native.Mathlib.Omega.{arith}
use Rattle.multiplexer.proofs.Steps.{at_move}
use Rattle.multiplexer.proofs.sound.Sound.step.Goals as goal

pub invariant_of-self : goal.invariant_of-self
invariant_of-self c =
    let ws = c.args.self.now.words.now in
    let moved = at_move ws c.args.self.now.sound c.move_on.new.ws c.move_on.result (omega arith) (sym c.blocked.ensures ∙ c.if-blocked.false)
    c.move_on.ensures.0 c.move_on.ensures.1 in
    record { sound = moved.1.still_sound }
