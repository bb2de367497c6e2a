use mathlib.Core.Path.{◌≡◌, sym, ◌∙◌}
use mathlib.Core.Bool.{true}
use Rattle.std.proofs.Common.{rules}
use Rattle.words.specs.Sound.{sound_words}
use Rattle.multiplexer.proofs.SameCalls.{step_same}
use Rattle.multiplexer.proofs.stepping.step.Goals as goal

pub returns : goal.returns
returns c =
    let e : sound_words c.args.ws.now ≡ true = sym c.is_sound.ensures ∙ c.if-not-is_sound.false in
    let p = step_same c.args.ws.now c.step.new.self.words.now e c.step.result c.step.ensures.promise in
    search (rules, p)
