use mathlib.Core.Path.{◌≡◌, sym, ◌∙◌}
use mathlib.Core.Bool.{true}
use Rattle.std.proofs.Common.{rules}
use Rattle.meaning.specs.declared.Connection.{Connection}
use Rattle.words.specs.Sound.{sound_words}
use Rattle.multiplexer.proofs.SameCalls.{admit_same}
use Rattle.multiplexer.proofs.admitting.admit.Goals as goal

pub returns : goal.returns
returns c =
    let a : Connection = record { class = c.args.class; longest = c.args.longest; burst = c.args.burst; period = c.args.period } in
    let e : sound_words c.args.ws.now ≡ true = sym c.is_sound.ensures ∙ c.if-not-is_sound.false in
    let p = admit_same c.args.ws.now c.admit.new.self.words.now e a c.admit.result c.admit.ensures.promise in
    search (rules, p)
