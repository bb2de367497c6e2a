use mathlib.Core.Path.{◌≡◌, sym, ◌∙◌}
use mathlib.Core.Bool.{true}
use Rattle.std.proofs.Common.{rules}
use Rattle.words.specs.Sound.{sound_words}
use Rattle.multiplexer.proofs.SameCalls.{offer_same}
use Rattle.multiplexer.proofs.offering.offer.Goals as goal

pub returns : goal.returns
returns c =
    let e : sound_words c.args.ws.now ≡ true = sym c.is_sound.ensures ∙ c.if-not-is_sound.false in
    let p = offer_same c.args.ws.now c.offer.new.self.words.now e c.args.n c.args.units c.offer.result c.offer.ensures.promise in
    search (rules, p)
