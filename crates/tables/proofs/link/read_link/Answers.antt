use mathlib.Core.Path.{sym, ap, ◌∙◌}
use Rattle.meaning.specs.declared.Link.{Link}
use Rattle.words.specs.Places.{word, left_at}
use Rattle.tables.proofs.LinkWritten.{link_free, link_busy}
use Rattle.tables.proofs.link.read_link.Goals as goal

pub returns-then-left-eq0 : goal.returns-then-left-eq0
returns-then-left-eq0 c = sym (link_free c.args.ws.now c.if-left-eq0.true)

pub returns : goal.returns
returns c =
    ap (λ p. Link.Carries p (word c.args.ws.now left_at)) c.read_packet.ensures ∙ sym (link_busy c.args.ws.now c.if-left-eq0.false)
