use mathlib.Core.Path.{◌∙◌, sym, subst}
use native.Mathlib.Omega.{arith}
use Rattle.words.specs.Contents.{contents}
use Rattle.words.specs.Changes.{Become}
use Rattle.multiplexer.proofs.Sounds.{become_same}
use Rattle.multiplexer.proofs.Steps.{none_sent, last_sent, one_sent}
use Rattle.multiplexer.proofs.stepping.send_unit.Goals as goal

pub returns-in_default : goal.returns-in_default
returns-in_default c =
    let ws = c.args.ws.now in
    let e = none_sent (contents ws) c.args.departure (sym c.read_link.ensures ∙ c.in_default.is) in
    (e.0, subst (Become ws ws) e.1 (become_same ws c.requires))

pub returns-then-left-le1 : goal.returns-then-left-le1
returns-then-left-le1 c =
    let ws = c.args.ws.now in
    let w = c.write_link in
    let e = last_sent (contents ws) c.args.departure c.in-Carries.packet c.in-Carries.left (sym c.read_link.ensures ∙ c.in-Carries.is) (omega arith) in
    (e.0, subst (Become ws w.new.ws) e.1 w.ensures)

pub returns : goal.returns
returns c =
    let ws = c.args.ws.now in
    let w = c.write_link-2 in
    let e = one_sent (contents ws) c.args.departure c.in-Carries.packet c.in-Carries.left (sym c.read_link.ensures ∙ c.in-Carries.is) (omega arith) in
    (e.0, subst (Become ws w.new.ws) e.1 w.ensures)
