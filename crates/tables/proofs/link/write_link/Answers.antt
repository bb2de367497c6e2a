use mathlib.Core.Path.{sym, subst, ◌∙◌}
use Prim.Native.Nat.{◌≤◌}
use native.Mathlib.Omega.{arith}
use Rattle.words.specs.Contents.{contents, link_of}
use Rattle.words.specs.Changes.{Become}
use Rattle.tables.specs.TableChanges.{with_link, Sendable}
use Rattle.words.proofs.ContentsPut.{link_carries}
use Rattle.tables.proofs.LinkWritten.{all_zero, link_written}
use Rattle.tables.proofs.SmallChanges.{link_become}
use Rattle.tables.proofs.link.write_link.Goals as goal

pub returns-in-Free : goal.returns-in-Free
unfolding link_of
returns-in-Free c =
    let ws = c.args.ws.now in
    let k = c.requires.0 in
    let w = c.write_packet in
    let z = c.default.ensures in
    let p = c.default.result in
    subst (λ l. Become ws w.new.ws (with_link (contents ws) l)) (sym c.in-Free.is)
    (link_become ws w.new.ws 0 p k w.ensures (link_written ws w.new.ws 0 p k w.ensures (λ _. all_zero p z.0 z.1.0 z.1.1.0 z.1.1.1)))

pub returns-in-Carries : goal.returns-in-Carries
returns-in-Carries c =
    let ws = c.args.ws.now in
    let k = c.requires.0 in
    let w = c.write_packet-in-Carries in
    let left = c.in-Carries.left in
    let p = c.in-Carries.packet in
    let some : 1 ≤ left = subst Sendable c.in-Carries.is c.requires.1 in
    subst (λ l. Become ws w.new.ws (with_link (contents ws) l)) (link_carries left p some ∙ sym c.in-Carries.is)
    (link_become ws w.new.ws left p k w.ensures (link_written ws w.new.ws left p k w.ensures (λ z. absurd (omega arith))))
