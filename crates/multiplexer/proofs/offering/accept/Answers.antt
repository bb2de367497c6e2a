use mathlib.Core.Path.{◌≡◌, ap, subst, ◌∙◌}
use native.Mathlib.Numerals.{add-one}
use Prim.Native.Nat.{◌+◌, suc}
use Rattle.meaning.specs.Envelope.{charged as charged_is}
use Rattle.meaning.specs.Queues.{join_tail}
use Rattle.words.specs.Contents.{contents}
use Rattle.words.specs.Changes.{Become}
use Rattle.store.specs.StoreChanges.{with_queues}
use Rattle.multiplexer.proofs.Offers.{packet_is, row_ready, class_within, join_ready, count_ready, accepted_becomes, taken}
use Rattle.multiplexer.proofs.offering.accept.Goals as goal

pub tag_of-tag-requires : goal.tag_of-tag-requires
tag_of-tag-requires c =
    let ws = c.args.ws.now in
    let ok = c.requires in
    (ok.sound_words_lem, class_within ws c.args.n c.args.row ok.sound_words_lem ok.number_stands ok.row_asked ok.row_allowance)

pub charge-requires : goal.charge-requires
charge-requires c =
    let ws = c.args.ws.now in
    let ok = c.requires in
    let row = c.args.row in
    let r = row_ready ws c.args.n row ok.sound_words_lem ok.number_stands ok.row_asked ok.row_allowance in
    rw c.counter-slot.ensures (r, ok.fit)

pub join-requires : goal.join-requires
join-requires c =
    let ws = c.args.ws.now in
    let ok = c.requires in
    let row = c.args.row in
    let n = c.args.n in
    let units = c.args.units in
    let tag = c.tag_of-tag in
    let wrote = c.write_allowance in
    let a = c.charge.new.allowance in
    join_ready ws n units row ok a tag.result wrote.new.ws wrote.ensures tag.ensures.1

pub count_accepted-requires : goal.count_accepted-requires
count_accepted-requires c =
    let ws = c.args.ws.now in
    let ok = c.requires in
    let row = c.args.row in
    let n = c.args.n in
    let units = c.args.units in
    let tag = c.tag_of-tag in
    let wrote = c.write_allowance in
    let a = c.charge.new.allowance in
    let joined = c.join in
    let slot = c.counter-slot in
    let serial = c.accepted-serial in
    let joins = subst (λ p. Become wrote.new.ws joined.new.ws
    (with_queues (contents wrote.new.ws) (join_tail tag.result p (contents wrote.new.ws).queues)))
    (packet_is ws n units serial.result slot.result serial.ensures slot.ensures) joined.ensures in
    count_ready ws n units row ok a tag.result wrote.new.ws wrote.ensures joined.new.ws joins

pub returns : goal.returns
returns c =
    let ws = c.args.ws.now in
    let ok = c.requires in
    let row = c.args.row in
    let n = c.args.n in
    let units = c.args.units in
    let tag = c.tag_of-tag in
    let wrote = c.write_allowance in
    let a = c.charge.new.allowance in
    let joined = c.join in
    let counted = c.count_accepted in
    let slot = c.counter-slot in
    let serial = c.accepted-serial in
    let joins = subst (λ p. Become wrote.new.ws joined.new.ws
    (with_queues (contents wrote.new.ws) (join_tail tag.result p (contents wrote.new.ws).queues)))
    (packet_is ws n units serial.result slot.result serial.ensures slot.ensures) joined.ensures in
    let e : a ≡ charged_is row.asked row.allowance (contents ws).counter =
    c.charge.ensures ∙ ap (charged_is row.asked row.allowance) slot.ensures in
    taken ws n units row ok counted.new.ws (serial.result + 1) (add-one serial.result ∙ ap suc serial.ensures)
    (accepted_becomes ws n units row ok a tag.result wrote.new.ws wrote.ensures joined.new.ws joins e tag.ensures.0
    tag.ensures.1 counted.new.ws counted.ensures)
