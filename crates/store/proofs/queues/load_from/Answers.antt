use mathlib.Core.Path.{ap, ◌∙◌}
use native.Mathlib.Omega.{arith}
use Rattle.words.specs.Contents.{contents, packet_at}
use Rattle.store.proofs.Loading.{head_at, head_facts, loaded_become}
use Rattle.store.proofs.queues.load_from.Goals as goal

pub place_of-requires : goal.place_of-requires
unfolding contents
place_of-requires c =
    let k = head_facts c.args.ws.now c.args.tag c.requires.0 c.requires.1 c.requires.2 in
    (k.fitting, omega (arith, k.fitting.largest, c.requires.2))

pub lengths_below-requires : goal.lengths_below-requires
unfolding contents
lengths_below-requires c =
    let k = head_facts c.args.ws.now c.args.tag c.requires.0 c.requires.1 c.requires.2 in
    (omega (arith, c.place_of.ensures.1), omega (arith, k.fitting.enough))

pub read_packet-head-requires : goal.read_packet-head-requires
unfolding contents
read_packet-head-requires c =
    let ws = c.args.ws.now in
    let place = c.place_of in
    let below = c.lengths_below in
    let k = head_facts ws c.args.tag c.requires.0 c.requires.1 c.requires.2 in
    let a = head_at ws c.args.tag place.result below.result place.ensures.0 below.ensures.0 in
    omega (arith, k.fits)

pub behead-requires : goal.behead-requires
unfolding contents
behead-requires c =
    let k = head_facts c.args.ws.now c.args.tag c.requires.0 c.requires.1 c.requires.2 in
    (k.fitting, c.requires.2, k.waits)

pub write_link-requires : goal.write_link-requires
unfolding contents
write_link-requires c =
    let ws = c.args.ws.now in
    let place = c.place_of in
    let below = c.lengths_below in
    let head = c.read_packet-head in
    let k = head_facts ws c.args.tag c.requires.0 c.requires.1 c.requires.2 in
    let a = head_at ws c.args.tag place.result below.result place.ensures.0 below.ensures.0 in
    let u = ap (λ p. p.units) (head.ensures ∙ ap (packet_at ws) a) in
    (c.behead.ensures.fitting, omega (arith, k.units, u))

pub returns : goal.returns
unfolding contents
returns c =
    let ws = c.args.ws.now in
    let place = c.place_of in
    let below = c.lengths_below in
    let head = c.read_packet-head in
    let cut = c.behead in
    let a = head_at ws c.args.tag place.result below.result place.ensures.0 below.ensures.0 in
    loaded_become ws cut.new.ws c.write_link.new.ws c.args.tag head.result c.requires.0 c.requires.1
    c.requires.2
    c.requires.3 (head.ensures ∙ ap (packet_at ws) a) cut.ensures c.write_link.ensures
