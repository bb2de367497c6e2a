use Rattle.std.proofs.Common.{◌≤◌, ◌+◌, ◌*◌, ◌∙◌, ap, refl, arith}
use Rattle.words.proofs.TableReads.{lengths_most}
use Rattle.words.specs.Places.{word, place_of, lengths_below, lengths_at, packets_at}
use Rattle.words.specs.Contents.{contents, turns_at}
use Rattle.store.proofs.Shift.{upto_place}
use Rattle.store.proofs.Moving.{moved_up}
use Rattle.store.proofs.JoinTake.{joined_become}
use Rattle.store.proofs.queues.join.Goals as goal

pub place_of-place-requires : goal.place_of-place-requires
unfolding contents
place_of-place-requires c = (c.requires.0, omega (arith, c.requires.0.largest, c.requires.1))

pub copy_within-requires-clause-start_le_end : goal.copy_within-requires-clause-start_le_end
copy_within-requires-clause-start_le_end c = omega (arith, upto_place c.args.ws.now c.place_of-place.result c.place_of-place.ensures.1)

pub copy_within-requires-clause-dest_in_bounds : goal.copy_within-requires-clause-dest_in_bounds
copy_within-requires-clause-dest_in_bounds c =
    omega (arith, c.requires.0.enough, c.requires.2, upto_place c.args.ws.now c.place_of-place.result c.place_of-place.ensures.1)

pub write_packet-requires : goal.write_packet-requires
write_packet-requires c =
    omega (
      arith,
      c.requires.0.enough,
      c.requires.2,
      c.copy_within.ensures.len,
      upto_place c.args.ws.now c.place_of-place.result c.place_of-place.ensures.1,
    )

pub overflow_add-ws-2 : goal.overflow_add-ws-2
overflow_add-ws-2 c =
    let P = c.place_of-place.result in
    let small = c.place_of-place.ensures.1 in
    let same = c.write_packet.ensures.below (lengths_at + P) (omega arith) ∙ c.copy_within.ensures.by_index.1 (lengths_at + P) 0 (omega arith) in
    record { fits = omega (arith, c.requires.2, lengths_most c.args.ws.now P 64 small) }

pub returns : goal.returns
unfolding contents
returns c =
    let ws = c.args.ws.now in
    let a = c.lengths_below-2 in
    let e = c.lengths_below in
    let q = c.place_of-place.ensures.0 in
    let at = packets_at + 4 * a.result in
    let end = packets_at + 4 * e.result in
    let room : at ≤ end = omega (arith, upto_place ws c.place_of-place.result c.place_of-place.ensures.1) in
    let up = moved_up ws c.copy_within.new.self at end room c.copy_within.ensures.len c.copy_within.ensures.by_index in
    rw q (joined_become ws c.copy_within.new.self c.write_packet.new.ws c.args.tag c.args.p c.requires.0 c.requires.1 c.requires.2 at end
    (word c.write_packet.new.ws (lengths_at + place_of (turns_at ws) c.args.tag) + 1)
    (ap (λ m. packets_at + 4 * m) a.ensures.0 ∙ ap (λ m. packets_at + 4 * lengths_below ws (m + 1)) q)
    (ap (λ m. packets_at + 4 * m) e.ensures.0) up c.write_packet.ensures refl)
