use Rattle.std.proofs.Common.{◌≡◌, ◌≤◌, ◌+◌, ◌*◌, ◌-◌, ◌∙◌, ap, arith}
use Rattle.words.proofs.TableReads.{lengths_most}
use Rattle.words.specs.Places.{word, place_of, lengths_below, lengths_at, packets_at}
use Rattle.words.specs.Contents.{contents, turns_at}
use Rattle.store.proofs.Moving.{moved_down}
use Rattle.store.proofs.JoinTake.{behead_become}
use Rattle.store.proofs.queues.behead.Goals as goal

pub place_of-place-requires : goal.place_of-place-requires
unfolding contents
place_of-place-requires c = (c.requires.0, omega (arith, c.requires.0.largest, c.requires.1))

pub copy_within-requires-clause-start_le_end : goal.copy_within-requires-clause-start_le_end
copy_within-requires-clause-start_le_end c =
    let ws = c.args.ws.now in
    let w = ap (λ m. word ws (lengths_at + m)) c.place_of-place.ensures.0 in
    omega (arith, lengths_most ws c.place_of-place.result 64 c.place_of-place.ensures.1, c.requires.2)

pub copy_within-requires-clause-dest_in_bounds : goal.copy_within-requires-clause-dest_in_bounds
copy_within-requires-clause-dest_in_bounds c =
    let ws = c.args.ws.now in
    let w = ap (λ m. word ws (lengths_at + m)) c.place_of-place.ensures.0 in
    omega (arith, c.requires.0.enough, c.requires.0.total, lengths_most ws c.place_of-place.result 64 c.place_of-place.ensures.1, c.requires.2)

pub returns : goal.returns
unfolding contents
returns c =
    let ws = c.args.ws.now in
    let a = c.lengths_below-2 in
    let e = c.lengths_below in
    let P = c.place_of-place in
    let q = P.ensures.0 in
    let small = P.ensures.1 in
    let at = packets_at + 4 * a.result in
    let end = packets_at + 4 * e.result in
    let after = c.copy_within.new.self in
    let w = ap (λ m. word ws (lengths_at + m)) q in
    let room : at + 4 ≤ end = omega (arith, lengths_most ws P.result 64 small, c.requires.2) in
    let down = moved_down ws after at end room c.copy_within.ensures.len c.copy_within.ensures.by_index in
    let v : word after (lengths_at + place_of (turns_at ws) c.args.tag) - 1 + 1 ≡ word after (lengths_at + place_of (turns_at ws) c.args.tag) =
    rw (← q) (omega (arith, c.requires.2, down.below (lengths_at + P.result) (omega arith))) in
    rw q (behead_become ws after c.args.tag c.requires.0 c.requires.1 c.requires.2 at end
    (word after (lengths_at + place_of (turns_at ws) c.args.tag) - 1)
    (ap (λ m. packets_at + 4 * m) a.ensures.0 ∙ ap (λ m. packets_at + 4 * lengths_below ws m) q) (ap (λ m. packets_at + 4 * m) e.ensures.0)
    down v)
