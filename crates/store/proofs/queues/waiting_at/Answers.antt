use Rattle.std.proofs.Common.{◌+◌, arith, sym, ap, ◌∙◌}
use Rattle.words.proofs.Same.{waiting_length}
use Rattle.words.specs.Places.{word, lengths_at}
use Rattle.words.specs.Contents.{contents}
use Rattle.store.proofs.queues.waiting_at.Goals as goal

pub place_of-requires : goal.place_of-requires
unfolding contents
place_of-requires c = (c.requires.0, omega (arith, c.requires.0.largest, c.requires.1))

pub returns : goal.returns
unfolding contents
returns c =
    let ws = c.args.ws.now in
    ap (λ p. word ws (lengths_at + p)) c.place_of.ensures.0 ∙ sym (waiting_length ws c.args.tag c.requires.1)
