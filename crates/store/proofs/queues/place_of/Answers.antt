use Rattle.words.specs.Contents.{turns_at}
use Rattle.words.proofs.Rotation.{place_below}
use Rattle.words.specs.Places.{place_of}
use native.Mathlib.Omega.{arith}
use mathlib.Core.Path.{ap}
use Prim.Native.Nat.{◌+◌, ◌%◌}
use Rattle.store.proofs.queues.place_of.Goals as goal

pub returns : goal.returns
unfolding place_of
returns c =
    let ws = c.args.ws.now in
    let e = ap (λ t. (t + c.args.tag) % 64) c.turns.ensures.0 in
    (e, omega (arith, e, place_below (turns_at ws) c.args.tag))
