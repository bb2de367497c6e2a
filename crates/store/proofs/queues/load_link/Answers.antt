use Rattle.std.proofs.Common.{arith}
use Rattle.words.specs.Contents.{contents}
use Rattle.words.proofs.Counts.{sound_fitting}
use Rattle.store.proofs.Loading.{busy_become, idle_become}
use Rattle.store.proofs.queues.load_link.Goals as goal

pub bounds-ws-206 : goal.bounds-ws-206
bounds-ws-206 c = omega (arith, (sound_fitting c.args.ws.now c.requires).enough)

pub returns-then-ws-ne0 : goal.returns-then-ws-ne0
returns-then-ws-ne0 c = busy_become c.args.ws.now (sound_fitting c.args.ws.now c.requires) c.if-ws-ne0.true

pub lowest_tag-requires : goal.lowest_tag-requires
lowest_tag-requires c = sound_fitting c.args.ws.now c.requires

pub returns-in_default : goal.returns-in_default
unfolding contents
returns-in_default c = idle_become c.args.ws.now (sound_fitting c.args.ws.now c.requires) c.if-ws-ne0.false c.in_default.ensures.0
