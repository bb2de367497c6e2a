use Rattle.meaning.specs.Step.{queues_taken}
use Rattle.meaning.specs.Queues.{tag_zero_waits}
use lib.Dec.{ltb}
use Rattle.store.proofs.QueueLaws.{zero_waits_taken, zero_waits}
use Rattle.tables.proofs.LinkWritten.{link_free, link_busy}
use Rattle.words.specs.Contents.{contents}
use mathlib.Core.Path.{sym, ap, ◌∙◌}
use Rattle.store.proofs.queues.tag_zero_waits.Goals as goal

pub returns-then-ws-eq0 : goal.returns-then-ws-eq0
unfolding queues_taken
returns-then-ws-eq0 c =
    let ws = c.args.ws.now in
    ap (ltb 1) c.waiting_at-count.ensures ∙ sym (zero_waits_taken (contents ws).queues) ∙
    sym (ap (λ l. tag_zero_waits (queues_taken l (contents ws).queues)) (link_free ws c.if-ws-eq0.true))

pub returns : goal.returns
unfolding queues_taken
returns c =
    let ws = c.args.ws.now in
    ap (ltb 0) c.waiting_at-count.ensures ∙ sym (zero_waits (contents ws).queues) ∙
    sym (ap (λ l. tag_zero_waits (queues_taken l (contents ws).queues)) (link_busy ws c.if-ws-eq0.false))
