use Rattle.std.proofs.Common.{◌≡◌, ◌<◌, ◌^◌, rules, sum, take, drop, ◌∙◌, arith}
use Rattle.words.specs.Places.{lengths_at}
use Rattle.store.proofs.Sums.{lengths_sum, lengths_bound}
use Rattle.store.proofs.lengths.lengths_below.Goals as goal

pub sum-requires-clause-fits : goal.sum-requires-clause-fits
sum-requires-clause-fits c =
    let ws = c.args.ws.now in
    let p = c.args.p in
    let fits : sum (take p (drop lengths_at ws)) < 2 ^ 64 = omega (arith, lengths_sum ws p (omega arith), lengths_bound ws p c.type_inv.ws) in
    search rules

pub returns : goal.returns
returns c =
    let ws = c.args.ws.now in
    let p = c.args.p in
    let e : c.sum.result ≡ sum (take p (drop lengths_at ws)) = search rules in
    let s = e ∙ lengths_sum ws p (omega arith) in
    (s, rw s (lengths_bound ws p c.type_inv.ws))
