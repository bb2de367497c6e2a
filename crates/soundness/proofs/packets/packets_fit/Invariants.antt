use Rattle.std.proofs.Common.{◌≡◌, ◌+◌, ◌*◌, ◌-◌}
use Rattle.laws.specs.Series.{series}
use Rattle.words.specs.Tested.{packets_fit}
use Rattle.words.specs.Contents.{contents, packet_at}
use Rattle.soundness.proofs.packets.packets_fit.Given as goal

abbrev pub invariant-loop-i : goal.invariant-loop-i
invariant-loop-i l =
    packets_fit (contents l.ws) l.rank l.before (series (packet_at l.ws) 4 (l.start + 4 * l.i) (l.count - l.i))
    ≡ packets_fit (contents l.ws) l.rank 0 (series (packet_at l.ws) 4 l.start l.count)
