use Rattle.std.proofs.Common.{rules, arith}
use Rattle.words.proofs.Ranges.{zeros_between}
use Rattle.words.specs.Places.{link_at, lengths_at}
use Rattle.words.specs.Contents.{packet_at}
use Rattle.words.specs.Tested.{link_tested}
use Rattle.soundness.proofs.packets.link_tested.Goals as goal

pub returns-then-left-eq0 : goal.returns-then-left-eq0
unfolding link_tested
returns-then-left-eq0 c =
    let z = zeros_between c.args.ws.now link_at lengths_at (omega arith) (omega (arith, c.requires.enough)) in search rules

pub returns-then-packet_kept : goal.returns-then-packet_kept
unfolding link_tested packet_at
returns-then-packet_kept c = search rules

pub returns-else-packet_kept : goal.returns-else-packet_kept
unfolding link_tested
returns-else-packet_kept c = search rules
