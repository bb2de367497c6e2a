use Rattle.std.proofs.Common.{rules}
use Rattle.words.specs.Tested.{packet_fits}
use Rattle.soundness.proofs.packets.packet_fits.Goals as goal

pub returns-then-packet_kept : goal.returns-then-packet_kept
unfolding packet_fits
returns-then-packet_kept c = search rules

pub returns-else-packet_kept : goal.returns-else-packet_kept
unfolding packet_fits
returns-else-packet_kept c = search rules
