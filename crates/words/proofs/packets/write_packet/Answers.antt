use Rattle.words.proofs.Storing.{packet_stored}
use Rattle.words.proofs.packets.write_packet.Goals as goal

pub returns : goal.returns
returns c = packet_stored c.args.ws.now c.args.at c.args.p c.requires c.copy_from_slice.ensures.after
