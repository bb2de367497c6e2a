use Rattle.std.proofs.Common.{rules}
use Rattle.words.proofs.Ranges.{contains_within}
use Rattle.words.proofs.TableReads.{packet_parts}
use Rattle.soundness.proofs.packets.packet_kept.Goals as goal

pub returns-then-contains-3 : goal.returns-then-contains-3
returns-then-contains-3 c = search (rules, contains_within, packet_parts)

pub returns-else-contains-3 : goal.returns-else-contains-3
returns-else-contains-3 c = search (rules, contains_within, packet_parts)
