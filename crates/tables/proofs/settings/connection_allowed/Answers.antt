use Rattle.std.proofs.Common.{rules}
use Rattle.words.proofs.Ranges.{contains_within}
use Rattle.words.proofs.TableReads.{connection_parts}
use Rattle.tables.proofs.settings.connection_allowed.Goals as goal

pub returns-then-contains-4 : goal.returns-then-contains-4
returns-then-contains-4 c = search (rules, contains_within, connection_parts)

pub returns-else-contains-4 : goal.returns-else-contains-4
returns-else-contains-4 c = search (rules, contains_within, connection_parts)
