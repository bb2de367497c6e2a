use Rattle.std.proofs.Common.{drop}
use Rattle.lines.specs.Put.{fields}
use Rattle.lines.proofs.Reached.{Reached}
use Rattle.lines.proofs.put_fields.Given as goal

abbrev pub invariant-loop-i : goal.invariant-loop-i
invariant-loop-i l = Reached l.initial.out l.out l.at (fields l.numbers) (fields (drop l.i l.numbers)) l.next
