use mathlib.Core.Path.{sym, ap}
use mathlib.Core.Bool.{cond}
use borrow.Author.Tests.{lt-ltb, le-ltb}
use native.Mathlib.Numerals.{add-one}
use Rattle.lines.specs.Put.{byte_after}
use Rattle.lines.proofs.byte_after.Goals as goal

pub returns-then-i-count : goal.returns-then-i-count
unfolding byte_after
returns-then-i-count c = sym (ap (λ b. cond b 32 10) (lt-ltb _ _ (rw add-one at c.if-i-count.true)))

pub returns-else-i-count : goal.returns-else-i-count
unfolding byte_after
returns-else-i-count c = sym (ap (λ b. cond b 32 10) (le-ltb _ _ (rw add-one at c.if-i-count.false)))
