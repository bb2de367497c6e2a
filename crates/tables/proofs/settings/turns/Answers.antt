use Rattle.std.proofs.Common.{arith, refl}
use Rattle.words.specs.Places.{counter_at}
use Rattle.words.specs.Contents.{turns_at}
use Rattle.tables.proofs.settings.turns.Goals as goal

pub returns : goal.returns
unfolding turns_at
returns c = (refl, omega (arith, (c.type_inv.ws counter_at).fits))
