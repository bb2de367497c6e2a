use native.Mathlib.Omega.{arith}
use Rattle.whole_run.proofs.Texts.{too_short, printed_whole}
use Rattle.whole_run.proofs.running.run_plan.Goals as goal

pub returns-then-out-lt-TEXT_ROOM : goal.returns-then-out-lt-TEXT_ROOM
returns-then-out-lt-TEXT_ROOM c = too_short _ _ (omega (arith, c.if-out-lt-TEXT_ROOM.true))

pub returns : goal.returns
returns c =
    printed_whole _ _ _ _ (omega (arith, c.if-out-lt-TEXT_ROOM.false)) c.print_run.ensures
