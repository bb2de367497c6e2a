use Prim.Native.Nat.{◌+◌, ◌*◌, ◌≤◌}
use mathlib.Core.Path.{◌≡◌}
use Rattle.laws.specs.Sums.{sum_of}
use Rattle.admission.proofs.Rows.{rows_to, rate_term}
use Rattle.admission.proofs.Asking.rate.Given as goal

abbrev pub invariant-loop-i : goal.invariant-loop-i
invariant-loop-i l =
    record {
      sum_is : l.sum ≡ l.initial.sum + sum_of (rate_term l.slots) (rows_to l.self.ws.now l.i);
      sum_most : l.sum ≤ 262144 * (l.i + 1);
    }
