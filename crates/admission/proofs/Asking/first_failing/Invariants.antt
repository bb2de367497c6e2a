use Prim.Native.Nat.{ℕ, ◌+◌, ◌*◌, ◌-◌, ◌≤◌, ◌<◌, max}
use mathlib.Core.Path.{◌≡◌}
use mathlib.Core.Bool.{true}
use Rattle.laws.specs.Sums.{sum_of, largest_of}
use Rattle.meaning.specs.Admission.{term, condition_at}
use Rattle.words.specs.Contents.{settings_at}
use Rattle.admission.specs.Asking.{with_asked, way_term}
use Rattle.admission.proofs.Rows.{rows_to}
use Rattle.admission.proofs.Asking.first_failing.Given as goal

-- (11) and (12) held at every t passed.
abbrev pub invariant-search : goal.invariant-search
invariant-search l =
    record {
      t_most : l.t ≤ l.end;
      held : (k : ℕ) → k < l.t → condition_at (settings_at l.self.ws.now) (with_asked l.self.ws.now l.self.newcomer) k ≡ true;
    }

abbrev pub decreases-search : goal.decreases-search
decreases-search l = l.end - l.t

-- The sum and the packet in the way are those of the newcomer and of the rows passed.
abbrev pub invariant-loop-i : goal.invariant-loop-i
invariant-loop-i l =
    record {
      sum_is : l.sum ≡ l.initial.sum + sum_of (term (settings_at l.self.ws.now) l.t) (rows_to l.self.ws.now l.i);
      sum_most : l.sum ≤ 400000 * (l.i + 1);
      way_is : l.way ≡ max l.initial.way (largest_of (way_term (settings_at l.self.ws.now) l.t) (rows_to l.self.ws.now l.i));
      way_most : l.way ≤ 64;
    }
