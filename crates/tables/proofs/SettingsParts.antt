-- The test of the settings, as the code makes it.
use Rattle.std.proofs.Common.{ℕ, ◌≡◌, ◌*◌, ◌-◌, ◌&&◌, List, length, get_or, leb}
use mathlib.Core.Bool.{and_assoc}
use Rattle.laws.specs.Tests.{within}
use Rattle.meaning.specs.Numbers.{settings_allowed, interval_allowed, cycle_allowed, classes_allowed, largest_bound_allowed, largest_bound, bound, rising_above, class_count, factor, largest_factor}
use Rattle.tables.specs.Opening.{asked}

-- Settings are allowed exactly if their numbers pass their tests, one after another.
pub settings_parts : (D M : ℕ) (fs : List ℕ)
    → settings_allowed (asked D M fs) ≡ (within 1 D 256 && within 1 M 4096 && within 1 (length fs) 8 && rising_above 0 fs &&
    leb (get_or fs (length fs - 1) 0) 63 && leb (get_or fs (length fs - 1) 0 * D) 1024)
unfolding settings_allowed interval_allowed cycle_allowed classes_allowed largest_bound_allowed class_count largest_factor factor largest_bound bound
settings_parts D M fs = simp and_assoc
