-- Where the stretch of a slot lies in the arrival table that the caller lends: C is handed a place, not a part.
use Rattle.std.specs.Prelude.{ℕ, ◌*◌, cond, List, length, eqb}
use Rattle.plan.specs.Parts.{stretch_start, stretch_of}

-- Its size in bytes.
unfoldable pub stretch_size : List ℕ → ℕ → ℕ → ℕ
stretch_size bytes from slot = length (stretch_of bytes from slot)

-- Its first byte; 0 where it is empty.
unfoldable pub stretch_first : List ℕ → ℕ → ℕ → ℕ
stretch_first bytes from slot = cond (eqb (stretch_size bytes from slot) 0) 0 (12 * stretch_start bytes from slot)
