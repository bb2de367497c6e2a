-- The part of a plan that a table's offset, its count and the width of an entry tell.
use Rattle.std.proofs.Common.{◌≡◌, ℕ, ◌+◌, ◌-◌, ◌*◌, ◌^◌, ◌<◌, ◌≤◌, min, List, [], length, Option, Some, None, Bor, ⊎_elim, ◌∙◌, arith, mul_comm, le-leb}
use native.Mathlib.Nat.{add-sub_cancel_left}
use borrow.Author.Tests.{lt-leb}
use Rattle.std.specs.Option.{unwrap_or}
use Rattle.std.specs.Slice.{IsGetRangeResult}
use Rattle.meaning.specs.declared.Table.{Table}
use Rattle.plan.specs.Parts.{part_of}

-- What stands between a table's offset and its end, which stays below 2^64, is its part; where nothing stands there, neither does the part.
pub looked_up :
    (bytes : List ℕ) (t : Table) (width end : ℕ) (r : Option (Bor (List ℕ))) (none : Bor (List ℕ)) →
    length bytes < 2 ^ 64 - 1 → t.start < 2 ^ 64 → end ≡ min (min (t.count * width) (2 ^ 64 - 1) + t.start) (2 ^ 64 - 1) →
    IsGetRangeResult bytes t.start end r → none.now ≡ [] → (unwrap_or r none).now ≡ part_of bytes t width
unfolding part_of
looked_up bytes t width end None none short start ends found empty =
    let turned = mul_comm t.count width in
    let over : length bytes < t.start + width * t.count = ⊎_elim (λ a. omega arith) (λ b. omega arith) found.0 in
    empty ∙ rw (lt-leb _ _ over)
looked_up bytes t width end (Some x) none short start ends found empty =
    let turned = mul_comm t.count width in
    let size : end ≡ t.start + width * t.count = omega (arith, found.0.1) in
    let fits : t.start + width * t.count ≤ length bytes = omega (arith, found.0.1) in
    found.0.2 ∙ rw (size, le-leb _ _ fits, add-sub_cancel_left)
