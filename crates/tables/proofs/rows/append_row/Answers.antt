use Rattle.words.specs.Places.{word, row_count_at, rows_at}
use native.Mathlib.Numerals.{add-one}
use Rattle.tables.proofs.RowChanges.{append_become}
use Rattle.std.proofs.Common.{refl}
use Prim.Native.Nat.{◌+◌, ◌*◌}
use Rattle.tables.proofs.rows.append_row.Goals as goal

pub returns : goal.returns
returns c =
    let ws = c.args.ws.now in
    append_become ws c.write_row.new.ws _ (rows_at + 6 * word ws row_count_at)
    (word ws row_count_at + 1) c.requires.0 c.requires.1 refl
    (add-one (word ws row_count_at))
    c.write_row.ensures
