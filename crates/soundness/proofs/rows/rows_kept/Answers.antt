use Rattle.std.proofs.Common.{rules, arith, refl, ◌+◌, ◌*◌, ◌∙◌}
use borrow.Author.Tests.{tests}
use Rattle.std.proofs.lemmas.Iterator.{YieldsList-from_range}
use Rattle.std.proofs.lemmas.Iterator.Search.{all_from_yields_List}
use Rattle.words.specs.Places.{word, rows_at, row_count_at}
use Rattle.words.specs.Contents.{standing_at, standings}
use Rattle.words.specs.Tested.{row_kept}
use Rattle.words.proofs.Ranges.{all_series}
use Rattle.soundness.proofs.rows.rows_kept.Goals as goal

pub returns : goal.returns
unfolding standings
returns c =
    let ws = c.args.ws.now in
    let n = word ws row_count_at in
    all_from_yields_List (λ i. row_kept ws (standing_at ws (rows_at + 6 * i))) _ _ _ c.all.ensures.ran (YieldsList-from_range 0 n n refl (omega arith))
    (λ x b q k. search (rules, tests)) ∙ all_series (row_kept ws) (standing_at ws) 6 rows_at 0 n
