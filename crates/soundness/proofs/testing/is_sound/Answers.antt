use Rattle.std.proofs.Common.{◌≡◌, ◌≤◌, ◌&&◌, true, leb, length, rules}
use mathlib.Core.Bool.{and-eq-true_iff}
use borrow.Author.Tests.{leb-true}
use Rattle.words.specs.Places.{word, lengths_below, counter_at, box_words}
use Rattle.words.specs.Tested.{settings_tested, rows_tested, counts_tested, tested}
use Rattle.words.proofs.TableReads.{tables_tested}
use Rattle.words.proofs.TestedSound.{tested_sound}
use Rattle.soundness.proofs.testing.is_sound.Goals as goal

pub link_tested-requires : goal.link_tested-requires
link_tested-requires c =
    let ws = c.args.ws.now in
    let s : settings_tested ws ≡ true = search rules in
    let r : rows_tested ws ≡ true = search rules in
    let l : box_words ≤ length ws = search rules in
    tables_tested ws l s r

pub queues_tested-requires : goal.queues_tested-requires
unfolding counts_tested
queues_tested-requires c =
    let ws = c.args.ws.now in
    let s : settings_tested ws ≡ true = search rules in
    let r : rows_tested ws ≡ true = search rules in
    let l : box_words ≤ length ws = search rules in
    let t : counts_tested ws ≡ true = search rules in
    let n = (and-eq-true_iff (leb (word ws counter_at) 4000000000 && leb (lengths_below ws 64) 1024) _).0 t in
    (tables_tested ws l s r, leb-true (lengths_below ws 64) 1024 ((and-eq-true_iff _ (leb (lengths_below ws 64) 1024)).0 n.0).1)

pub returns-then-link_tested : goal.returns-then-link_tested
unfolding tested
returns-then-link_tested c = let e = tested_sound c.args.ws.now in search rules

pub returns-else-link_tested : goal.returns-else-link_tested
unfolding tested
returns-else-link_tested c = let e = tested_sound c.args.ws.now in search rules
