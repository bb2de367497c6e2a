use Rattle.std.proofs.Common.{◌≡◌, ◌+◌, ◌-◌, ◌≤◌, ◌<◌, ℕ, List, length, rules, arith, ap, take, drop, eqb, sym, ◌∙◌, drop-drop}
use Rattle.std.proofs.lemmas.Bool.{lt-leb, le-leb}
use Rattle.std.proofs.lemmas.List.{drop-take, take-take}
use Rattle.std.proofs.lemmas.List.Edits.{length-between}
use Rattle.std.specs.List.{between, IsSplitAt}
use Rattle.laws.specs.Series.{series_take}
use Rattle.laws.specs.Tests.{every}
use Rattle.words.proofs.Ranges.{zeros_between}
use Rattle.words.specs.Sound.{zeros}
use Rattle.words.specs.Places.{word, box_words, interval_at, cycle_at, classes_at, factors_at, row_count_at}
use Rattle.words.specs.Contents.{settings_at}
use Rattle.words.specs.Tested.{settings_tested}
use Rattle.tables.specs.Opening.{asked}
use Rattle.soundness.proofs.settings.settings_tested.Goals as goal

-- There are places for eight factors.
eight_places : (ws : List ℕ) → box_words ≤ length ws → length (between factors_at row_count_at ws) ≡ 8
eight_places ws h = length-between ws factors_at row_count_at (omega arith)

-- What is left of a stretch of m words behind its first n.
rest_of : (ws : List ℕ) (k n m : ℕ) → n ≤ m → drop n (take m (drop k ws)) ≡ between (k + n) (k + m) ws
rest_of ws k n m h =
    (let e : n + (m - n) ≡ m = omega arith in
    let g : k + m - (k + n) ≡ m - n = omega arith in
    ap (λ j. drop n (take j (drop k ws))) (sym e) ∙ drop-take n (m - n) (drop k ws) ∙ ap (take (m - n)) (drop-drop n k ws) ∙
    ap (λ j. take j (drop (k + n) ws)) (sym g))

-- The first factors of their eight places are those of the settings, and the others are not used.
factors_split : (ws fs unused : List ℕ) → box_words ≤ length ws
    → IsSplitAt (between factors_at row_count_at ws) (word ws classes_at) fs unused
    → (word ws classes_at ≤ 8) × (settings_at ws ≡ asked (word ws interval_at) (word ws cycle_at) fs)
    × (every (λ w. eqb w 0) unused ≡ zeros ws (factors_at + word ws classes_at) (row_count_at - (factors_at + word ws classes_at)))
unfolding settings_at
factors_split ws fs unused h s =
    let n = word ws classes_at in
    let few : n ≤ 8 = omega (arith, s.0, eight_places ws h) in (
      few,
      ap (asked (word ws interval_at) (word ws cycle_at)) (series_take ws factors_at n (omega arith) ∙ sym (s.1 ∙ take-take n 8 (drop factors_at ws) few)),
      ap (every (λ w. eqb w 0)) (s.2 ∙ rest_of ws factors_at n 8 few) ∙ zeros_between ws (factors_at + n) row_count_at (omega arith) (omega arith),
    )

pub returns-in_default : goal.returns-in_default
unfolding settings_tested
returns-in_default c =
    let few : 8 < word c.args.ws.now classes_at = omega (arith, c.in_default.ensures.cases, eight_places c.args.ws.now c.requires) in
    let l = lt-leb (word c.args.ws.now classes_at) 8 few in search rules

pub returns-then-settings_allowed : goal.returns-then-settings_allowed
unfolding settings_tested
returns-then-settings_allowed c =
    let s = factors_split c.args.ws.now c.in-Some.factors.now c.in-Some.unused.now c.requires c.in-Some.ensures.cases in
    let l = le-leb (word c.args.ws.now classes_at) 8 s.0 in
    search rules

pub returns-else-settings_allowed : goal.returns-else-settings_allowed
unfolding settings_tested
returns-else-settings_allowed c =
    let s = factors_split c.args.ws.now c.in-Some.factors.now c.in-Some.unused.now c.requires c.in-Some.ensures.cases in
    let l = le-leb (word c.args.ws.now classes_at) 8 s.0 in
    search rules
