use Rattle.std.proofs.Common.{◌≡◌, ◌≤◌, ℕ, List, true, false, length, replicate, length-set, length-append, length-drop, length-take, length-take-le, arith, sym, ap, ◌∙◌}
use borrow.Author.Tests.{lt-ltb, le-ltb}
use Rattle.meaning.specs.Calls.{opening_answer}
use Rattle.meaning.specs.Numbers.{class_count, settings_allowed}
use Rattle.meaning.proofs.Facts.{settings_facts}
use Rattle.words.specs.Places.{packets_at}
use Rattle.tables.specs.Opening.{asked, after_opening, opened}
use Rattle.tables.proofs.NewBox.{opening_writes}
use Rattle.tables.proofs.opening.open.Goals as goal
use Rattle.std.proofs.Common.{Ok}

-- Settings that are allowed have at most 8 factors.
factors_most : (D M : ℕ) (fs : List ℕ) → settings_allowed (asked D M fs) ≡ true → length fs ≤ 8
unfolding class_count
factors_most D M fs e = (settings_facts (asked D M fs) e).classes_most

pub returns-then-not-settings_allowed : goal.returns-then-not-settings_allowed
unfolding opened opening_answer after_opening
returns-then-not-settings_allowed c =
    let a = c.args in
    let e : settings_allowed (asked a.d a.m a.factors.now) ≡ false = sym c.settings_allowed.ensures ∙ c.if-not-settings_allowed.true in
    simp e

pub returns-then-ws-lt-BOX_WORDS : goal.returns-then-ws-lt-BOX_WORDS
unfolding opened opening_answer after_opening
returns-then-ws-lt-BOX_WORDS c =
    let a = c.args in
    let e : settings_allowed (asked a.d a.m a.factors.now) ≡ true = sym c.settings_allowed.ensures ∙ c.if-not-settings_allowed.false in
    simp (e, lt-ltb _ _ c.if-ws-lt-BOX_WORDS.true)

pub slice_bounds-fill-end-2 : goal.slice_bounds-fill-end-2
slice_bounds-fill-end-2 c = sym (length-take-le _ c.args.ws.now (omega arith))

pub overflow_cast-ws : goal.overflow_cast-ws
overflow_cast-ws c =
    let a = c.args in
    record { fits = omega (arith, factors_most a.d a.m a.factors.now (sym c.settings_allowed.ensures ∙ c.if-not-settings_allowed.false)) }

pub write_factors-requires : goal.write_factors-requires
write_factors-requires c =
    let a = c.args in
    let most = factors_most a.d a.m a.factors.now (sym c.settings_allowed.ensures ∙ c.if-not-settings_allowed.false) in
    simp (length-set, length-append, length-drop, c.fill.ensures.len, length-take) (omega arith)

pub returns : goal.returns
unfolding opened opening_answer after_opening
returns c =
    let a = c.args in
    let e : settings_allowed (asked a.d a.m a.factors.now) ≡ true = sym c.settings_allowed.ensures ∙ c.if-not-settings_allowed.false in
    let zeros : c.fill.new.self ≡ replicate packets_at 0 = c.fill.ensures.after (λ y same. same) ∙
    ap (λ k. replicate k 0) (length-take-le packets_at a.ws.now (omega arith)) in
    let w = opening_writes a.d a.m a.factors.now a.ws.now c.fill.new.self (factors_most a.d a.m a.factors.now e) zeros in
    rw c.write_factors.ensures (simp (e, le-ltb _ _ c.if-ws-lt-BOX_WORDS.false) (ap (λ l. (Ok (tt {0}), l)) w))
