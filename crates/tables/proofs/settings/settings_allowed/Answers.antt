use Rattle.std.proofs.Common.{rules, length, sym, ◌∙◌}
use mathlib.Core.Bool.{and-false}
use Rattle.laws.specs.Tests.{within_below}
use Rattle.words.proofs.Ranges.{contains_within}
use Rattle.tables.proofs.SettingsParts.{settings_parts}
use Rattle.tables.proofs.settings.settings_allowed.Goals as goal

pub returns-in_default : goal.returns-in_default
returns-in_default c =
    let a = c.args in
    sym (settings_parts a.d a.m a.factors.now ∙ simp (within_below 1 (length a.factors.now) 8 c.in_default.len_below, and-false))

pub returns-then-last-le63 : goal.returns-then-last-le63
returns-then-last-le63 c = search (rules, contains_within, settings_parts)

pub returns-else-last-le63 : goal.returns-else-last-le63
returns-else-last-le63 c = search (rules, contains_within, settings_parts)
