use mathlib.Core.Path.{sym, ap, subst, ◌∙◌}
use Rattle.std.proofs.Common.{Ok}
use Rattle.meaning.specs.Run.{departures}
use Rattle.lines.specs.Put.{Room, Put}
use Rattle.whole_run.proofs.Stepping.{departed_line, no_line}
use Rattle.whole_run.proofs.slots.print_stepped.Goals as goal

pub returns-in_default : goal.returns-in_default
unfolding departures
returns-in_default c =
    let a = c.args in
    no_line a.numbers.now a.answer _ _ (ap (departures a.numbers.now) c.in_default.is)

pub put-requires : goal.put-requires
put-requires c =
    let line = departed_line _ _ _ _ _ _ _ (c.in-Ok.is ∙ ap Ok c.in-Departed.is) c.place_of-place.ensures in
    subst (Room c.args.out.now c.args.at) line c.requires.1

pub returns-in-Departed : goal.returns-in-Departed
returns-in-Departed c =
    let a = c.args in
    let put = c.put in
    let line = departed_line _ _ _ _ _ _ _ (c.in-Ok.is ∙ ap Ok c.in-Departed.is) c.place_of-place.ensures in
    subst (λ l. Put a.out.now put.new.out a.at l put.result) (sym line) put.ensures

pub returns-in-Idle : goal.returns-in-Idle
unfolding departures
returns-in-Idle c =
    let a = c.args in
    no_line a.numbers.now a.answer _ _ (ap (departures a.numbers.now) (c.in-Ok.is ∙ ap Ok c.in-Idle.is))

pub returns-in-Sending : goal.returns-in-Sending
unfolding departures
returns-in-Sending c =
    let a = c.args in
    no_line a.numbers.now a.answer _ _ (ap (departures a.numbers.now) (c.in-Ok.is ∙ ap Ok c.in-Sending.is))
