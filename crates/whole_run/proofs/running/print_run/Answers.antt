use mathlib.Core.Path.{◌≡◌, sym, ap, subst, ◌∙◌}
use Rattle.meaning.specs.Lines.{line_text, run_text}
use Rattle.plan.proofs.Good.{read_facts}
use Rattle.lines.specs.Put.{Room, Put}
use Rattle.whole_run.proofs.Texts.{text_room, refused_by_reading}
use Rattle.whole_run.proofs.running.print_run.Goals as goal
use Rattle.meaning.specs.declared.Line.{Line}

pub run_read-requires : goal.run_read-requires
run_read-requires c =
    let readable = read_facts _ _ (sym c.read.ensures ∙ c.in-Ok.is) in
    (readable, text_room c.args.plan.now c.args.out.now c.requires)

pub put-requires : goal.put-requires
put-requires c =
    let text : run_text c.args.plan.now ≡ line_text (Line.Refused c.from.result) =
    refused_by_reading _ _ c.read.ensures _ c.in-Err.is ∙ ap (λ n. line_text (Line.Refused n)) (sym c.from.ensures) in
    subst (Room c.args.out.now 0) text (text_room c.args.plan.now c.args.out.now c.requires)

pub returns-in-Err : goal.returns-in-Err
returns-in-Err c =
    let text : run_text c.args.plan.now ≡ line_text (Line.Refused c.from.result) =
    refused_by_reading _ _ c.read.ensures _ c.in-Err.is ∙ ap (λ n. line_text (Line.Refused n)) (sym c.from.ensures) in
    let a = c.args in
    let line = c.put in
    subst (λ l. Put a.out.now line.new.out 0 l line.result) (sym text) line.ensures
