use mathlib.Core.Path.{ap, ap₂, ◌∙◌}
use native.Mathlib.Numerals.{add-one}
use Prim.Native.Nat.{suc}
use Rattle.meaning.specs.Step.{sent_answer}
use Rattle.multiplexer.proofs.Steps.{raise_ready, link_same, whole_step}
use Rattle.multiplexer.proofs.stepping.move_on.Goals as goal

pub raise_counter-requires : goal.raise_counter-requires
raise_counter-requires c =
    let l = c.load_link in
    let u = c.send_unit-answer in
    raise_ready c.args.ws.now l.new.ws u.new.ws l.ensures u.ensures.1 c.requires.1.0 c.requires.1.1

pub returns : goal.returns
returns c =
    let l = c.load_link in
    let u = c.send_unit-answer in
    let w = c.raise_counter in
    let n = c.counter-departure in (
      u.ensures.0 ∙ ap₂ sent_answer (add-one n.result ∙ ap suc n.ensures)
          (link_same c.args.ws.now l.new.ws u.new.ws l.ensures u.ensures.1),
      whole_step c.args.ws.now l.new.ws u.new.ws l.ensures u.ensures.1 w.new.ws w.ensures,
    )
