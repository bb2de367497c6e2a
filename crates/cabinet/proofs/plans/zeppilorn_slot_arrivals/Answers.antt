-- `cabinet::plans::zeppilorn_slot_arrivals` meets its contract.
use Rattle.std.proofs.Common.{◌*◌, ◌≡◌, refl, sym, ap, ap₂, ◌∙◌, [], ◌∷◌, length, arith}
use Rattle.plan.specs.Parts.{stretch_start}
use Rattle.cabinet.specs.Places.{stretch_size}
use Rattle.cabinet.proofs.Stretches.{stretch_lies, first_of_some, first_of_none}
use Rattle.plan.specs.Parts.{arrivals_in, boundary}
use Rattle.cabinet.proofs.plans.zeppilorn_slot_arrivals.Goals as goal

pub returns-then-size-eq0 : goal.returns-then-size-eq0
unfolding stretch_size
returns-then-size-eq0 c =
    let a = c.args in
    let size : length c.stretch-part.result.now ≡ stretch_size a.arrivals.now a.from a.slot = ap length c.stretch-part.ensures in
    let none : stretch_size a.arrivals.now a.from a.slot ≡ 0 = omega (arith, size) in
    (refl, ap₂ (λ first n. first ∷ n ∷ []) (first_of_none a.arrivals.now a.from a.slot none) (sym none))

pub overflow_mul-fields : goal.overflow_mul-fields
unfolding stretch_size stretch_start
overflow_mul-fields c =
    let a = c.args in
    let size : length c.stretch-part.result.now ≡ stretch_size a.arrivals.now a.from a.slot = ap length c.stretch-part.ensures in
    let start : c.first_from-first.result ≡ stretch_start a.arrivals.now a.from a.slot =
    c.first_from-first.ensures ∙ ap (boundary (arrivals_in a.arrivals.now) a.from) c.from.ensures in
    omega (arith, start, stretch_lies a.arrivals.now a.from a.slot (omega (arith, size)))

pub returns : goal.returns
unfolding stretch_size stretch_start
returns c =
    let a = c.args in
    let size : length c.stretch-part.result.now ≡ stretch_size a.arrivals.now a.from a.slot = ap length c.stretch-part.ensures in
    let start : c.first_from-first.result ≡ stretch_start a.arrivals.now a.from a.slot =
    c.first_from-first.ensures ∙ ap (boundary (arrivals_in a.arrivals.now) a.from) c.from.ensures in
    let first = first_of_some a.arrivals.now a.from a.slot (omega (arith, size)) in
    (refl, ap₂ (λ first n. first ∷ n ∷ []) (ap (λ n. 12 * n) start ∙ first) size)
