-- Document 01, "The program and one whole run": the worked run as a list of calls, and the history that its calls and answers tell.
use mathlib.Core.Path.{◌≡◌, refl}
use mathlib.Core.List.{List, [], ◌∷◌}
use Rattle.meaning.specs.Numbers.{Settings}
use Rattle.meaning.proofs.Computed.{definitions}
use Rattle.guarantees.specs.Runs.{Call, admit, offer, step, reply, after, trace, offer_taken, packet_taken, accepted_in, step_left}
use Rattle.guarantees.specs.Runs.{packet_left, departed_in, accepted_of, departed_of}

-- D = 4, M = 8, factors 1 and 2.
abbrev pub opening : Settings
opening = record { interval = 4; cycle = 8; factors = 1 ∷ 2 ∷ [] }

-- Both connections, the five arrivals at slots 0, 1, 2, 5 and 8, and a step for each slot.
abbrev pub worked_calls : List Call
worked_calls =
    admit (record { class = 1; longest = 1; burst = 1; period = 4 }) ∷
    admit (record { class = 2; longest = 3; burst = 1; period = 8 }) ∷
    offer 2 3 ∷ step ∷
    offer 1 1 ∷ step ∷
    offer 1 1 ∷ step ∷
    step ∷
    step ∷
    offer 1 1 ∷ step ∷
    step ∷
    step ∷
    offer 2 2 ∷ step ∷
    step ∷
    []

-- Four packets are accepted.
pub worked_accepted : accepted_of opening worked_calls ≡
    (record { serial = 1; connection = 2; units = 3; arrival = 0 } ∷
    record { serial = 2; connection = 1; units = 1; arrival = 1 } ∷
    record { serial = 3; connection = 1; units = 1; arrival = 5 } ∷
    record { serial = 4; connection = 2; units = 2; arrival = 8 } ∷
    [])
unfolding definitions reply after trace offer_taken packet_taken accepted_in
worked_accepted = refl

-- They depart at slots 3, 4, 6 and 10.
pub worked_departed : departed_of opening worked_calls ≡
    (record { serial = 1; connection = 2; arrival = 0; departure = 3 } ∷
    record { serial = 2; connection = 1; arrival = 1; departure = 4 } ∷
    record { serial = 3; connection = 1; arrival = 5; departure = 6 } ∷
    record { serial = 4; connection = 2; arrival = 8; departure = 10 } ∷
    [])
unfolding definitions reply after trace step_left packet_left departed_in
worked_departed = refl
