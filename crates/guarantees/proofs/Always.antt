-- All that holds after every run, together.
use mathlib.Core.Path.{◌≡◌}
use mathlib.Core.Bool.{true}
use mathlib.Core.List.{List, [], ◌∷◌}
use Rattle.meaning.specs.Numbers.{Settings, settings_allowed}
use Rattle.meaning.specs.declared.Packet.{Packet}
use Rattle.meaning.specs.Box.{Box, sound}
use Rattle.meaning.specs.Calls.{new_box}
use Rattle.meaning.proofs.KeepsSound.{admission_keeps_sound, offer_keeps_sound, step_keeps_sound}
use Rattle.guarantees.specs.Runs.{Call, admit, offer, step, after, box_after, Departure, box_of, accepted_of, departed_of}
use Rattle.guarantees.proofs.Moves.{Move, run_keeps}
use Rattle.guarantees.proofs.Known.{Known, known_new, known_moves}
use Rattle.guarantees.proofs.Scheduled.{Scheduled, scheduled_new, scheduled_moves}
use Rattle.guarantees.proofs.Metered.{Metered, metered_new, metered_moves, metered_conforms}
use Rattle.guarantees.proofs.OnTime.{OnTime, on_time_new, on_time_moves}
use Rattle.guarantees.proofs.Once.{Once, once_new, once_moves, Numbered, numbered_new, numbered_moves, Counted, counted_new}
use Rattle.guarantees.proofs.Once.{counted_moves}
use Rattle.guarantees.proofs.Order.{Ordered, ordered_new, ordered_moves}

-- What holds of a box, with H accepted and G departed.
pub record Always (box : Box) (H : List Packet) (G : List Departure) : Type 0 where
  pub known : Known box H
  pub scheduled : Scheduled box H
  pub metered : Metered box H
  pub on_time : OnTime box G
  pub once : Once box H G
  pub numbered : Numbered box H
  pub ordered : Ordered box G
  pub counted : Counted box H

-- Every move keeps it.
always_moves : (box next : Box) (H H' : List Packet) (G G' : List Departure) → Always box H G → Move box H G next H' G' → Always next H' G'
always_moves box next H H' G G' a m =
    let k = known_moves box next H H' G G' a.known m in
    let s = scheduled_moves box next H H' G G' a.known a.scheduled m in
    let r = metered_moves box next H H' G G' a.known a.metered m in
    record {
      known = k;
      scheduled = s;
      metered = r;
      on_time = on_time_moves box next H H' G G' a.known a.on_time k (metered_conforms next H' k r) s m;
      once = once_moves box next H H' G G' a.once m;
      numbered = numbered_moves box next H H' G G' a.numbered m;
      ordered = ordered_moves box next H H' G G' a.known a.ordered m;
      counted = counted_moves box next H H' G G' a.counted m;
    }

-- It holds after every run.
pub always : (set : Settings) → settings_allowed set ≡ true → (calls : List Call)
    → Always (box_of set calls) (accepted_of set calls) (departed_of set calls)
always set e calls =
    run_keeps Always always_moves (new_box set) [] []
    (record {
      known = known_new set e;
      scheduled = scheduled_new set;
      metered = metered_new set;
      on_time = on_time_new set;
      once = once_new set;
      numbered = numbered_new set;
      ordered = ordered_new set;
      counted = counted_new set;
    })
    calls

-- A call on a sound box leaves a sound one.
pub sound_after : (box : Box) (c : Call) → sound box ≡ true → sound (after box c) ≡ true
unfolding after
sound_after box (admit c) s = admission_keeps_sound box c s
sound_after box (offer n units) s = offer_keeps_sound box n units s
sound_after box step s = step_keeps_sound box s

-- A run on a sound box leaves a sound one.
pub sound_along : (box : Box) (calls : List Call) → sound box ≡ true → sound (box_after box calls) ≡ true
unfolding box_after
sound_along box [] s = s
sound_along box (c ∷ calls) s = sound_along (after box c) calls (sound_after box c s)
