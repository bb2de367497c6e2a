-- Document 01, "Queues and steps", second paragraph: one step, on the contents of a box.
use Rattle.std.specs.Prelude.{ℕ, suc, ◌-◌, Bool, cond, not, ◌&&◌, List, leb, Result, Ok, Err}
use Rattle.std.proofs.Math.Option.{Option, none, some}
use Rattle.meaning.specs.declared.Refusal.{Refusal}
use Rattle.meaning.specs.declared.Stepped.{Stepped}
use Rattle.meaning.specs.Numbers.{last_slot}
use Rattle.meaning.specs.Queues.{turn_at, turned, lowest_head, without_lowest_head, tag_zero_waits}
use Rattle.meaning.specs.declared.Packet.{Packet}
use Rattle.meaning.specs.Box.{Box, sound}
use Rattle.meaning.specs.declared.Link.{Link}

-- A packet that is taken has all its units to send; where there was none the link stays free.
unfoldable pub loaded : Option Packet → Link
loaded none = Link.Free
loaded (some p) = Link.Carries p p.units

-- "if the link is free, take the head of the lowest-tagged queue that has a packet": the link then.
unfoldable pub link_taken : Link → List (List Packet) → Link
link_taken Link.Free qs = loaded (lowest_head qs)
link_taken (Link.Carries p left) qs = Link.Carries p left

-- The queues once the step has taken its packet.
unfoldable pub queues_taken : Link → List (List Packet) → List (List Packet)
queues_taken Link.Free qs = without_lowest_head qs
queues_taken (Link.Carries p left) qs = qs

-- "send one unit; if it was the last, report the departure at now + 1": the answer.
unfoldable pub sent_answer : ℕ → Link → Stepped
sent_answer departure Link.Free = Stepped.Idle
sent_answer departure (Link.Carries p left) =
    cond (leb left 1) (Stepped.Departed p.serial p.connection p.arrival departure) (Stepped.Sending p.serial (left - 1))

-- The link once the unit is sent.
unfoldable pub link_sent : Link → Link
link_sent Link.Free = Link.Free
link_sent (Link.Carries p left) = cond (leb left 1) Link.Free (Link.Carries p (left - 1))

-- "turn the queues if due": at the slot to which the counter is raised.
unfoldable pub turn_due : Box → Bool
turn_due box = turn_at box.settings.interval (suc box.counter)

-- "Step: 1, 12, 11"; "the step would turn the queues while tag 0 still has a waiting packet".
unfoldable pub step_answer : Box → Result Stepped Refusal
step_answer box =
    cond (not (sound box)) (Err Refusal.NotSound)
    (cond (leb last_slot box.counter) (Err Refusal.CounterEnded)
    (cond (turn_due box && tag_zero_waits (queues_taken box.link box.queues)) (Err Refusal.TurnBlocked)
    (Ok (sent_answer (suc box.counter) (link_taken box.link box.queues)))))

-- The queues after the step: turned if due.
unfoldable pub queues_stepped : Box → List (List Packet)
queues_stepped box =
    cond (turn_due box) (turned (queues_taken box.link box.queues)) (queues_taken box.link box.queues)

-- The box once the step is done: a unit is sent and the counter raised.
unfoldable pub moved : Box → Box
moved box =
    record {
      settings = box.settings;
      standing = box.standing;
      counter = suc box.counter;
      accepted = box.accepted;
      link = link_sent (link_taken box.link box.queues);
      queues = queues_stepped box;
    }

-- After a step; a refused one changes nothing.
unfoldable pub after_step : Box → Result Stepped Refusal → Box
after_step box (Ok Stepped.Idle) = moved box
after_step box (Ok (Stepped.Sending serial left)) = moved box
after_step box (Ok (Stepped.Departed serial connection arrival departure)) = moved box
after_step box (Err why) = box
