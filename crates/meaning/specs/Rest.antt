-- The rest of a run from a box on, as lines, without a bound on its slots: what a program that runs slot after slot prints.
use Rattle.std.specs.Prelude.{ℕ, suc, ◌+◌, ◌-◌, cond, leb, eqb, Result, Ok, Err}
use mathlib.Core.List.{List, [], ◌∷◌, flatten}
use Rattle.laws.specs.Lists.{Placed, keep}
use Rattle.laws.specs.Sums.{sum_of, largest_of}
use Rattle.meaning.specs.declared.Stepped.{Stepped}
use Rattle.meaning.specs.declared.Packet.{Packet}
use Rattle.meaning.specs.declared.Arrival.{Arrival}
use Rattle.meaning.specs.Answers.{refusal_number}
use Rattle.meaning.specs.Box.{Box}
use Rattle.meaning.specs.Step.{moved}
use Rattle.meaning.specs.Run.{phase, slots}
use Rattle.meaning.specs.declared.Refusal.{Refusal}
use Rattle.meaning.specs.declared.Link.{Link}
use Rattle.meaning.specs.declared.Line.{Line}

-- What is left to send of a packet that waits, and one more.
abbrev pub size : Packet → ℕ
size p = suc p.units

-- What is left to send of the packet on the link, and one more.
unfoldable pub link_weight : Link → ℕ
link_weight Link.Free = 0
link_weight (Link.Carries p left) = suc left

-- What is left to send, a packet counting for one unit more.
unfoldable pub weight : Box → ℕ
weight box = sum_of size (flatten box.queues) + link_weight box.link

-- What an arrival brings to send, and one more.
abbrev pub arrival_size : Placed Arrival → ℕ
arrival_size a = suc a.entry.units

-- The sum over the arrivals from a slot on, of what each of them counts for.
unfoldable pub from : (Placed Arrival → ℕ) → ℕ → List (Placed Arrival) → ℕ
from counts slot l = sum_of (λ a. cond (leb slot a.entry.slot) (counts a) 0) l

-- What falls with every slot: the slots up to the last arrival, the arrivals to come and what is left to send.
unfoldable pub potential : List (Placed Arrival) → Box → ℕ
potential l box = suc (largest_of (λ a. a.entry.slot) l) - box.counter + from arrival_size box.counter l + weight box

-- The arrivals of the slot to which the counter points.
abbrev pub due_now : List (Placed Arrival) → Box → List (Placed Arrival)
due_now l box = keep (λ a. eqb a.entry.slot box.counter) l

-- The lines of the rest of a run.
unfoldable pub rest_of : List (Placed Arrival) → List ℕ → Box → ℕ → List Line
rest_of l numbers box departed = slots (suc (potential l box)) (phase l box 0) l numbers box departed

-- After a step's answer: the rest of the run, or the line of a refused step.
unfoldable pub after_answer : List (Placed Arrival) → List ℕ → Box → ℕ → Result Stepped Refusal → List Line
after_answer l numbers box departed (Ok Stepped.Idle) = rest_of l numbers (moved box) departed
after_answer l numbers box departed (Ok (Stepped.Sending serial left)) = rest_of l numbers (moved box) departed
after_answer l numbers box departed (Ok (Stepped.Departed serial connection arrival departure)) =
    rest_of l numbers (moved box) (departed + 1)
after_answer l numbers box departed (Err why) = Line.Stop (refusal_number why) ∷ []
