-- The public calls on words: "1 | the state is not sound" comes first, and changes nothing; on sound words the answer is that of
-- document 01 on their contents, and the words afterwards are those of the contents afterwards.
use Rattle.std.specs.Prelude.{ℕ, suc, ◌≤◌, ◌<◌, ◌≡◌, Bool, true, false, cond, ◌&&◌, List, length, Result, Ok, Err}
use Rattle.meaning.specs.declared.Refusal.{Refusal}
use Rattle.meaning.specs.declared.Stepped.{Stepped}
use Rattle.laws.specs.Tests.{within}
use Rattle.meaning.specs.declared.Connection.{Connection}
use Rattle.meaning.specs.Numbers.{factor, largest_factor, most_waiting, last_slot}
use Rattle.meaning.specs.Queues.{tag_zero_waits}
use Rattle.meaning.specs.Envelope.{conforms}
use Rattle.meaning.specs.Box.{Box, connection, stands, waiting}
use Rattle.meaning.specs.Calls.{allowance, admission_answer, after_admission, offer_answer, after_offer}
use Rattle.meaning.specs.Step.{link_taken, queues_taken, sent_answer, link_sent, turn_due, moved, step_answer, after_step}
use Rattle.meaning.specs.declared.Standing.{Standing}
use Rattle.words.specs.Contents.{contents, put}
use Rattle.words.specs.Sound.{sound_words}
use Rattle.words.specs.Changes.{Become}
use Rattle.tables.specs.TableChanges.{with_link}

-- The words of this box where these words were sound; else these words.
unfoldable pub words_after : List ℕ → Box → List ℕ
words_after ws box = cond (sound_words ws) (put box ws) ws

-- The answer to an admission on words, sound or not.
unfoldable pub admission : List ℕ → Connection → Result ℕ Refusal
admission ws c = cond (sound_words ws) (admission_answer (contents ws) c) (Err Refusal.NotSound)

-- The words after an admission.
unfoldable pub words_admitted : List ℕ → Connection → List ℕ
words_admitted ws c = words_after ws (after_admission (contents ws) c (admission_answer (contents ws) c))

-- The answer to an offer on words, sound or not.
unfoldable pub offering : List ℕ → ℕ → ℕ → Result ℕ Refusal
offering ws n units = cond (sound_words ws) (offer_answer (contents ws) n units) (Err Refusal.NotSound)

-- The words after an offer.
unfoldable pub words_offered : List ℕ → ℕ → ℕ → List ℕ
words_offered ws n units = words_after ws (after_offer (contents ws) n units (offer_answer (contents ws) n units))

-- The answer to a step on words, sound or not.
unfoldable pub stepping : List ℕ → Result Stepped Refusal
stepping ws = cond (sound_words ws) (step_answer (contents ws)) (Err Refusal.NotSound)

-- The words after a step.
unfoldable pub words_stepped : List ℕ → List ℕ
words_stepped ws = words_after ws (after_step (contents ws) (step_answer (contents ws)))

-- The words after a call that leaves this box: they are its words, they are sound, and they stand for it.
pub record Leaves (ws after : List ℕ) (box : Box) : Type 0 where
  pub words_are : after ≡ put box ws
  pub still_sound : sound_words after ≡ true
  pub stand_for : contents after ≡ box

-- "the step would turn the queues while tag 0 still has a waiting packet", once the step has taken one.
abbrev pub turn_blocked : Box → Bool
turn_blocked box = turn_due box && tag_zero_waits (queues_taken box.link box.queues)

-- The answer of a step that is not refused.
abbrev pub sent_now : Box → Stepped
sent_now box = sent_answer (suc box.counter) (link_taken box.link box.queues)

-- Words whose step is not refused.
abbrev pub Movable : List ℕ → Type 0
Movable ws =
    (sound_words ws ≡ true) × (((contents ws).counter < last_slot) × (turn_blocked (contents ws) ≡ false))

-- Their step: the answer, and the words of the moved box.
abbrev pub Moves : List ℕ → Stepped → List ℕ → Type 0
Moves entry r exit = (r ≡ sent_now (contents entry)) × Become entry exit (moved (contents entry))

-- The box once a unit of the packet on the link is sent.
unfoldable pub sent_box : Box → Box
sent_box box = with_link box (link_sent box.link)

-- A unit is sent: the answer, with the departure at this slot, and the words of the box then.
abbrev pub SendsUnit : List ℕ → ℕ → Stepped → List ℕ → Type 0
SendsUnit entry departure r exit =
    (r ≡ sent_answer departure (contents entry).link) × Become entry exit (sent_box (contents entry))

-- The tag of the queue that the packets of this class join, which is at most the largest.
abbrev pub TagOf : Box → ℕ → ℕ → Type 0
TagOf box class r = (r ≡ factor box.settings class) × (r ≤ largest_factor box.settings)

-- A packet that is taken: its connection stands in this row, its length is permitted, it conforms, and there is room for it.
pub record Acceptable (ws : List ℕ) (n units : ℕ) (row : Standing) : Type 0 where
  pub sound_words_lem : sound_words ws ≡ true
  pub number_stands : stands (contents ws) n ≡ true
  pub row_asked : connection (contents ws) n ≡ row.asked
  pub row_allowance : allowance (contents ws) n ≡ row.allowance
  pub permitted : within 1 units row.asked.longest ≡ true
  pub fit : conforms row.asked row.allowance (contents ws).counter ≡ true
  pub room : length (waiting (contents ws)) < most_waiting

-- The box once it is taken.
abbrev pub accepted_box : Box → ℕ → ℕ → Box
accepted_box box n units = after_offer box n units (Ok (suc box.accepted))
