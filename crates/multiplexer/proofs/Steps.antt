-- A step in words: the turn, the unit sent, and the three changes that make one step.
use Prim.Native.Nat.{ℕ, suc, ◌+◌, ◌-◌, ◌%◌, ◌≤◌, ◌<◌}
use mathlib.Core.Path.{◌≡◌, refl, sym, ap, ap₂, ◌∙◌, subst}
use mathlib.Core.Bool.{Bool, true, false, cond, ◌&&◌, true≢false}
use mathlib.Core.List.{List, flatten}
use native.Mathlib.Numerals.{add-one}
use native.Mathlib.Omega.{arith}
use lib.ListN.{length}
use lib.Dec.{eqb}
use borrow.Author.Tests.{le-leb, lt-leb}
use Rattle.meaning.specs.declared.Refusal.{Refusal}
use Rattle.meaning.specs.declared.Stepped.{Stepped}
use Rattle.meaning.specs.Numbers.{last_slot}
use Rattle.meaning.specs.Queues.{turn_at, turned, tag_zero_waits}
use Rattle.meaning.specs.declared.Packet.{Packet}
use Rattle.meaning.specs.Box.{Box, waiting, sound}
use Rattle.meaning.specs.Step.{link_taken, queues_taken, sent_answer, link_sent, turn_due, queues_stepped, moved, step_answer, after_step}
use Rattle.meaning.proofs.Facts.{settings_facts}
use Rattle.meaning.proofs.TagsAndRanks.{turn_test}
use Rattle.meaning.proofs.KeptByStep.{sent_moves, step_keeps_sound}
use Rattle.meaning.proofs.QueueLaws.{turned_length}
use Rattle.words.specs.Places.{word, interval_at, counter_at}
use Rattle.words.specs.Contents.{contents, settings_at}
use Rattle.words.specs.Sound.{Fitting, sound_words}
use Rattle.words.specs.Changes.{Become}
use Rattle.tables.specs.TableChanges.{with_link, raised}
use Rattle.store.specs.StoreChanges.{with_queues, loaded_box}
use Rattle.words.proofs.Becoming.{become_then}
use Rattle.words.proofs.TestedSound.{sound_contents}
use Rattle.multiplexer.specs.Promised.{Leaves, sent_box}
use Rattle.multiplexer.proofs.Sounds.{facts, leaves_same, leaves}
use Rattle.std.proofs.Common.{Result, Ok, Err}
use Rattle.meaning.specs.declared.Link.{Link}

-- The turn, as the code tests it.
pub turn_is : (box : Box) → eqb ((box.counter + 1) % box.settings.interval) 0 ≡ turn_due box
unfolding turn_due
turn_is box = rw (add-one box.counter) (sym (turn_test box.settings.interval box.counter))

-- The interval of sound words is at least 1.
pub interval_positive : (ws : List ℕ) → sound_words ws ≡ true → 1 ≤ (contents ws).settings.interval
interval_positive ws h = (settings_facts (contents ws).settings (facts ws h).settings_allowed_lem).interval_least

-- Where the link is free the answer of the unit sent is idle, and nothing changes.
pub none_sent : (box : Box) (departure : ℕ) → box.link ≡ Link.Free
    → (Stepped.Idle ≡ sent_answer departure box.link) × (box ≡ sent_box box)
unfolding sent_answer sent_box with_link link_sent
none_sent box departure f =
    (sym (ap (sent_answer departure) f), sym (ap (with_link box) (ap link_sent f ∙ sym f)))

-- The unit sent of a packet on the link.
module _ (box : Box) (departure : ℕ) (p : Packet) (left : ℕ) (f : box.link ≡ Link.Carries p left) where
  -- Where one unit is left it is the last: the packet departs, and the link is free.
  pub last_sent : left ≤ 1
      → (Stepped.Departed p.serial p.connection p.arrival departure ≡ sent_answer departure box.link) ×
      (with_link box Link.Free ≡ sent_box box)
  unfolding sent_answer sent_box link_sent
  last_sent h = (
    sym (ap (sent_answer departure) f ∙ rw (le-leb left 1 h) refl),
    sym
        (ap (λ l. with_link box (link_sent l)) f ∙ ap (λ b. with_link box (cond b Link.Free (Link.Carries p (left - 1)))) (le-leb left 1 h)),
  )

  -- Where more are left one is sent: one fewer is left.
  pub one_sent : 1 < left
      → (Stepped.Sending p.serial (left - 1) ≡ sent_answer departure box.link) ×
      (with_link box (Link.Carries p (left - 1)) ≡ sent_box box)
  unfolding sent_answer sent_box link_sent
  one_sent h = (
    sym (ap (sent_answer departure) f ∙ rw (lt-leb left 1 h) refl),
    sym
        (ap (λ l. with_link box (link_sent l)) f ∙ ap (λ b. with_link box (cond b Link.Free (Link.Carries p (left - 1)))) (lt-leb left 1 h)),
  )

-- The word of the counter is the slot counter.
counter_word : (ws : List ℕ) → word ws counter_at ≡ (contents ws).counter
unfolding contents
counter_word ws = refl

-- The word of the interval.
interval_word : (ws : List ℕ) → word ws interval_at ≡ (contents ws).settings.interval
unfolding contents settings_at
interval_word ws = refl

-- Where not both hold and the first does, the second does not.
only_second : (a b : Bool) → (a && b) ≡ false → a ≡ true → b ≡ false
only_second true b e f = e
only_second false b e f = absurd (true≢false (sym f))

-- The three changes of a step.
module _ (ws w₁ w₂ : List ℕ) (loads : Become ws w₁ (loaded_box (contents ws))) (sends : Become w₁ w₂ (sent_box (contents w₁))) where
  -- The box that the words stand for.
  abbrev box : Box
  box = contents ws

  -- The box once the link is loaded and a unit is sent.
  sent_box_lem : contents w₂ ≡ sent_box (loaded_box box)
  sent_box_lem = sends.stands_for ∙ ap sent_box loads.stands_for

  -- The counter is not raised yet.
  pub counter_same : (contents w₂).counter ≡ box.counter
  unfolding sent_box loaded_box with_link with_queues
  counter_same = ap (λ b. b.counter) sent_box_lem

  -- Loading and sending leave D.
  pub interval_same : (contents w₂).settings.interval ≡ box.settings.interval
  unfolding sent_box loaded_box with_link with_queues
  interval_same = ap (λ b. b.settings.interval) sent_box_lem

  -- The queues are those from which the packet was taken.
  pub queues_same : (contents w₂).queues ≡ queues_taken box.link box.queues
  unfolding sent_box loaded_box with_link with_queues
  queues_same = ap (λ b. b.queues) sent_box_lem

  -- The link is the one that was loaded.
  pub link_same : (contents w₁).link ≡ link_taken box.link box.queues
  unfolding loaded_box with_link with_queues
  link_same = ap (λ b. b.link) loads.stands_for

  -- Where the counter is below its end and no turn is blocked, the counter can be raised.
  pub raise_ready : box.counter < last_slot → (turn_due box && tag_zero_waits (queues_taken box.link box.queues)) ≡ false
      → Fitting w₂ × (word w₂ counter_at < 4294967295) ×
      (turn_at (word w₂ interval_at) (suc (word w₂ counter_at)) ≡ true → tag_zero_waits (contents w₂).queues ≡ false)
  unfolding turn_due
  raise_ready l b =
      let c : word w₂ counter_at ≡ box.counter = counter_word w₂ ∙ counter_same in
      let d : word w₂ interval_at ≡ box.settings.interval = interval_word w₂ ∙ interval_same in (
        sends.fitting,
        omega arith,
        λ t. ap tag_zero_waits queues_same ∙
            only_second (turn_at box.settings.interval (suc box.counter)) _ b (sym (ap₂ turn_at d (ap suc c)) ∙ t),
      )

  -- Raising the counter then gives the moved box.
  raised_moved : raised (sent_box (loaded_box box)) ≡ moved box
  unfolding raised sent_box loaded_box with_link with_queues moved queues_stepped turn_due
  raised_moved = refl

  -- Sending a unit leaves the number of waiting packets.
  waiting_sent : length (waiting (loaded_box box)) ≡ length (waiting (sent_box (contents w₁)))
  unfolding waiting sent_box with_link
  waiting_sent = ap (λ b. length (flatten b.queues)) (sym loads.stands_for)

  -- So does raising the counter.
  waiting_raised : length (waiting (sent_box (contents w₁))) ≡ length (waiting (raised (contents w₂)))
  unfolding waiting raised
  waiting_raised =
      ap (λ b. length (flatten b.queues)) (sym sends.stands_for) ∙
      turn (turn_at (contents w₂).settings.interval (suc (contents w₂).counter))
    where
      turn : (due : Bool)
          → length (flatten (contents w₂).queues) ≡ length (flatten (cond due (turned (contents w₂).queues) (contents w₂).queues))
      turn true = sym (turned_length (contents w₂).queues)
      turn false = refl

  -- The three changes one after the other are the step.
  pub whole_step : (w₃ : List ℕ) → Become w₂ w₃ (raised (contents w₂)) → Become ws w₃ (moved box)
  whole_step w₃ raises =
      let a = waiting_sent in
      let b = waiting_raised in
      let two = become_then ws w₁ w₂ (loaded_box box) (sent_box (contents w₁)) loads sends (omega arith) in
      let three = become_then ws w₂ w₃ (sent_box (contents w₁)) (raised (contents w₂)) two raises (omega arith) in
      subst (Become ws w₃) (ap raised sent_box_lem ∙ raised_moved) three

-- The three answers of a step on sound contents.
ended_answer : (b : Box) → sound b ≡ true → last_slot ≤ b.counter → (Err Refusal.CounterEnded) ≡ step_answer b
unfolding step_answer
ended_answer b s l = rw (s, le-leb last_slot b.counter l) refl

-- Where a due turn finds a packet at tag 0, the answer is 11.
blocked_answer : (b : Box) → sound b ≡ true → b.counter < last_slot → (turn_due b && tag_zero_waits (queues_taken b.link b.queues)) ≡ true
    → (Err Refusal.TurnBlocked) ≡ step_answer b
unfolding step_answer
blocked_answer b s l e = rw (s, lt-leb last_slot b.counter l, e) refl

-- The answer of the unit that is sent.
moves_answer : (b : Box) → sound b ≡ true → b.counter < last_slot → (turn_due b && tag_zero_waits (queues_taken b.link b.queues)) ≡ false
    → Ok (sent_answer (suc b.counter) (link_taken b.link b.queues)) ≡ step_answer b
unfolding step_answer
moves_answer b s l e = rw (s, lt-leb last_slot b.counter l, e) refl

-- The answer of a step on sound words, and what it leaves.
module _ (ws : List ℕ) (h : sound_words ws ≡ true) where
  -- The answer of the step.
  abbrev answer : Result Stepped Refusal
  answer = step_answer (contents ws)

  -- A refusal leaves the words as they were.
  refused : (r : Result Stepped Refusal) → r ≡ answer → after_step (contents ws) r ≡ contents ws
      → (r ≡ answer) × Leaves ws ws (after_step (contents ws) answer)
  refused r e same = (e, subst (Leaves ws ws) (sym same ∙ ap (after_step (contents ws)) e) (leaves_same ws h))

  -- The step at the last slot.
  pub at_end : last_slot ≤ (contents ws).counter
      → ((Err Refusal.CounterEnded) ≡ answer) × Leaves ws ws (after_step (contents ws) answer)
  unfolding after_step
  at_end l = refused (Err Refusal.CounterEnded) (ended_answer (contents ws) (sound_contents ws h) l) refl

  -- The step that is blocked.
  pub at_block : (contents ws).counter < last_slot
      → (turn_due (contents ws) && tag_zero_waits (queues_taken (contents ws).link (contents ws).queues)) ≡ true
      → ((Err Refusal.TurnBlocked) ≡ answer) × Leaves ws ws (after_step (contents ws) answer)
  unfolding after_step
  at_block l b = refused (Err Refusal.TurnBlocked) (blocked_answer (contents ws) (sound_contents ws h) l b) refl

  -- Where no turn is blocked, words that become those of the moved box are as promised.
  pub at_move : (after : List ℕ) (r : Stepped) → (contents ws).counter < last_slot
      → (turn_due (contents ws) && tag_zero_waits (queues_taken (contents ws).link (contents ws).queues)) ≡ false
      → r ≡ sent_answer (suc (contents ws).counter) (link_taken (contents ws).link (contents ws).queues)
      → Become ws after (moved (contents ws))
      → (Ok r ≡ answer) × Leaves ws after (after_step (contents ws) answer)
  at_move after r l b e m =
      let s = sound_contents ws h in
      let a : Ok r ≡ answer = ap Ok e ∙ moves_answer (contents ws) s l b in
      let k : after_step (contents ws) answer ≡ moved (contents ws) =
      ap (after_step (contents ws)) (sym (moves_answer (contents ws) s l b)) ∙
      sent_moves (contents ws) (suc (contents ws).counter) (link_taken (contents ws).link (contents ws).queues) in
      (a, leaves ws after (after_step (contents ws) answer) h (step_keeps_sound (contents ws) s) (subst (Become ws after) (sym k) m))
