-- The step of an empty box: it is idle, and only the counter moves.
use Prim.Native.Nat.{ℕ, suc, ◌<◌}
use mathlib.Core.Path.{◌≡◌, refl, sym, ap, ap₂, ◌∙◌}
use mathlib.Core.Bool.{Bool, true, false, cond, ◌&&◌}
use mathlib.Core.List.{List, [], ◌∷◌, ◌++◌, flatten}
use mathlib.Core.Option.{none}
use native.Mathlib.Omega.{arith}
use lib.ListN.{length, length-append}
use lib.Dec.{eqb}
use borrow.Author.Tests.{lt-leb, eqb-true}
use Rattle.meaning.specs.declared.Stepped.{Stepped}
use Rattle.meaning.specs.Numbers.{last_slot}
use Rattle.meaning.specs.Queues.{turned, lowest_head, tag_zero_waits}
use Rattle.meaning.specs.declared.Packet.{Packet}
use Rattle.meaning.specs.Box.{Box, waiting, on_link, packets, sound}
use Rattle.meaning.specs.Step.{loaded, link_taken, queues_taken, sent_answer, link_sent, turn_due, step_answer, queues_stepped, moved, after_step}
use Rattle.meaning.proofs.QueueLaws.{nothing_taken}
use Rattle.meaning.proofs.KeepsSound.{step_keeps_sound}
use Rattle.tables.specs.TableChanges.{with_counter}
use Rattle.std.proofs.Common.{Ok}
use Rattle.meaning.specs.declared.Link.{Link}

-- Queues in which nothing waits.
none_lowest : (qs : List (List Packet)) → length (flatten qs) ≡ 0 → lowest_head qs ≡ none
unfolding flatten lowest_head
none_lowest [] e = refl
none_lowest ([] ∷ qs) e = none_lowest qs e
none_lowest ((p ∷ q) ∷ qs) e = absurd (let z = e in omega arith)

-- Where nothing waits, nothing waits in tag 0.
none_zero : (qs : List (List Packet)) → length (flatten qs) ≡ 0 → tag_zero_waits qs ≡ false
unfolding flatten tag_zero_waits
none_zero [] e = refl
none_zero ([] ∷ qs) e = refl
none_zero ((p ∷ q) ∷ qs) e = absurd (let z = e in omega arith)

-- Where nothing waits, an empty queue at the end is one at the front.
none_last : (qs : List (List Packet)) → length (flatten qs) ≡ 0 → qs ++ ([] ∷ []) ≡ [] ∷ qs
unfolding flatten
none_last [] e = refl
none_last ([] ∷ qs) e = ap (λ (l : List (List Packet)). [] ∷ l) (none_last qs e)
none_last ((p ∷ q) ∷ qs) e = absurd (let z = e in omega arith)

-- Where nothing waits, turning the queues changes nothing.
none_turned : (qs : List (List Packet)) → length (flatten qs) ≡ 0 → turned qs ≡ qs
unfolding flatten turned
none_turned [] e = refl
none_turned ([] ∷ qs) e = none_last qs e
none_turned ((p ∷ q) ∷ qs) e = absurd (let z = e in omega arith)

-- "the box is empty".
pub record Empty (box : Box) : Type 0 where
  pub link_free : box.link ≡ Link.Free
  pub none_wait : length (flatten box.queues) ≡ 0

-- A link with no packet on it is free.
no_packet_lem : (l : Link) → length (on_link l) ≡ 0 → l ≡ Link.Free
unfolding on_link
no_packet_lem Link.Free e = refl
no_packet_lem (Link.Carries p left) e = absurd (let z = e in omega arith)

-- A box with no packet is empty.
pub empty_box : (box : Box) → length (packets box) ≡ 0 → Empty box
unfolding packets waiting
empty_box box e =
    let n = length-append (flatten box.queues) (on_link box.link) in
    record { link_free = no_packet_lem box.link (omega (arith, n, e)); none_wait = omega (arith, n, e) }

-- In a box that tests as empty no packet waits.
pub none_waiting : (box : Box) → eqb (length (packets box)) 0 ≡ true → length (waiting box) ≡ 0
unfolding waiting
none_waiting box e = (empty_box box (eqb-true _ _ e)).none_wait

-- An empty box is empty with any counter.
pub empty_later : (box : Box) (n : ℕ) → Empty box → Empty (with_counter box n)
unfolding with_counter
empty_later box n e = record { link_free = e.link_free; none_wait = e.none_wait }

module _ (box : Box) (e : Empty box) where
  -- The link of an empty box stays free.
  link_stays : link_taken box.link box.queues ≡ Link.Free
  unfolding link_taken loaded
  link_stays = ap (λ l. link_taken l box.queues) e.link_free ∙ ap loaded (none_lowest box.queues e.none_wait)

  -- Its queues stay when it takes nothing.
  queues_stay : queues_taken box.link box.queues ≡ box.queues
  unfolding queues_taken
  queues_stay =
      ap (λ l. queues_taken l box.queues) e.link_free ∙ nothing_taken box.queues (none_lowest box.queues e.none_wait)

  -- No turn of an empty box is blocked.
  not_blocked : (turn_due box && tag_zero_waits (queues_taken box.link box.queues)) ≡ false
  not_blocked = ap (λ b. turn_due box && b) (ap tag_zero_waits queues_stay ∙ none_zero box.queues e.none_wait) ∙ go (turn_due box)
    where
      go : (due : Bool) → (due && false) ≡ false
      go true = refl
      go false = refl

  -- Its queues stay when they are turned.
  stepped_stay : queues_stepped box ≡ box.queues
  unfolding queues_stepped
  stepped_stay =
      ap (λ qs. cond (turn_due box) (turned qs) qs) queues_stay ∙ go (turn_due box)
    where
      go : (due : Bool) → cond due (turned box.queues) box.queues ≡ box.queues
      go true = none_turned box.queues e.none_wait
      go false = refl

  -- The empty box after a step is the box with the next counter.
  pub idle_moves : moved box ≡ with_counter box (suc box.counter)
  unfolding moved with_counter link_sent
  idle_moves =
      ap₂ (λ l qs. record {
        settings = box.settings;
        standing = box.standing;
        counter = suc box.counter;
        accepted = box.accepted;
        link = l;
        queues = qs;
      })
      (ap link_sent link_stays ∙ sym e.link_free) stepped_stay

  module _ (s : sound box ≡ true) (below : box.counter < last_slot) where
    -- A step of an empty, sound box before the last slot is idle.
    pub idle_answer : step_answer box ≡ (Ok Stepped.Idle)
    unfolding step_answer sent_answer
    idle_answer = rw (s, lt-leb last_slot box.counter below, not_blocked, link_stays) refl

    -- It is sound at the next slot.
    pub idle_sound : sound (with_counter box (suc box.counter)) ≡ true
    unfolding after_step
    idle_sound = ap sound (sym (ap (after_step box) idle_answer ∙ idle_moves)) ∙ step_keeps_sound box s
