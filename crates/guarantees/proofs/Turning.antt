-- In a run every step is taken until the counter ends: answer 11 is never given, since a packet left in tag 0 at a turn would be late.
use Prim.Native.Nat.{suc, ◌+◌, ◌*◌, ◌/◌, ◌%◌, ◌≤◌, ◌<◌}
use mathlib.Core.Path.{◌≡◌, refl, sym, ◌∙◌, ap}
use mathlib.Core.Bool.{Bool, true, and-eq-true_iff, true≢false}
use mathlib.Core.List.{List, [], ◌∷◌, flatten, Memᴰ}
use mathlib.Core.Logic.{inl}
use lib.Dec.{ltb, eqb}
use borrow.Author.Tests.{leb-true, eqb-true}
use native.Mathlib.Nat.{div-add-mod', lt-div-mul-add}
use native.Mathlib.Omega.{arith}
use Rattle.laws.specs.Tests.{every, every_at}
use Rattle.laws.specs.Turns.{turn_due_lem}
use Rattle.meaning.specs.declared.Refusal.{Refusal}
use Rattle.meaning.specs.declared.Stepped.{Stepped}
use Rattle.meaning.specs.Numbers.{Settings, bound, settings_allowed, last_slot}
use Rattle.meaning.specs.Queues.{turn_at, rank, without_lowest_head, tag_zero_waits}
use Rattle.meaning.specs.declared.Packet.{Packet}
use Rattle.meaning.specs.Box.{Box, connection, waiting, rank_in, in_their_queues}
use Rattle.meaning.specs.Step.{queues_taken, turn_due, step_answer, moved, after_step}
use Rattle.meaning.proofs.Facts.{SettingsFacts, settings_facts, sound_facts}
use Rattle.guarantees.specs.Runs.{Call, due_by, box_of}
use Rattle.guarantees.proofs.Saying.{StepRefused, step_unsound, counter_ended, turn_blocked_lem, StepSays, step_says}
use Rattle.guarantees.proofs.Statements.{every_run_sound, in_the_box_before_bound}
use Rattle.std.proofs.Common.{Result, Ok, Err}
use Rattle.meaning.specs.declared.Link.{Link}

-- A packet that is in tag 0 once the next one is taken waits, and was in tag 0.
left_in_tag_zero : (box : Box) (qs : List (List Packet)) (l : Link) → in_their_queues box 0 qs ≡ true
    → tag_zero_waits (queues_taken l qs) ≡ true →
    (p : Packet) × Memᴰ p (flatten qs) × (rank_in box p ≡ box.counter / box.settings.interval + 0)
unfolding queues_taken tag_zero_waits without_lowest_head in_their_queues flatten
left_in_tag_zero box [] Link.Free e t = absurd (true≢false (sym t))
left_in_tag_zero box [] (Link.Carries x left) e t = absurd (true≢false (sym t))
left_in_tag_zero box ([] ∷ qs) Link.Free e t = absurd (true≢false (sym t))
left_in_tag_zero box ([] ∷ qs) (Link.Carries x left) e t = absurd (true≢false (sym t))
left_in_tag_zero box ((y ∷ []) ∷ qs) Link.Free e t = absurd (true≢false (sym t))
left_in_tag_zero box ((y ∷ p ∷ q) ∷ qs) Link.Free e t =
    let here : Packet → Bool = λ p. eqb (rank_in box p) (box.counter / box.settings.interval + 0) in
    let h = (and-eq-true_iff (every here (y ∷ p ∷ q)) (in_their_queues box 1 qs)).0 e in
    (p, Memᴰ.tail (Memᴰ.head refl), eqb-true _ _ (every_at here (y ∷ p ∷ q) h.0 (Memᴰ.tail (Memᴰ.head refl))))
left_in_tag_zero box ((p ∷ q) ∷ qs) (Link.Carries x left) e t =
    let here : Packet → Bool = λ p. eqb (rank_in box p) (box.counter / box.settings.interval + 0) in
    let h = (and-eq-true_iff (every here (p ∷ q)) (in_their_queues box 1 qs)).0 e in
    (p, Memᴰ.head refl, eqb-true _ _ (every_at here (p ∷ q) h.0 (Memᴰ.head refl)))

-- Such a packet has reached its bound when the turn is due.
tag_zero_is_late : (box : Box) → SettingsFacts box.settings → turn_due box ≡ true → (p : Packet) →
    rank_in box p ≡ box.counter / box.settings.interval + 0 → due_by box p.connection p.arrival ≤ box.counter
unfolding turn_due turn_at rank_in rank due_by bound
tag_zero_is_late box f t p r =
    let d = (and-eq-true_iff (ltb 0 (suc box.counter)) (eqb (suc box.counter % box.settings.interval) 0)).0 t in
    let z : suc box.counter % box.settings.interval ≡ 0 = eqb-true _ _ d.1 in
    let q = turn_due_lem box.settings.interval box.counter f.interval_least z in
    let e = ap (λ n. n * box.settings.interval) q in
    let m = div-add-mod' (suc box.counter) box.settings.interval in
    let s = ap (λ n. n * box.settings.interval) r in
    let a = lt-div-mul-add {a = p.arrival} f.interval_least in
    omega arith

module _ (set : Settings) (allowed : settings_allowed set ≡ true) (calls : List Call) where
  -- Answer 11 is never given in a run.
  pub turn_never_blocked : step_answer (box_of set calls) ≡ Err Refusal.TurnBlocked → ⊥
  turn_never_blocked e = go (rw e at (step_says (box_of set calls)))
    where
      go : StepRefused (box_of set calls) Refusal.TurnBlocked → ⊥
      go (turn_blocked_lem s n d) =
          let box = box_of set calls in
          let t = (and-eq-true_iff (turn_due box) (tag_zero_waits (queues_taken box.link box.queues))).0 d in
          let f = sound_facts box s in
          let p = left_in_tag_zero box box.queues box.link f.in_their_queues_lem t.1 in
          let l = tag_zero_is_late box (settings_facts box.settings f.settings_allowed_lem) t.0 p.0 p.2 in
          let b = in_the_box_before_bound set allowed calls p.0 (inl (unfold waiting in p.1)) in
          omega arith

  -- A step of a run raises the counter until it ends: no other answer refuses it.
  pub step_goes_on : (box_of set calls).counter < last_slot
      → (after_step (box_of set calls) (step_answer (box_of set calls))).counter ≡ suc (box_of set calls).counter
  step_goes_on h = go (step_answer (box_of set calls)) refl (step_says (box_of set calls))
    where
      box : Box
      box = box_of set calls

      go : (a : Result Stepped Refusal) → step_answer box ≡ a → StepSays box a → (after_step box a).counter ≡ suc box.counter
      go (Ok Stepped.Idle) e s = unfold after_step moved in refl
      go (Ok (Stepped.Sending serial left)) e s = unfold after_step moved in refl
      go (Ok (Stepped.Departed serial connection arrival departure)) e s = unfold after_step moved in refl
      go (Err why) e (step_unsound u) = absurd (true≢false (sym (every_run_sound set allowed calls) ∙ u))
      go (Err why) e (counter_ended u n) = absurd (let l = leb-true last_slot box.counter n in omega arith)
      go (Err why) e (turn_blocked_lem u n d) = absurd (turn_never_blocked e)
