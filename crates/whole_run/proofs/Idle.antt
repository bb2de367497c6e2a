-- Idle slots of a run: without an arrival an empty box prints nothing, so the slots before the next arrival may be passed at once.
use Prim.Native.Nat.{ℕ, zero, suc, ◌+◌, ◌-◌, ◌*◌, ◌/◌, ◌≤◌, ◌<◌}
use mathlib.Core.Path.{◌≡◌, refl, sym, ap, ◌∙◌, subst}
use mathlib.Core.Bool.{Bool, true, false, cond}
use mathlib.Core.List.{List, [], ◌∷◌, ◌++◌}
use native.Mathlib.Omega.{arith}
use lib.ListN.{length, get_or, take, drop}
use lib.Dec.{leb, ltb, eqb}
use borrow.Author.Tests.{leb-true, ltb-true, lt-ltb, le-ltb, eqb-true}
use Rattle.laws.specs.Tests.{every_at}
use Rattle.laws.specs.Lists.{Placed, keep, placed_from, get_or_member}
use Rattle.meaning.specs.declared.Stepped.{Stepped}
use Rattle.meaning.specs.Numbers.{last_slot}
use Rattle.meaning.specs.Box.{Box, packets, sound}
use Rattle.meaning.specs.Step.{step_answer, moved}
use Rattle.meaning.specs.declared.Arrival.{Arrival}
use Rattle.meaning.specs.Plan.{words_of, arrival_at, never_falling_from, last_arrival_slot}
use Rattle.meaning.specs.Run.{offer_all, departures, finished}
use Rattle.meaning.specs.Rest.{potential, due_now, rest_of, after_answer}
use Rattle.meaning.proofs.RestOfRun.{rest_goes_on, slot_falls}
use Rattle.words.specs.Contents.{contents}
use Rattle.words.specs.Sound.{sound_words}
use Rattle.words.specs.Changes.{Become}
use Rattle.tables.specs.TableChanges.{with_counter}
use Rattle.words.proofs.TestedSound.{sound_contents}
use Rattle.plan.specs.Parts.{arrivals_in, leading}
use Rattle.plan.proofs.Slots.{slot_together, leading_next}
use Rattle.plan.specs.Parts.{no_arrival}
use Rattle.plan.specs.StretchPlaces.{length_arrivals_in}
use Rattle.plan.proofs.Stretch.{arrival_of_table}
use Rattle.multiplexer.proofs.Sounds.{leaves}
use Rattle.whole_run.specs.Parts.{arrivals_placed, Sorted, Walked, PassesIdle}
use Rattle.whole_run.proofs.Due.{placed_due}
use Rattle.whole_run.proofs.Passing.{not_yet}
use Rattle.whole_run.proofs.EmptyBox.{Empty, empty_box, empty_later, idle_moves, idle_answer, idle_sound}
use Rattle.std.proofs.Common.{Ok}

-- Up to the slot of the first arrival that is not before a limit, no more arrivals are before.
pub leading_still : (limit slot : ℕ) (l : List Arrival) → leading limit l < length l → limit ≤ slot
    → slot ≤ (get_or l (leading limit l) no_arrival).slot
    → leading slot l ≡ leading limit l
unfolding leading
leading_still limit slot [] h a b = absurd (let z = h in omega arith)
leading_still limit slot (x ∷ l) h a b = by (ltb x.slot limit) refl h b (λ k m. leading_still limit slot l k a m)
  where
    by : (t : Bool) → ltb x.slot limit ≡ t → cond t (suc (leading limit l)) 0 < suc (length l)
        → slot ≤ (get_or (x ∷ l) (cond t (suc (leading limit l)) 0) no_arrival).slot
        → (leading limit l < length l → slot ≤ (get_or l (leading limit l) no_arrival).slot → leading slot l ≡ leading limit l)
        → cond (ltb x.slot slot) (suc (leading slot l)) 0 ≡ cond t (suc (leading limit l)) 0
    by true t k m ih =
        let q = ltb-true x.slot limit t in
        rw (lt-ltb x.slot slot (omega (arith, q, a))) (ap suc (ih (omega (arith, k)) m))
    by false t k m ih = rw (le-ltb x.slot slot m) refl

-- Where the next slot has no more before it, none is of this slot.
none_due : (slot : ℕ) (l : List Arrival) → never_falling_from 0 l ≡ true → leading (slot + 1) l ≡ leading slot l
    → keep (λ a. eqb a.entry.slot slot) (placed_from 1 l) ≡ []
unfolding placed_from
none_due slot l e same =
    let k = leading slot l in
    let z : leading (slot + 1) (drop k l) ≡ 0 = omega (arith, leading_next slot l, same) in
    placed_due slot 0 1 l e ∙ ap (placed_from (1 + k)) (slot_together slot 0 l e ∙ ap (λ n. take n (drop k l)) z)

-- An idle slot: the rest of the run is that from the next slot on, and less is left to do.
module _ (l : List (Placed Arrival)) (numbers : List ℕ) (box : Box) (none : due_now l box ≡ []) (on : finished l box ≡ false) where
  -- The box after the offers of these arrivals.
  abbrev offered : List (Placed Arrival) → Box
  offered due = (offer_all numbers due box).box

  -- A slot with an idle step and no arrival prints no line.
  slot_passed : (departed : ℕ) → step_answer box ≡ (Ok Stepped.Idle) → rest_of l numbers box departed ≡ rest_of l numbers (moved box) departed
  unfolding offer_all departures after_answer
  slot_passed departed idle =
      rest_goes_on l numbers box departed on ∙
      ap (λ due. (offer_all numbers due box).lines ++
      (departures numbers (step_answer (offered due)) ++ after_answer l numbers (offered due) departed (step_answer (offered due)))) none ∙
      ap (λ answer. departures numbers answer ++ after_answer l numbers box departed answer) idle

  -- It makes the rest of the run shorter.
  slot_less : potential l (moved box) < potential l box
  unfolding offer_all
  slot_less = subst (λ due. potential l (moved (offered due)) < potential l box) none (slot_falls l numbers box on)

-- What passing idle slots keeps.
pub record Passes (l : List (Placed Arrival)) (box after : Box) : Type 0 where
  pub still_sound : sound after ≡ true
  pub same_rest : (numbers : List ℕ) (departed : ℕ) → rest_of l numbers box departed ≡ rest_of l numbers after departed
  pub no_more : potential l after ≤ potential l box

-- One idle slot more is passed.
passes_one : (l : List (Placed Arrival)) (box now : Box) → Passes l box now → Empty now → now.counter < last_slot → due_now l now ≡ []
    → finished l now ≡ false
    → Passes l box (with_counter now (suc now.counter))
passes_one l box now p e below none on =
    let moves = idle_moves now e in
    let less : potential l (with_counter now (suc now.counter)) < potential l now =
    subst (λ (b : Box). potential l b < potential l now) moves (slot_less l [] now none on) in
    record {
      still_sound = idle_sound now e p.still_sound below;
      same_rest = λ numbers departed.
          p.same_rest numbers departed ∙ slot_passed l numbers now none on departed (idle_answer now e p.still_sound below) ∙
          ap (λ (b : Box). rest_of l numbers b departed) moves;
      no_more = omega (arith, less, p.no_more);
    }

module _ (bytes : List ℕ) (box : Box) (passed : ℕ) (walked : Walked bytes box passed) (remain : passed < length bytes / 12) where
  -- The slot of the next arrival.
  abbrev next : ℕ
  next = (get_or (arrivals_in bytes) passed no_arrival).slot

  -- Up to the slot of the next arrival no more arrivals are passed.
  pub walks : (slot : ℕ) → box.counter ≤ slot → slot ≤ (get_or (arrivals_in bytes) passed no_arrival).slot
      → passed ≡ leading slot (arrivals_in bytes)
  walks slot a b =
      let n = length_arrivals_in bytes in
      walked ∙
      sym (leading_still box.counter slot (arrivals_in bytes) (omega (arith, walked, n, remain)) a
      (subst (λ k. slot ≤ (get_or (arrivals_in bytes) k no_arrival).slot) walked b))

  -- the slots from an empty box on, up to that of the next arrival, are passed one after another
  module _ (sorted : Sorted bytes) (s : sound box ≡ true) (e : Empty box) where
    -- The slot of the next arrival is at most 1,000,000.
    next_most : next ≤ last_arrival_slot
    next_most =
        let n = length_arrivals_in bytes in
        leb-true next last_arrival_slot
        (every_at (λ (a : Arrival). leb a.slot last_arrival_slot) (arrivals_in bytes) sorted.none_exceeds
        (get_or_member (arrivals_in bytes) passed no_arrival (omega (arith, n, remain))))

    -- From an empty box k slots may be passed, as far as the slot of the next arrival.
    passes : (k : ℕ) → box.counter + k ≤ next → Passes (arrivals_placed bytes) box (with_counter box (box.counter + k))
    unfolding with_counter
    passes zero h =
        let z : box.counter ≡ box.counter + 0 = omega arith in
        subst (λ n. Passes (arrivals_placed bytes) box (with_counter box n)) z
        (record { still_sound = s; same_rest = λ numbers departed. refl; no_more = omega arith })
    passes (suc k) h =
        let slot = box.counter + k in
        let z : suc slot ≡ box.counter + suc k = omega arith in
        let same : leading (slot + 1) (arrivals_in bytes) ≡ leading slot (arrivals_in bytes) =
        sym (walks (slot + 1) (omega arith) (omega (arith, h))) ∙ walks slot (omega arith) (omega (arith, h)) in
        subst (λ n. Passes (arrivals_placed bytes) box (with_counter box n)) z
        (passes_one (arrivals_placed bytes) box (with_counter box slot) (passes k (omega (arith, h))) (empty_later box slot e)
        (omega (arith, h, next_most))
        (none_due slot (arrivals_in bytes) sorted.never_falling same)
        (sym (not_yet bytes (with_counter box slot) passed (walks slot (omega arith) (omega (arith, h))) remain)))

-- Words that stay as they are pass no slot.
pub stays : (bytes : List ℕ) (passed : ℕ) (ws : List ℕ) → Walked bytes (contents ws) passed
    → PassesIdle bytes passed (contents ws) ws
stays bytes passed ws w =
    record { walked = w; later = omega arith; same_rest = λ numbers departed. refl; no_more = omega arith }

-- The entry of that number tells the slot of the next arrival.
next_is : (bytes : List ℕ) (passed : ℕ) (a : Arrival) → passed < length bytes / 12 → a ≡ arrival_at (words_of bytes) (3 * passed)
    → a.slot ≡ (get_or (arrivals_in bytes) passed no_arrival).slot
next_is bytes passed a h e = ap (λ (x : Arrival). x.slot) (e ∙ arrival_of_table bytes passed h)

-- The words with the counter raised to that slot stand for the box that passed the slots before it.
module _ (bytes : List ℕ) (passed : ℕ) (ws after : List ℕ) (s : sound_words ws ≡ true) (walked : Walked bytes (contents ws) passed)
    (sorted : Sorted bytes) (a : Arrival) (remain : passed < length bytes / 12) (read : a ≡ arrival_at (words_of bytes) (3 * passed))
  where
    -- setting the counter of an empty box to that slot
    module _ (above : (contents ws).counter < a.slot) (none : eqb (length (packets (contents ws))) 0 ≡ true)
        (become : Become ws after (with_counter (contents ws) a.slot))
      where
        -- The slots before it are passed.
        passed_to : Passes (arrivals_placed bytes) (contents ws) (with_counter (contents ws) a.slot)
        passed_to =
            let box = contents ws in
            let n = next_is bytes passed a remain read in
            let e = empty_box box (eqb-true _ _ none) in
            let distance : box.counter + (a.slot - box.counter) ≡ a.slot = omega (arith, above) in
            subst (λ k. Passes (arrivals_placed bytes) box (with_counter box k)) distance
            (passes bytes box passed walked remain sorted (sound_contents ws s) e (a.slot - box.counter) (omega (arith, n, distance)))

        -- The words stay sound.
        pub idle_stays_sound : sound_words after ≡ true
        idle_stays_sound = (leaves ws after (with_counter (contents ws) a.slot) s passed_to.still_sound become).still_sound

        -- The rest of the run is that from there on.
        pub passes_idle : PassesIdle bytes passed (contents ws) after
        unfolding with_counter
        passes_idle =
            let box = contents ws in
            let slot = a.slot in
            let n = next_is bytes passed a remain read in
            let p = passed_to in
            let is = sym become.stands_for in
            record {
              walked =
                  walks bytes box passed walked remain slot (omega (arith, above)) (omega (arith, n)) ∙
                  ap (λ (b : Box). leading b.counter (arrivals_in bytes)) is;
              later = subst (λ (b : Box). box.counter ≤ b.counter) is (omega (arith, above));
              same_rest =
                  λ numbers departed. p.same_rest numbers departed ∙ ap (λ (b : Box). rest_of (arrivals_placed bytes) numbers b departed) is;
              no_more = subst (λ (b : Box). potential (arrivals_placed bytes) b ≤ potential (arrivals_placed bytes) box) is p.no_more;
            }
