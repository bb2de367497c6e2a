-- What the queues give: a packet joins, the lowest head is taken, the queues turn; and the head taken is the least by rank and serial.
use Prim.Native.Nat.{ℕ, zero, suc, ◌+◌, ◌/◌, ◌≤◌, ◌<◌}
use mathlib.Core.Path.{◌≡◌, refl, ◌∙◌, ap}
use mathlib.Core.Bool.{Bool, true, ◌&&◌, and-eq-true_iff}
use mathlib.Core.List.{List, [], ◌∷◌, ◌++◌, map, flatten, Memᴰ}
use mathlib.Core.Logic.{◌⊎◌, inl, inr, ⊎_elim}
use mathlib.Core.Option.{some}
use lib.Dec.{ltb, eqb}
use lib.ListN.{length}
use borrow.Author.Tests.{ltb-true, eqb-true}
use native.Mathlib.Omega.{arith}
use Rattle.laws.specs.Tests.{every, every_at}
use Rattle.laws.specs.Sums.{sum_of, sum_append}
use Rattle.laws.specs.SumLaws.{sum_one}
use Rattle.laws.specs.Putting.{Put, Same, sum_flatten_last}
use Rattle.meaning.specs.Numbers.{rising_above}
use Rattle.meaning.specs.Queues.{join_tail, turned, lowest_head, without_lowest_head}
use Rattle.meaning.specs.declared.Packet.{Packet}
use Rattle.meaning.specs.Box.{Box, rank_in, in_their_queues, serials_rise, sound}
use Rattle.meaning.proofs.Facts.{sound_facts}
use Rattle.meaning.proofs.QueueLaws.{joined_member, turned_member}

module _ {A : Type 0} where
  -- What joins a tail is added to every sum.
  join_sum : (f : A → ℕ) (k : ℕ) (p : A) (qs : List (List A)) → k < length qs
      → sum_of f (flatten (join_tail k p qs)) ≡ f p + sum_of f (flatten qs)
  unfolding join_tail flatten
  join_sum f k p [] h = absurd (omega arith)
  join_sum f zero p (q ∷ qs) h =
      omega (arith, sum_append f (q ++ (p ∷ [])) (flatten qs), sum_append f q (p ∷ []), sum_append f q (flatten qs), sum_one f p)
  join_sum f (suc k) p (q ∷ qs) h =
      omega (arith, join_sum f k p qs (omega arith), sum_append f q (flatten (join_tail k p qs)), sum_append f q (flatten qs))

  -- A packet that joins a tail is put in among those that wait.
  pub join_put : (k : ℕ) (p : A) (qs : List (List A)) → k < length qs → Put p (flatten qs) (flatten (join_tail k p qs))
  join_put k p qs h = record { sums = λ f. join_sum f k p qs h; parts = λ x m. joined_member k p qs m }

  -- The lowest head is a part of every sum.
  head_sum : (f : A → ℕ) (p : A) (qs : List (List A)) → lowest_head qs ≡ some p
      → sum_of f (flatten qs) ≡ f p + sum_of f (flatten (without_lowest_head qs))
  unfolding lowest_head without_lowest_head flatten sum_of
  head_sum f p [] e = absurd (let z : ◌≡◌ {A = ℕ} 0 1 = cc in omega arith)
  head_sum f p ([] ∷ qs) e = head_sum f p qs e
  head_sum f p ((x ∷ q) ∷ qs) e = let z : x ≡ p = cc in let y = ap f z in omega arith

  -- A packet that waits is the lowest head or one of the rest.
  head_parts : (p : A) (qs : List (List A)) → lowest_head qs ≡ some p → (x : A) → Memᴰ x (flatten qs) →
      (x ≡ p) ⊎ Memᴰ x (flatten (without_lowest_head qs))
  unfolding lowest_head without_lowest_head flatten
  head_parts p [] e x m = inr m
  head_parts p ([] ∷ qs) e x m = head_parts p qs e x m
  head_parts p ((y ∷ q) ∷ qs) e x m =
      let z : y ≡ p = cc in
      ⊎_elim (λ (h : x ≡ y). inl (h ∙ z)) inr (mathlib.Core.List.Memᴰ.cases_cons m)

  -- Those that wait are those that wait once the lowest head is taken, with that head put in.
  pub head_put : (p : A) (qs : List (List A)) → lowest_head qs ≡ some p → Put p (flatten (without_lowest_head qs)) (flatten qs)
  head_put p qs e = record { sums = λ f. head_sum f p qs e; parts = head_parts p qs e }

  -- A turn changes no sum.
  turned_sum : (f : A → ℕ) (qs : List (List A)) → sum_of f (flatten (turned qs)) ≡ sum_of f (flatten qs)
  unfolding turned flatten
  turned_sum f [] = refl
  turned_sum f (q ∷ qs) = omega (arith, sum_flatten_last f qs q, sum_append f q (flatten qs))

  -- A turn changes nothing but the tags.
  pub turned_same : (qs : List (List A)) → Same (flatten qs) (flatten (turned qs))
  turned_same qs = record { sums = λ f. turned_sum f qs; parts = λ x m. turned_member qs m }

-- Packet x goes before y: it has the lower rank, or the same rank and the lower serial.
abbrev pub Before : Box → Packet → Packet → Type 0
Before box x y = (rank_in box x < rank_in box y) ⊎ ((rank_in box x ≡ rank_in box y) × (x.serial < y.serial))

-- Every member of a rising list is above the number that it starts from.
rising_member : (low : ℕ) (ns : List ℕ) → rising_above low ns ≡ true → {n : ℕ} → Memᴰ n ns → low < n
unfolding rising_above
rising_member low [] e m = absurd (mathlib.Core.List.Memᴰ.not-nil m)
rising_member low (k ∷ ns) e {n} m =
    let p = (and-eq-true_iff (ltb low k) (rising_above k ns)).0 e in
    let l = ltb-true low k p.0 in
    ⊎_elim (λ (h : n ≡ k). omega arith) (λ (t : Memᴰ n ns). let r = rising_member k ns p.1 t in omega arith)
    (mathlib.Core.List.Memᴰ.cases_cons m)

module _ (box : Box) where
  -- The packets of the queues from a tag on have at least the rank of that tag.
  rank_least : (tag : ℕ) (qs : List (List Packet)) → in_their_queues box tag qs ≡ true → (x : Packet) → Memᴰ x (flatten qs) →
      box.counter / box.settings.interval + tag ≤ rank_in box x
  unfolding in_their_queues flatten
  rank_least tag [] e x m = absurd (mathlib.Core.List.Memᴰ.not-nil m)
  rank_least tag (q ∷ qs) e x m =
      let here : Packet → Bool = λ p. eqb (rank_in box p) (box.counter / box.settings.interval + tag) in
      let h = (and-eq-true_iff (every here q) (in_their_queues box (suc tag) qs)).0 e in
      ⊎_elim (λ (n : Memᴰ x q). let r = eqb-true (rank_in box x)
      (box.counter / box.settings.interval + tag) (every_at here q h.0 n) in omega arith)
      (λ (n : Memᴰ x (flatten qs)). let r = rank_least (suc tag) qs h.1 x n in omega arith)
      (mathlib.Core.List.Memᴰ.append_cases q m)

  -- The lowest head of the queues from a tag on goes before the rest of them.
  head_least : (tag : ℕ) (qs : List (List Packet)) → in_their_queues box tag qs ≡ true →
      every (λ q. rising_above 0 (map (λ p. p.serial) q)) qs ≡ true → (p : Packet) → lowest_head qs ≡ some p →
      (x : Packet) → Memᴰ x (flatten (without_lowest_head qs)) → Before box p x
  unfolding in_their_queues flatten lowest_head without_lowest_head every rising_above
  head_least tag [] e r p s x m = absurd (mathlib.Core.List.Memᴰ.not-nil m)
  head_least tag ([] ∷ qs) e r p s x m = head_least (suc tag) qs e r p s x m
  head_least tag ((y ∷ q) ∷ qs) e r p s x m =
      let here : Packet → Bool = λ p. eqb (rank_in box p) (box.counter / box.settings.interval + tag) in
      let h = (and-eq-true_iff (every here (y ∷ q)) (in_their_queues box (suc tag) qs)).0 e in
      let z : p ≡ y = cc in
      let serials : List ℕ = map (λ (p : Packet). p.serial) q in
      let up = (and-eq-true_iff (ltb 0 y.serial && rising_above y.serial serials)
      (every (λ q. rising_above 0 (map (λ p. p.serial) q)) qs)).0 r in
      let rise = (and-eq-true_iff (ltb 0 y.serial) (rising_above y.serial serials)).0 up.0 in
      let a = eqb-true (rank_in box y) (box.counter / box.settings.interval + tag) (every_at here (y ∷ q) h.0 (mathlib.Core.List.Memᴰ.head refl)) in
      let same_queue : Memᴰ x q → Before box y x =
      λ n. inr (
        let b = eqb-true (rank_in box x)
            (box.counter / box.settings.interval + tag) (every_at here (y ∷ q) h.0 (mathlib.Core.List.Memᴰ.tail n)) in omega arith,
        rising_member y.serial serials rise.1 (mathlib.Core.List.Memᴰ.map (λ (p : Packet). p.serial) n),
      ) in
      let later_queue : Memᴰ x (flatten qs) → Before box y x =
      λ n. inl (let b = rank_least (suc tag) qs h.1 x n in omega arith) in
      rw z (⊎_elim same_queue later_queue (mathlib.Core.List.Memᴰ.append_cases q m))

-- In a sound box the lowest head goes before all others that wait.
pub chosen_goes_first : (box : Box) → sound box ≡ true → (p : Packet) → lowest_head box.queues ≡ some p →
    (x : Packet) → Memᴰ x (flatten (without_lowest_head box.queues)) → Before box p x
unfolding serials_rise
chosen_goes_first box s p e x m =
    let f = sound_facts box s in
    head_least box 0 box.queues f.in_their_queues_lem f.serials_rise_lem p e x m
