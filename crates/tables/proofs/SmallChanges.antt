-- What the writers of the small parts write stands for the changed contents.
use Prim.Native.Nat.{ℕ, suc, ◌+◌, ◌*◌, ◌-◌, ◌/◌, ◌%◌, ◌≤◌, ◌<◌}
use mathlib.Core.Path.{◌≡◌, refl, sym, ap, ap₂, ◌∙◌}
use mathlib.Core.Bool.{Bool, true, false, cond, and-eq-true_iff, true≢false}
use mathlib.Core.List.{List, [], ◌∷◌, ◌++◌}
use mathlib.Core.Logic.{⊎_elim}
use native.Mathlib.Omega.{arith}
use native.Mathlib.Decide.{dec_le}
use native.Mathlib.Nat.{div-add-mod', mod-lt}
use lib.Arith.{digits_div, digits_mod}
use lib.ListN.{length, set, length-set}
use lib.Dec.{ltb, eqb}
use borrow.Author.Tests.{eq-eqb, eqb-true, lt-ltb}
use Rattle.laws.specs.Series.{series, series_same, series_last, every_all}
use Rattle.laws.specs.Tests.{bool_cases}
use Rattle.meaning.specs.Numbers.{largest_factor}
use Rattle.meaning.specs.Queues.{turn_at, turned, tag_zero_waits}
use Rattle.meaning.specs.declared.Packet.{Packet}
use Rattle.words.specs.Places.{word, place_of, interval_at, counter_at, accepted_at, left_at, link_at, lengths_at}
use Rattle.words.specs.Contents.{contents, settings_at, link_of, turns_at, queue_at, queues_at}
use Rattle.words.specs.Sound.{link_clear, empty_from, untagged_empty, Fitting}
use Rattle.words.specs.Changes.{Become, PacketPut}
use Rattle.tables.specs.TableChanges.{with_accepted, with_link, raised}
use Rattle.words.proofs.PutContents.{untagged_zero, queue_untagged}
use Rattle.words.proofs.ContentsPut.{length_queue}
use Rattle.words.proofs.Rotation.{place_turned, place_whole}
use Rattle.words.proofs.Storing.{word_other, word_same}
use Rattle.words.proofs.Same.{queue_same, queues_same, untagged_same}
use Rattle.words.proofs.Readings.{counter_word, accepted_word}
use Rattle.words.proofs.TableChange.{Only, stored_only, settings_stay, rows_stay, rows_stay_clear, link_stays, link_stays_clear, far, queues_stay, untagged_stays, table_become}

-- The counter and the count of accepted packets, as the words have them.
counter_is : (ws : List ℕ) → word ws counter_at ≡ (contents ws).counter
counter_is ws = sym (counter_word ws)

-- The count of accepted packets, as the words have it.
accepted_is : (ws : List ℕ) → word ws accepted_at ≡ (contents ws).accepted
accepted_is ws = sym (accepted_word ws)

-- The count of accepted packets changes.
pub accepted_become : (ws : List ℕ) (v : ℕ) → Fitting ws → Become ws (set ws accepted_at v) (with_accepted (contents ws) v)
unfolding with_accepted
accepted_become ws v k =
    (let after = set ws accepted_at v in
    let o = stored_only ws accepted_at v in
    let c : word after counter_at ≡ word ws counter_at = o.kept counter_at (λ p q. omega arith) in
    table_become ws after accepted_at (accepted_at + 1) k o (contents ws).standing (contents ws).counter v (contents ws).link
    (contents ws).queues
    (omega arith) (omega arith) (rows_stay_clear ws after accepted_at (accepted_at + 1) k o (omega arith))
    (link_stays_clear ws after accepted_at (accepted_at + 1) k o (omega arith))
    (untagged_stays ws after accepted_at (accepted_at + 1) k o (omega arith) (omega arith) c)
    (rows_stay ws after accepted_at (accepted_at + 1) k o (omega arith)) (c ∙ counter_is ws)
    (word_same ws accepted_at v accepted_at (omega (arith, k.enough)) refl)
    (link_stays ws after accepted_at (accepted_at + 1) k o (omega arith))
    (queues_stay ws after accepted_at (accepted_at + 1) k o (omega arith) (omega arith) c))

-- A packet written on the link with its units left changes the words of the link alone.
link_only : (ws after : List ℕ) (left : ℕ) (p : Packet) → PacketPut (set ws left_at left) after link_at p → Only ws after left_at lengths_at
link_only ws after left p w =
    record {
      same_length = w.same_length ∙ length-set ws left_at left;
      kept = λ i h.
          elim (dec_le lengths_at i) [
            | yes a ↦ w.above i (omega arith) ∙ word_other ws left_at left i (λ q. omega arith)
            | no a ↦
                (let b : i < left_at = not_within i h (omega arith) in
                w.below i (omega arith) ∙ word_other ws left_at left i (λ q. omega arith))
          ];
    }
  where
    not_within : (i : ℕ) → (left_at ≤ i → i < lengths_at → ⊥) → i < lengths_at → i < left_at
    not_within i h l = elim (dec_le left_at i) [ yes a ↦ absurd (h a l) | no a ↦ omega arith ]

-- A link that is written makes the words those of the box with that link.
pub link_become : (ws after : List ℕ) (left : ℕ) (p : Packet) → Fitting ws → PacketPut (set ws left_at left) after link_at p
    → link_clear after ≡ true
    → Become ws after (with_link (contents ws) (link_of left p))
unfolding with_link
link_become ws after left p k w c =
    (let o = link_only ws after left p w in
    let n : word after counter_at ≡ word ws counter_at = o.kept counter_at (λ x y. omega arith) in
    let l : word after left_at ≡ left = w.below left_at (omega arith) ∙ word_same ws left_at left left_at (omega (arith, k.enough)) refl in
    table_become ws after left_at lengths_at k o (contents ws).standing (contents ws).counter (contents ws).accepted (link_of left p)
    (contents ws).queues
    (omega arith) (omega arith) (rows_stay_clear ws after left_at lengths_at k o (omega arith)) c
    (untagged_stays ws after left_at lengths_at k o (omega arith) (omega arith) n) (rows_stay ws after left_at lengths_at k o (omega arith))
    (n ∙ counter_is ws) (o.kept accepted_at (λ x y. omega arith) ∙ accepted_is ws) (ap₂ link_of l w.packet)
    (queues_stay ws after left_at lengths_at k o (omega arith) (omega arith) n))

-- A slot later floor(now/D) is one more if that slot is a multiple of D.
next_turn : (n D : ℕ) → 1 ≤ D → suc n % D ≡ 0 → suc n / D ≡ suc (n / D)
next_turn n D h e =
    (let q = n / D in
    let r = n % D in
    let a : q * D + r ≡ n = div-add-mod' n D in
    let b : r < D = mod-lt n h in
    elim (dec_le D (suc r)) [
      | yes k ↦ (let c : suc n ≡ suc q * D + 0 = omega arith in ap (λ m. m / D) c ∙ digits_div (suc q) {m = D} {r = 0} h)
      | no k ↦
          (let c : suc n ≡ q * D + suc r = omega arith in
          let d : suc n % D ≡ suc r = ap (λ m. m % D) c ∙ digits_mod q {m = D} {r = suc r} (omega arith) in
          absurd (omega arith))
    ])

-- A slot later floor(now/D) is the same if that slot is no multiple of D.
no_turn : (n D : ℕ) → 1 ≤ D → (suc n % D ≡ 0 → ⊥) → suc n / D ≡ n / D
no_turn n D h e =
    (let q = n / D in
    let r = n % D in
    let a : q * D + r ≡ n = div-add-mod' n D in
    let b : r < D = mod-lt n h in
    elim (dec_le D (suc r)) [
      | yes k ↦ (let c : suc n ≡ suc q * D + 0 = omega arith in absurd (e (ap (λ m. m % D) c ∙ digits_mod (suc q) {m = D} {r = 0} h)))
      | no k ↦ (let c : suc n ≡ q * D + suc r = omega arith in ap (λ m. m / D) c ∙ digits_div q {m = D} {r = suc r} (omega arith))
    ])

-- Queues are turned by moving the first to the end.
first_last : {A : Type 0} (f : ℕ → List A) (r : ℕ) → turned (series f 1 0 (suc r)) ≡ series f 1 1 r ++ (f 0 ∷ [])
unfolding turned series
first_last f r = refl

-- "every tag falls by one, the old 0 becomes rP"
turned_series : {A : Type 0} (f : ℕ → List A) (r : ℕ) → f (suc r) ≡ f 0
    → series (λ k. f (suc k)) 1 0 (suc r) ≡ turned (series f 1 0 (suc r))
turned_series {A} f r e =
    (let g : ℕ → List A = λ k. f (suc k) in
    let z : 0 + 1 * r ≡ r = omega arith in
    series_last g 1 0 r ∙ ap (λ k. series g 1 0 r ++ (g k ∷ [])) z ∙ ap (λ q. series g 1 0 r ++ (q ∷ [])) e ∙
    ap (λ l. l ++ (f 0 ∷ [])) (series_same g f 1 0 1 r (λ i h. (let y : suc (0 + 1 * i) ≡ 1 + 1 * i = omega arith in ap f y))) ∙
    sym (first_last f r))

-- Where nothing waits at tag 0, the first queue is empty.
first_empty : (q : List Packet) (qs : List (List Packet)) → tag_zero_waits (q ∷ qs) ≡ false → q ≡ []
unfolding tag_zero_waits
first_empty [] qs e = refl
first_empty (p ∷ q) qs e = absurd (true≢false e)

-- Where nothing waits at tag 0, the queue at its place is empty.
zero_empty : (ws : List ℕ) → tag_zero_waits (contents ws).queues ≡ false → queue_at ws (place_of (turns_at ws) 0) ≡ []
unfolding contents queues_at series
zero_empty ws e =
    first_empty (queue_at ws (place_of (turns_at ws) 0))
    (series (λ k. queue_at ws (place_of (turns_at ws) k)) 1 1 (largest_factor (settings_at ws))) e

-- Where nothing waits at tag 0, the length at its place is 0.
zero_length : (ws : List ℕ) → tag_zero_waits (contents ws).queues ≡ false → word ws (lengths_at + place_of (turns_at ws) 0) ≡ 0
zero_length ws e = sym (length_queue ws (place_of (turns_at ws) 0)) ∙ ap length (zero_empty ws e)

-- Where nothing waits at tag 0, nothing waits past the last tag, even where the places come round to tag 0.
past_last : (ws : List ℕ) → Fitting ws → tag_zero_waits (contents ws).queues ≡ false
    → (k : ℕ) → largest_factor (settings_at ws) < k → k ≤ 64 → word ws (lengths_at + place_of (turns_at ws) k) ≡ 0
past_last ws f z k h l =
    elim (dec_le 64 k) [
      | yes a ↦ (let e : k ≡ 64 = omega arith in ap (λ n. word ws (lengths_at + place_of (turns_at ws) n)) e ∙
          ap (λ p. word ws (lengths_at + p)) (place_whole (turns_at ws)) ∙ zero_length ws z)
      | no a ↦ untagged_zero ws f.untagged k h (omega arith)
    ]

-- The counter changes.
module _ (ws : List ℕ) (v : ℕ) (k : Fitting ws) where
  -- A store of the counter changes no other word.
  abbrev counted_only : Only ws (set ws counter_at v) counter_at (counter_at + 1)
  counted_only = stored_only ws counter_at v

  -- The words of the queues stay.
  pub counted_far : (i : ℕ) → lengths_at ≤ i → word (set ws counter_at v) i ≡ word ws i
  counted_far = far ws (set ws counter_at v) counter_at (counter_at + 1) k counted_only (omega arith)

  -- The settings stay.
  pub counted_settings : settings_at (set ws counter_at v) ≡ settings_at ws
  unfolding contents
  counted_settings = settings_stay ws (set ws counter_at v) counter_at (counter_at + 1) k counted_only (omega arith)

  -- The words become those of the box with this counter, whatever its queues are then read as.
  pub counter_become : (qs : List (List Packet)) → untagged_empty (set ws counter_at v) ≡ true → queues_at (set ws counter_at v) ≡ qs
      → Become ws (set ws counter_at v)
      (record {
        settings = (contents ws).settings;
        standing = (contents ws).standing;
        counter = v;
        accepted = (contents ws).accepted;
        link = (contents ws).link;
        queues = qs;
      })
  counter_become qs u q =
      (let after = set ws counter_at v in
      let o = counted_only in
      table_become ws after counter_at (counter_at + 1) k o (contents ws).standing v (contents ws).accepted (contents ws).link qs
      (omega arith) (omega arith)
      (rows_stay_clear ws after counter_at (counter_at + 1) k o (omega arith))
      (link_stays_clear ws after counter_at (counter_at + 1) k o (omega arith)) u
      (rows_stay ws after counter_at (counter_at + 1) k o (omega arith)) (word_same ws counter_at v counter_at (omega (arith, k.enough)) refl)
      (o.kept accepted_at (λ x y. omega arith) ∙ accepted_is ws) (link_stays ws after counter_at (counter_at + 1) k o (omega arith)) q)

  -- After the counter is stored, the queues have turned as often as it and D say.
  turns_after : turns_at (set ws counter_at v) ≡ v / word ws interval_at
  unfolding turns_at
  turns_after = rw (word_same ws counter_at v counter_at (omega (arith, k.enough)) refl, counted_only.kept interval_at (λ x y. omega arith))

  -- After a turn with nothing waiting at tag 0, the places of no tag are empty.
  turned_untagged : turns_at (set ws counter_at v) ≡ suc (turns_at ws) → tag_zero_waits (contents ws).queues ≡ false
      → untagged_empty (set ws counter_at v) ≡ true
  unfolding untagged_empty empty_from
  turned_untagged t z =
      (let r = largest_factor (settings_at ws) in
      rw (counted_settings, t)
      (every_all (λ w. eqb w 0) (λ j. word (set ws counter_at v) (lengths_at + place_of (suc (turns_at ws)) j)) 1 (suc r) (63 - r) (λ i h.
      (let j = suc r + 1 * i in
      eq-eqb _ 0 (counted_far (lengths_at + place_of (suc (turns_at ws)) j) (omega arith) ∙
      ap (λ p. word ws (lengths_at + p)) (place_turned (turns_at ws) j) ∙
      past_last ws k z (suc j) (omega arith) (omega arith))))))

  -- After a turn with nothing waiting at tag 0, the queues that are read are the turned ones.
  turned_queues : turns_at (set ws counter_at v) ≡ suc (turns_at ws) → tag_zero_waits (contents ws).queues ≡ false
      → queues_at (set ws counter_at v) ≡ turned (contents ws).queues
  unfolding queues_at contents
  turned_queues t z =
      (let r = largest_factor (settings_at ws) in
      let f : ℕ → List Packet = λ j. queue_at ws (place_of (turns_at ws) j) in
      rw (counted_settings, t)
      (series_same (λ j. queue_at (set ws counter_at v) (place_of (suc (turns_at ws)) j)) (λ j. f (suc j)) 1 0 0 (suc r) (λ i h.
      queue_same ws (set ws counter_at v) counted_far (place_of (suc (turns_at ws)) (0 + 1 * i)) ∙
      ap (queue_at ws) (place_turned (turns_at ws) (0 + 1 * i))) ∙
      turned_series f r
      (queue_untagged ws (place_of (turns_at ws) (suc r)) (past_last ws k z (suc r) (omega arith) (omega (arith, k.largest))) ∙
      sym (zero_empty ws z))))

-- A slot at which the queues turn is a multiple of D.
turn_slot : (D n : ℕ) → turn_at D (suc n) ≡ true → suc n % D ≡ 0
unfolding turn_at
turn_slot D n e = eqb-true (suc n % D) 0 ((and-eq-true_iff (ltb 0 (suc n)) (eqb (suc n % D) 0)).0 e).1

-- A slot above 0 at which the queues do not turn is no multiple of D.
no_turn_slot : (D n : ℕ) → turn_at D (suc n) ≡ false → suc n % D ≡ 0 → ⊥
unfolding turn_at
no_turn_slot D n e z =
    true≢false (sym ((and-eq-true_iff (ltb 0 (suc n)) (eqb (suc n % D) 0)).1 (lt-ltb 0 (suc n) (omega arith), eq-eqb (suc n % D) 0 z)) ∙ e)

-- One turn more than the counter and D give is one turn more than the words have.
turns_is : (ws : List ℕ) → suc (word ws counter_at / word ws interval_at) ≡ suc (turns_at ws)
unfolding turns_at
turns_is ws = refl

-- The turns that the counter and D give are those of the words.
turns_same_is : (ws : List ℕ) → word ws counter_at / word ws interval_at ≡ turns_at ws
unfolding turns_at
turns_same_is ws = refl

-- The queues that are read are those of the contents.
queues_is : (ws : List ℕ) → queues_at ws ≡ (contents ws).queues
unfolding contents
queues_is ws = refl

-- Where it is known whether a turn is due, the box with the stored counter is the box a slot later.
turn_box : (ws : List ℕ) (v : ℕ) (due : Bool) → Fitting ws → v ≡ suc (word ws counter_at)
    → turn_at (word ws interval_at) (suc (word ws counter_at)) ≡ due
    → Become ws (set ws counter_at v)
    (record {
      settings = (contents ws).settings;
      standing = (contents ws).standing;
      counter = v;
      accepted = (contents ws).accepted;
      link = (contents ws).link;
      queues = cond due (turned (contents ws).queues) (contents ws).queues;
    })
    → Become ws (set ws counter_at v) (raised (contents ws))
unfolding raised contents settings_at
turn_box ws v due k e q b = rw (q, ← e) b

-- Raising the counter makes the words those of the box a slot later, if no due turn is blocked by tag 0.
pub raise_become : (ws : List ℕ) (v : ℕ) → Fitting ws → v ≡ suc (word ws counter_at)
    → (turn_at (word ws interval_at) (suc (word ws counter_at)) ≡ true → tag_zero_waits (contents ws).queues ≡ false)
    → Become ws (set ws counter_at v) (raised (contents ws))
raise_become ws v k e z =
    (let n = word ws counter_at in
    let D = word ws interval_at in
    ⊎_elim
    (λ (q : turn_at D (suc n) ≡ true).
    (let t = turns_after ws v k ∙ ap (λ m. m / D) e ∙ next_turn n D k.interval (turn_slot D n q) ∙ turns_is ws in
    turn_box ws v true k e q (counter_become ws v k (turned (contents ws).queues) (turned_untagged ws v k t (z q))
    (turned_queues ws v k t (z q)))))
    (λ (q : turn_at D (suc n) ≡ false).
    (let t = turns_after ws v k ∙ ap (λ m. m / D) e ∙ no_turn n D k.interval (no_turn_slot D n q) ∙ turns_same_is ws in
    turn_box ws v false k e q
    (counter_become ws v k (contents ws).queues (untagged_same ws (set ws counter_at v) (counted_far ws v k) (counted_settings ws v k) t ∙
    k.untagged)
    (queues_same ws (set ws counter_at v) (counted_far ws v k) (counted_settings ws v k) t ∙ queues_is ws))))
    (bool_cases (turn_at D (suc n))))
