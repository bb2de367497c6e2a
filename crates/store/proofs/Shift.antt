-- The one law of joining and taking: one queue changes its length, and the packets of the later places move with it.
use Prim.Native.Nat.{ℕ, zero, suc, ◌+◌, ◌*◌, ◌-◌, ◌≤◌, ◌<◌}
use mathlib.Core.Path.{◌≡◌, refl, sym, ap, ◌∙◌}
use mathlib.Core.Bool.{true}
use mathlib.Core.List.{List, []}
use native.Mathlib.Omega.{arith}
use native.Mathlib.Decide.{dec_le, ℕ_discrete}
use lib.ListN.{length, set}
use lib.Dec.{eqb}
use Rattle.laws.specs.Series.{series_same, series_set}
use Rattle.laws.specs.Tests.{every}
use Rattle.meaning.specs.Numbers.{largest_factor}
use Rattle.meaning.specs.declared.Packet.{Packet}
use Rattle.words.specs.Places.{word, lengths_below, start_of, place_of, tag_of, interval_at, counter_at, accepted_at, left_at, link_at, lengths_at, packets_at}
use Rattle.words.specs.Contents.{contents, settings_at, packet_at, turns_at, queue_at, queues_at}
use Rattle.words.specs.Sound.{empty_from, untagged_empty, Fitting}
use Rattle.words.specs.Changes.{Become}
use Rattle.store.specs.StoreChanges.{with_queues}
use Rattle.words.proofs.Rotation.{place_below, tag_of_place}
use Rattle.words.proofs.TableReads.{lengths_most}
use Rattle.words.proofs.Same.{settings_same, standings_same, packet_same, turns_same, fitting_kept, link_clear_same}

-- The queue at `place` loses `less` packets and gains `more`, and the packets of the later places move.
pub record Shifted (ws after : List ℕ) (place less more : ℕ) : Type 0 where
  pub same_length : length after ≡ length ws
  pub tables : (i : ℕ) → i < packets_at → (i ≡ lengths_at + place → ⊥) → word after i ≡ word ws i
  pub count : word after (lengths_at + place) + less ≡ word ws (lengths_at + place) + more
  pub before : (i : ℕ) → packets_at ≤ i → i < start_of ws place → word after i ≡ word ws i
  pub later : (i j : ℕ) → start_of ws (suc place) ≤ i → i < packets_at + 4 * lengths_below ws 64 → j + 4 * less ≡ i + 4 * more
      → word after j ≡ word ws i

-- As many packets or more lie below a higher place.
pub lengths_rise : (ws : List ℕ) (p n : ℕ) → p ≤ n → lengths_below ws p ≤ lengths_below ws n
lengths_rise ws p n h =
    elim (ℕ_discrete p n) [
      | yes q ↦ (let e = ap (lengths_below ws) q in omega arith)
      | no q ↦ omega
          (arith, lengths_most ws p n (omega arith))
    ]

-- Below the next place lie the packets below this one and those at it.
pub lengths_next : (ws : List ℕ) (p : ℕ) → lengths_below ws (suc p) ≡ lengths_below ws p + word ws (lengths_at + p)
unfolding lengths_below
lengths_next ws p = refl

-- The packets of the queues up to a place are no more than all that wait.
pub upto_place : (ws : List ℕ) (P : ℕ) → P < 64 → lengths_below ws (P + 1) ≤ lengths_below ws 64
upto_place ws P h =
    (let e : P + 1 ≡ suc P = omega arith in omega (arith, lengths_most ws P 64 h, ap (lengths_below ws) e ∙ lengths_next ws P))

-- A queue starts four words for each packet at the lower places after the first word of the packets.
pub start_is : (ws : List ℕ) (p : ℕ) → start_of ws p ≡ packets_at + 4 * lengths_below ws p
unfolding start_of
start_is ws p = refl

-- The next queue starts where the packets of this one end.
pub start_next : (ws : List ℕ) (p : ℕ) → start_of ws (p + 1) ≡ start_of ws p + 4 * word ws (lengths_at + p)
start_next ws p =
    (let e : p + 1 ≡ suc p = omega arith in
    rw (start_is ws (p + 1), start_is ws p) (omega (arith, ap (lengths_below ws) e ∙ lengths_next ws p)))

module _ (ws after : List ℕ) (place less more : ℕ) (in_range : place < 64) (s : Shifted ws after place less more) where
  -- As many packets as before lie below each place up to the changed one.
  below_same : (p : ℕ) → p ≤ place → lengths_below after p ≡ lengths_below ws p
  unfolding lengths_below
  below_same zero h = refl
  below_same (suc p) h = rw (below_same p (omega arith), s.tables (lengths_at + p) (omega arith) (λ q. omega arith))

  -- Below each place past the changed one lie `more` packets more and `less` fewer, counted from that place.
  above_moved : (n : ℕ) → place + suc n ≤ 64 → lengths_below after (place + suc n) + less ≡ lengths_below ws (place + suc n) + more
  above_moved zero h =
      (let e : place + 1 ≡ suc place = omega arith in
      let a = lengths_next after place in
      let b = lengths_next ws place in
      let c = below_same place (omega arith) in
      let k = s.count in
      rw e (omega arith))
  above_moved (suc n) h =
      (let e : place + suc (suc n) ≡ suc (place + suc n) = omega arith in
      let a = lengths_next after (place + suc n) in
      let b = lengths_next ws (place + suc n) in
      let c = above_moved n (omega arith) in
      let k = s.tables (lengths_at + (place + suc n)) (omega arith) (λ q. omega arith) in
      rw e (omega arith))

  -- Below each place past the changed one lie `more` packets more and `less` fewer.
  above : (p : ℕ) → place < p → p ≤ 64 → lengths_below after p + less ≡ lengths_below ws p + more
  above p h l =
      (let e : place + suc (p - suc place) ≡ p = omega arith in
      let c = above_moved (p - suc place) (omega arith) in
      rw e at c)

  -- The queues at the other places are as they were.
  pub other_queue : (p : ℕ) → p < 64 → (p ≡ place → ⊥) → queue_at after p ≡ queue_at ws p
  unfolding queue_at
  other_queue p h q =
      (let n = s.tables (lengths_at + p) (omega arith) (λ e. q (omega arith)) in
      let m = word ws (lengths_at + p) in
      let a = start_is after p in
      let b = start_is ws p in
      rw n (series_same (packet_at after) (packet_at ws) 4 (start_of after p) (start_of ws p) m (λ i l.
      elim (dec_le p place) [
        | yes k ↦
            (let c = below_same p k in
            let d = lengths_most ws p place (omega arith) in
            let f = start_is ws place in
            packet_same ws after (start_of after p + 4 * i) (start_of ws p + 4 * i) (λ j g.
            (let e : start_of after p + 4 * i + j ≡ start_of ws p + 4 * i + j = omega arith in
            ap (λ x. word after x) e ∙ s.before (start_of ws p + 4 * i + j) (omega arith) (omega arith))))
        | no k ↦
            (let c = above p (omega arith) (omega arith) in
            let d = lengths_most ws p 64 h in
            let f = start_is ws (suc place) in
            let g = lengths_rise ws (suc place) p (omega arith) in
            packet_same ws after (start_of after p + 4 * i) (start_of ws p + 4 * i) (λ j v.
            s.later (start_of ws p + 4 * i + j) (start_of after p + 4 * i + j) (omega arith) (omega arith) (omega arith)))
      ])))

  -- In all `more` packets more and `less` fewer wait.
  pub total_moved : lengths_below after 64 + less ≡ lengths_below ws 64 + more
  total_moved = above 64 in_range (omega arith)

  -- The changed queue starts where it did.
  pub start_same : start_of after place ≡ start_of ws place
  start_same = (let a = start_is after place in let b = start_is ws place in let c = below_same place (omega arith) in omega arith)

-- Two tags have two places.
places_differ : (turns k tag : ℕ) → k < 64 → tag < 64 → (k ≡ tag → ⊥) → place_of turns k ≡ place_of turns tag → ⊥
places_differ turns k tag h l q e =
    q (sym (tag_of_place turns k h) ∙ ap (tag_of turns) e ∙ tag_of_place turns tag l)

module _ (ws after : List ℕ) (tag less more : ℕ) (k : Fitting ws) (tagged : tag ≤ largest_factor (settings_at ws))
    (s : Shifted ws after (place_of (turns_at ws) tag) less more) where
  -- The words before the lengths of the queues are as they were.
  kept_words : (i : ℕ) → i < lengths_at → word after i ≡ word ws i
  kept_words i h = s.tables i (omega arith) (λ q. omega arith)

  -- The settings are as they were.
  shift_settings : settings_at after ≡ settings_at ws
  shift_settings = settings_same ws after k.classes (λ i h. kept_words i (omega arith))

  -- The queues have turned as often as before.
  shift_turns : turns_at after ≡ turns_at ws
  shift_turns = turns_same ws after (kept_words interval_at (omega arith)) (kept_words counter_at (omega arith))

  -- Of the queues by their tags, only the changed one is another.
  shift_queues : queues_at after ≡ set (queues_at ws) tag (queue_at after (place_of (turns_at ws) tag))
  unfolding queues_at
  shift_queues =
      (let t = turns_at ws in
      let r = largest_factor (settings_at ws) in
      let f : ℕ → List Packet = λ j. queue_at ws (place_of t j) in
      let g : ℕ → List Packet = λ j. queue_at after (place_of t j) in
      rw (shift_settings, shift_turns)
      (series_set f g (suc r) tag [] (omega arith) (λ i h q.
      other_queue ws after (place_of t tag) less more (place_below t tag) s (place_of t i) (place_below t i)
      (places_differ t i tag (omega (arith, k.largest)) (omega (arith, k.largest)) q))))

  -- The places of no tag are still empty.
  shift_untagged : untagged_empty after ≡ true
  unfolding untagged_empty empty_from
  shift_untagged =
      (let t = turns_at ws in
      let r = largest_factor (settings_at ws) in
      rw (shift_settings, shift_turns)
      (ap (every (λ w. eqb w 0)) (series_same (λ j. word after (lengths_at + place_of t j)) (λ j. word ws (lengths_at + place_of t j)) 1 (suc r)
      (suc r) (63 - r) (λ i h.
      (let j = suc r + 1 * i in
      s.tables (lengths_at + place_of t j) (omega (arith, place_below t j))
      (λ q. places_differ t j tag (omega (arith, k.largest)) (omega (arith, k.largest)) (λ e. omega arith) (omega arith))))) ∙
      k.untagged))

  -- The words become those of the box with that one queue changed, if they fit and the rest stays.
  pub shifted_become : lengths_below after 64 ≤ 1024 → ((i : ℕ) → packets_at + 4 * lengths_below after 64 ≤ i → word after i ≡ word ws i)
      → Become ws after (with_queues (contents ws) (set (contents ws).queues tag (queue_at after (place_of (turns_at ws) tag))))
  unfolding contents with_queues
  shifted_become h b =
      record {
        fitting = fitting_kept ws after k s.same_length (λ i l. kept_words i (omega arith))
            (link_clear_same ws after (λ i a l. kept_words i l) ∙ k.link_clear_lem) shift_untagged h;
        stands_for =
            rw (
              shift_settings,
              standings_same ws after k.rows (λ i a l. kept_words i (omega arith)),
              kept_words counter_at (omega arith),
              kept_words accepted_at (omega arith),
              kept_words left_at (omega arith),
              packet_same ws after link_at link_at (λ j l. kept_words (link_at + j) (omega arith)),
              shift_queues,
            );
        same_length = s.same_length;
        beyond = b;
      }
