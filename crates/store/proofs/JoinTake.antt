-- What joining a tail and taking a head write stands for the queues of document 01.
use Prim.Native.Nat.{ℕ, suc, ◌+◌, ◌*◌, ◌-◌, ◌≤◌, ◌<◌}
use mathlib.Core.Path.{◌≡◌, refl, sym, ap, ◌∙◌}
use mathlib.Core.List.{List, [], ◌∷◌, ◌++◌}
use native.Mathlib.Omega.{arith}
use lib.ListN.{length, get_or, set, drop, length-set}
use Rattle.laws.specs.Series.{series, length_series, series_same, series_last}
use Rattle.meaning.specs.Numbers.{largest_factor}
use Rattle.meaning.specs.Queues.{join_tail}
use Rattle.meaning.specs.declared.Packet.{Packet}
use Rattle.words.specs.Places.{word, lengths_below, start_of, place_of, lengths_at, packets_at}
use Rattle.words.specs.Contents.{contents, settings_at, packet_at, turns_at, queue_at, queues_at}
use Rattle.words.specs.Sound.{Fitting}
use Rattle.words.specs.Changes.{Become, PacketPut}
use Rattle.store.specs.StoreChanges.{with_queues}
use Rattle.store.proofs.Moving.{MovedUp, MovedDown}
use Rattle.words.proofs.Rotation.{place_below}
use Rattle.words.proofs.TableReads.{lengths_most}
use Rattle.words.proofs.Storing.{word_other, word_same}
use Rattle.words.proofs.Same.{packet_same, queue_tagged_at}
use Rattle.store.proofs.QueueLaws.{join_sets}
use Rattle.store.proofs.Shift.{Shifted, lengths_next, start_is, start_same, total_moved, shifted_become, upto_place}

-- There are rP + 1 queues.
queue_count : (ws : List ℕ) → length (contents ws).queues ≡ suc (largest_factor (settings_at ws))
unfolding contents queues_at
queue_count ws = length_series (λ k. queue_at ws (place_of (turns_at ws) k)) 1 0 (suc (largest_factor (settings_at ws)))

-- A series of packets without the first is the series from the next packet on.
tail_series : {A : Type 0} (f : ℕ → A) (start n : ℕ) → drop 1 (series f 4 start (suc n)) ≡ series f 4 (start + 4) n
unfolding series
tail_series f start n = refl

-- a packet joins
module _ (ws up placed : List ℕ) (tag : ℕ) (p : Packet) (k : Fitting ws) (tagged : tag ≤ largest_factor (settings_at ws))
    (room : lengths_below ws 64 < 1024)
    (at end v : ℕ) (at_is : at ≡ packets_at + 4 * lengths_below ws (place_of (turns_at ws) tag + 1))
    (end_is : end ≡ packets_at + 4 * lengths_below ws 64)
    (u : MovedUp ws up at end) (w : PacketPut up placed at p) (v_is : v ≡ word placed (lengths_at + place_of (turns_at ws) tag) + 1) where
  -- The place of the tag's queue.
  place : ℕ
  place = place_of (turns_at ws) tag

  -- The words once the packet is placed and the length of its queue is stored.
  after : List ℕ
  after = set placed (lengths_at + place) v

  -- Storing the length changes no word of the packets.
  stored : (i : ℕ) → packets_at ≤ i → word after i ≡ word placed i
  unfolding after place
  stored i h = word_other placed (lengths_at + place_of (turns_at ws) tag) v i (λ e. omega (arith, place_below (turns_at ws) tag))

  -- Joining a packet makes its queue one longer and moves the packets of the later places.
  joined_shift : Shifted ws after (place_of (turns_at ws) tag) 0 1
  unfolding after place
  joined_shift =
      (let P = place_of (turns_at ws) tag in
      let small = place_below (turns_at ws) tag in
      let one : P + 1 ≡ suc P = omega arith in
      let next = ap (lengths_below ws) one ∙ lengths_next ws P in
      let s0 = start_is ws P in
      let s1 = start_is ws (suc P) ∙ ap (λ n. packets_at + 4 * n) (lengths_next ws P) in
      let l : length placed ≡ length ws = w.same_length ∙ u.same_length in
      let same : (i : ℕ) → i < at → word placed i ≡ word ws i = λ i h. w.below i h ∙ u.below i h in
      record {
        same_length = length-set placed (lengths_at + P) v ∙ l;
        tables = λ i h q. word_other placed (lengths_at + P) v i q ∙ same i (omega arith);
        count = (let c = word_same placed (lengths_at + P) v (lengths_at + P) (omega (arith, k.enough)) refl in
            let d = same (lengths_at + P) (omega arith) in omega arith);
        before = λ i h q. word_other placed (lengths_at + P) v i (λ e. omega arith) ∙ same i (omega arith);
        later = λ i j a b e.
            word_other placed (lengths_at + P) v j (λ q. omega arith) ∙ w.above j (omega arith) ∙
            (let q : j ≡ i + 4 = omega arith in ap (λ n. word up n) q) ∙ u.moved i (omega arith) (omega arith);
      })

  -- The queue that was joined has the new packet as its tail.
  joined_queue : queue_at after (place_of (turns_at ws) tag) ≡ queue_at ws (place_of (turns_at ws) tag) ++ (p ∷ [])
  unfolding queue_at
  joined_queue =
      (let P = place_of (turns_at ws) tag in
      let small = place_below (turns_at ws) tag in
      let s = joined_shift in
      let n = word ws (lengths_at + P) in
      let c : word after (lengths_at + P) ≡ suc n = omega (arith, s.count) in
      let one : P + 1 ≡ suc P = omega arith in
      let next = ap (lengths_below ws) one ∙ lengths_next ws P in
      let s0 = start_is ws P in
      let b = start_same ws after P 0 1 small s in
      let e : start_of ws P + 4 * n ≡ at = omega arith in
      rw (c, b)
      (series_last (packet_at after) 4 (start_of ws P) n ∙
      ap (λ l. l ++ (packet_at after (start_of ws P + 4 * n) ∷ []))
      (series_same (packet_at after) (packet_at ws) 4 (start_of ws P) (start_of ws P) n (λ i h.
      packet_same ws after (start_of ws P + 4 * i) (start_of ws P + 4 * i)
      (λ j g. stays (start_of ws P + 4 * i + j) (omega arith) (omega arith)))) ∙
      ap (λ x. series (packet_at ws) 4 (start_of ws P) n ++ (x ∷ []))
      (ap (packet_at after) e ∙ packet_same placed after at at (λ j g. unset (at + j) (omega arith)) ∙ w.packet)))
    where
      unset : (i : ℕ) → packets_at ≤ i → word after i ≡ word placed i
      unset i h = stored i h

      stays : (i : ℕ) → packets_at ≤ i → i < at → word after i ≡ word ws i
      stays i h l = stored i h ∙ w.below i l ∙ u.below i l

  -- Joining makes the words those of the box with the packet at the tail of its queue.
  pub joined_become : Become ws (set placed (lengths_at + place_of (turns_at ws) tag) v)
      (with_queues (contents ws) (join_tail tag p (contents ws).queues))
  unfolding after place
  joined_become =
      (let P = place_of (turns_at ws) tag in
      let small = place_below (turns_at ws) tag in
      let s = joined_shift in
      let t = total_moved ws after P 0 1 small s in
      let q : join_tail tag p (contents ws).queues ≡ set (contents ws).queues tag (queue_at after P) =
      join_sets tag p (contents ws).queues (omega (arith, queue_count ws)) ∙
      ap (λ l. set (contents ws).queues tag (l ++ (p ∷ []))) (queue_tagged_at ws tag tagged) ∙
      ap (set (contents ws).queues tag) (sym joined_queue) in
      rw q (shifted_become ws after tag 0 1 k tagged s (omega arith) (λ i h.
      word_other placed (lengths_at + P) v i (λ e. omega arith) ∙
      w.above i (omega (arith, upto_place ws P small)) ∙
      u.above i (omega arith))))

-- the head of a queue goes
module _ (ws down : List ℕ) (tag : ℕ) (k : Fitting ws) (tagged : tag ≤ largest_factor (settings_at ws))
    (some_wait : 1 ≤ word ws (lengths_at + place_of (turns_at ws) tag))
    (at end v : ℕ) (at_is : at ≡ packets_at + 4 * lengths_below ws (place_of (turns_at ws) tag))
    (end_is : end ≡ packets_at + 4 * lengths_below ws 64)
    (u : MovedDown ws down at end) (v_is : v + 1 ≡ word down (lengths_at + place_of (turns_at ws) tag)) where
  -- The words once the later packets have moved down and the length of the queue is stored.
  beheaded : List ℕ
  beheaded = set down (lengths_at + place_of (turns_at ws) tag) v

  -- Storing the length changes no word of the packets.
  unstored : (i : ℕ) → packets_at ≤ i → word beheaded i ≡ word down i
  unfolding beheaded
  unstored i h = word_other down (lengths_at + place_of (turns_at ws) tag) v i (λ e. omega (arith, place_below (turns_at ws) tag))

  -- Taking a head makes its queue one shorter and moves the packets of the later places.
  behead_shift : Shifted ws beheaded (place_of (turns_at ws) tag) 1 0
  unfolding beheaded
  behead_shift =
      (let P = place_of (turns_at ws) tag in
      let small = place_below (turns_at ws) tag in
      let s0 = start_is ws P in
      let s1 = start_is ws (suc P) ∙ ap (λ n. packets_at + 4 * n) (lengths_next ws P) in
      record {
        same_length = length-set down (lengths_at + P) v ∙ u.same_length;
        tables = λ i h q. word_other down (lengths_at + P) v i q ∙ u.below i (omega arith);
        count = (let c = word_same down (lengths_at + P) v (lengths_at + P) (omega (arith, k.enough, u.same_length)) refl in
            let d = u.below (lengths_at + P) (omega arith) in omega arith);
        before = λ i h q. word_other down (lengths_at + P) v i (λ e. omega arith) ∙ u.below i (omega arith);
        later = λ i j a b e.
            word_other down (lengths_at + P) v j (λ q. omega arith) ∙ u.moved j (omega arith) (omega arith) ∙
            (let q : j + 4 ≡ i = omega arith in ap (λ n. word ws n) q);
      })

  -- The queue that was beheaded is what it was without its head.
  behead_queue : queue_at beheaded (place_of (turns_at ws) tag) ≡ drop 1 (queue_at ws (place_of (turns_at ws) tag))
  unfolding queue_at
  behead_queue =
      (let P = place_of (turns_at ws) tag in
      let small = place_below (turns_at ws) tag in
      let s = behead_shift in
      let n = word ws (lengths_at + P) in
      let c : word beheaded (lengths_at + P) ≡ n - 1 = omega (arith, s.count) in
      let m : n ≡ suc (n - 1) = omega arith in
      let s0 = start_is ws P in
      let b = start_same ws beheaded P 1 0 small s in
      let l = lengths_most ws P 64 small in
      rw (c, b)
      (series_same (packet_at beheaded) (packet_at ws) 4 (start_of ws P) (start_of ws P + 4) (n - 1) (λ i h.
      packet_same ws beheaded (start_of ws P + 4 * i) (start_of ws P + 4 + 4 * i) (λ j g.
      unstored (start_of ws P + 4 * i + j) (omega arith) ∙ u.moved (start_of ws P + 4 * i + j) (omega arith) (omega arith) ∙
      (let q : start_of ws P + 4 * i + j + 4 ≡ start_of ws P + 4 + 4 * i + j = omega arith in ap (λ x. word ws x) q))) ∙
      sym (ap (λ x. drop 1 (series (packet_at ws) 4 (start_of ws P) x)) m ∙ tail_series (packet_at ws) (start_of ws P) (n - 1))))

  -- Taking a head makes the words those of the box with the head of that queue gone.
  pub behead_become : Become ws (set down (lengths_at + place_of (turns_at ws) tag) v)
      (with_queues (contents ws) (set (contents ws).queues tag (drop 1 (get_or (contents ws).queues tag []))))
  unfolding beheaded
  behead_become =
      (let P = place_of (turns_at ws) tag in
      let small = place_below (turns_at ws) tag in
      let s = behead_shift in
      let t = total_moved ws beheaded P 1 0 small s in
      let l = lengths_most ws P 64 small in
      let q : drop 1 (get_or (contents ws).queues tag []) ≡ queue_at beheaded P = ap (drop 1) (queue_tagged_at ws tag tagged) ∙
      sym behead_queue in
      rw q (shifted_become ws beheaded tag 1 0 k tagged s (omega (arith, k.total)) (λ i h.
      unstored i (omega arith) ∙ u.above i (omega arith) (omega arith))))
