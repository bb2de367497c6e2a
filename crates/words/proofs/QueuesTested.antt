-- The test of the queues, place by place, and the clauses of document 01, queue by queue.
use Prim.Native.Nat.{ℕ, zero, suc, ◌+◌, ◌/◌, ◌≤◌, ◌<◌}
use mathlib.Core.Path.{◌≡◌, refl, sym, ap, ◌∙◌}
use mathlib.Core.Bool.{true, cond, ◌&&◌, and-eq-true_iff}
use mathlib.Core.List.{List, [], ◌∷◌, map}
use native.Mathlib.Omega.{arith}
use native.Mathlib.Numerals.{add-one}
use native.Mathlib.Decide.{dec_le}
use lib.ListN.{length}
use lib.Dec.{ltb, eqb}
use borrow.Author.Tests.{le-leb, lt-leb, eqb-true, eq-eqb}
use Rattle.laws.specs.Series.{series}
use Rattle.laws.specs.Tests.{every, every_below_at, every_below_all}
use Rattle.meaning.specs.Numbers.{largest_factor, rising_above}
use Rattle.meaning.specs.declared.Packet.{Packet}
use Rattle.meaning.specs.Box.{Box, packet_kept, rank_in, in_their_queues}
use Rattle.words.specs.Places.{word, place_of, tag_of, lengths_at}
use Rattle.words.specs.Contents.{contents, settings_at, turns_at, queue_at}
use Rattle.words.specs.Tested.{packet_fits, packets_fit, queue_fits, queues_tested}
use Rattle.words.proofs.Rotation.{place_below, tag_below, tag_of_place, place_of_tag}
use Rattle.words.proofs.ContentsPut.{length_queue}

-- The packets of one queue rise in serial, are kept and have the rank of the queue.
pub record QueueFacts (box : Box) (rank before : ℕ) (q : List Packet) : Type 0 where
  pub rise : rising_above before (map (λ p. p.serial) q) ≡ true
  pub kept : every (packet_kept box) q ≡ true
  pub ranked : every (λ p. eqb (rank_in box p) rank) q ≡ true

-- Packets that pass the test of a queue keep its clauses.
pub packets_facts : (box : Box) (rank before : ℕ) (q : List Packet) → packets_fit box rank before q ≡ true → QueueFacts box rank before q
unfolding packets_fit packet_fits rising_above every
packets_facts box rank before [] e = record { rise = refl; kept = refl; ranked = refl }
packets_facts box rank before (p ∷ q) e =
    (let r = eqb (rank_in box p) rank in
    let a = (and-eq-true_iff (ltb before p.serial && packet_kept box p && r) (packets_fit box rank p.serial q)).0 e in
    let b = (and-eq-true_iff (ltb before p.serial && packet_kept box p) r).0 a.0 in
    let c = (and-eq-true_iff (ltb before p.serial) (packet_kept box p)).0 b.0 in
    let f = packets_facts box rank p.serial q a.1 in
    record {
      rise = (and-eq-true_iff (ltb before p.serial) (rising_above p.serial (map (λ p. p.serial) q))).1 (c.0, f.rise);
      kept = (and-eq-true_iff (packet_kept box p) (every (packet_kept box) q)).1 (c.1, f.kept);
      ranked = (and-eq-true_iff r (every (λ p. eqb (rank_in box p) rank) q)).1 (b.1, f.ranked);
    })

-- Packets that keep the clauses of a queue pass its test.
pub packets_test : (box : Box) (rank before : ℕ) (q : List Packet) → QueueFacts box rank before q → packets_fit box rank before q ≡ true
unfolding packets_fit packet_fits rising_above every
packets_test box rank before [] f = refl
packets_test box rank before (p ∷ q) f =
    (let r = eqb (rank_in box p) rank in
    let a = (and-eq-true_iff (ltb before p.serial) (rising_above p.serial (map (λ p. p.serial) q))).0 f.rise in
    let b = (and-eq-true_iff (packet_kept box p) (every (packet_kept box) q)).0 f.kept in
    let c = (and-eq-true_iff r (every (λ p. eqb (rank_in box p) rank) q)).0 f.ranked in
    (and-eq-true_iff (ltb before p.serial && packet_kept box p && r) (packets_fit box rank p.serial q)).1 (
      (and-eq-true_iff (ltb before p.serial && packet_kept box p) r).1
          ((and-eq-true_iff (ltb before p.serial) (packet_kept box p)).1 (a.0, b.0), c.0),
      packets_test box rank p.serial q (record { rise = a.1; kept = b.1; ranked = c.1 }),
    ))

-- The queue of every tag keeps its clauses, and at a place of no tag there is no packet.
pub record QueuesFacts (ws : List ℕ) : Type 0 where
  pub tagged : (k : ℕ) → k ≤ largest_factor (settings_at ws) → k < 64
      → QueueFacts (contents ws) (turns_at ws + k) 0 (queue_at ws (place_of (turns_at ws) k))
  pub untagged : (k : ℕ) → largest_factor (settings_at ws) < k → k < 64 → word ws (lengths_at + place_of (turns_at ws) k) ≡ 0

-- Words that pass the test of the queues keep the clauses on all queues.
pub queues_facts : (ws : List ℕ) → queues_tested ws ≡ true → QueuesFacts ws
unfolding queues_tested queue_fits
queues_facts ws e =
    record {
      tagged = λ k h l.
          packets_facts (contents ws) (turns_at ws + k) 0 (queue_at ws (place_of (turns_at ws) k))
          (sym (ap (λ b. cond b (packets_fit (contents ws) (turns_at ws + k) 0 (queue_at ws (place_of (turns_at ws) k)))
          (eqb (length (queue_at ws (place_of (turns_at ws) k))) 0))
          (le-leb k (largest_factor (settings_at ws)) h)) ∙ fits k l);
      untagged = λ k h l.
          sym (length_queue ws (place_of (turns_at ws) k)) ∙ eqb-true _ 0
          (sym (ap (λ b. cond b (packets_fit (contents ws) (turns_at ws + k) 0 (queue_at ws (place_of (turns_at ws) k)))
          (eqb (length (queue_at ws (place_of (turns_at ws) k))) 0))
          (lt-leb k (largest_factor (settings_at ws)) h)) ∙ fits k l);
    }
  where
    fits : (k : ℕ) → k < 64 → queue_fits ws k (queue_at ws (place_of (turns_at ws) k)) ≡ true
    fits k l =
        ap (λ tag. queue_fits ws tag (queue_at ws (place_of (turns_at ws) k))) (sym (tag_of_place (turns_at ws) k l)) ∙
        every_below_at (λ p. queue_fits ws (tag_of (turns_at ws) p) (queue_at ws p)) 64 e (place_of (turns_at ws) k) (place_below (turns_at ws) k)

-- Words that keep the clauses on all queues pass the test of the queues.
pub queues_test : (ws : List ℕ) → QueuesFacts ws → queues_tested ws ≡ true
unfolding queues_tested queue_fits
queues_test ws f =
    every_below_all (λ p. queue_fits ws (tag_of (turns_at ws) p) (queue_at ws p)) 64 (λ p h.
    ap (λ x. queue_fits ws (tag_of (turns_at ws) p) (queue_at ws x)) (sym (place_of_tag (turns_at ws) p h)) ∙
    fits (tag_of (turns_at ws) p) (tag_below (turns_at ws) p))
  where
    fits : (k : ℕ) → k < 64 → queue_fits ws k (queue_at ws (place_of (turns_at ws) k)) ≡ true
    fits k l =
        (let q = queue_at ws (place_of (turns_at ws) k) in
        let r = largest_factor (settings_at ws) in
        elim (dec_le k r) [
          | yes h ↦
              ap (λ b. cond b (packets_fit (contents ws) (turns_at ws + k) 0 q) (eqb (length q) 0)) (le-leb k r h) ∙
              packets_test (contents ws) (turns_at ws + k) 0 q (f.tagged k h l)
          | no h ↦
              ap (λ b. cond b (packets_fit (contents ws) (turns_at ws + k) 0 q) (eqb (length q) 0)) (lt-leb k r (omega arith)) ∙
              eq-eqb (length q) 0 (length_queue ws (place_of (turns_at ws) k) ∙ f.untagged k (omega arith) l)
        ])

-- If each queue has only packets of its rank, the packets are in their queues.
pub in_queues_all : (box : Box) (f : ℕ → List Packet) (tag n : ℕ)
    → ((k : ℕ) → tag ≤ k → k < tag + n → every (λ p. eqb (rank_in box p) (box.counter / box.settings.interval + k)) (f k) ≡ true)
    → in_their_queues box tag (series f 1 tag n) ≡ true
unfolding in_their_queues series
in_queues_all box f tag zero h = refl
in_queues_all box f tag (suc n) h =
    (and-eq-true_iff (every (λ p. eqb (rank_in box p) (box.counter / box.settings.interval + tag)) (f tag))
    (in_their_queues box (suc tag) (series f 1 (tag + 1) n))).1 (
      h tag (omega arith) (omega arith),
      ap (λ k. in_their_queues box (suc tag) (series f 1 k n)) (add-one tag) ∙
          in_queues_all box f (suc tag) n (λ k a b. h k (omega arith) (omega arith)),
    )

-- If the packets are in their queues, each queue has only packets of its rank.
pub in_queues_at : (box : Box) (f : ℕ → List Packet) (tag n : ℕ) → in_their_queues box tag (series f 1 tag n) ≡ true
    → (k : ℕ) → tag ≤ k → k < tag + n → every (λ p. eqb (rank_in box p) (box.counter / box.settings.interval + k)) (f k) ≡ true
unfolding in_their_queues series
in_queues_at box f tag zero e k a b = absurd (omega arith)
in_queues_at box f tag (suc n) e k a b =
    (let h = (and-eq-true_iff (every (λ p. eqb (rank_in box p) (box.counter / box.settings.interval + tag)) (f tag))
    (in_their_queues box (suc tag) (series f 1 (tag + 1) n))).0 e in
    elim (dec_le k tag) [
      | yes l ↦ first (omega arith) h.0
      | no l ↦ in_queues_at box f (suc tag) n (sym (ap (λ k. in_their_queues box (suc tag) (series f 1 k n)) (add-one tag)) ∙ h.1) k
          (omega arith) (omega arith)
    ])
  where
    first : k ≡ tag → every (λ p. eqb (rank_in box p) (box.counter / box.settings.interval + tag)) (f tag) ≡ true
        → every (λ p. eqb (rank_in box p) (box.counter / box.settings.interval + k)) (f k) ≡ true
    first q t = rw q t
