-- The test, part by part, is the soundness of document 01: `tested_sound`.
use Prim.Native.Nat.{ℕ, zero, suc, ◌+◌, ◌*◌, ◌-◌, ◌≤◌, ◌<◌}
use mathlib.Core.Path.{◌≡◌, refl, sym, ap, ◌∙◌}
use mathlib.Core.Bool.{Bool, true, false, cond, ◌&&◌, and-eq-true_iff}
use mathlib.Core.List.{List, map}
use mathlib.Core.Logic.{⊎_elim}
use native.Mathlib.Omega.{arith}
use lib.ListN.{length, length-append}
use lib.Dec.{leb, ltb, eqb}
use borrow.Author.Tests.{leb-true, le-leb, ltb-true, lt-ltb, eqb-true, eqb-false, eq-eqb, ne_eqb}
use Rattle.laws.specs.Series.{length_series, every_all, every_index}
use Rattle.laws.specs.Tests.{every, within_facts, within_test, bool_cases, same_test}
use Rattle.laws.specs.Tests.{every_append}
use Rattle.laws.specs.Deciding.{every_split, every_flatten, every_unflatten, every_map, every_both}
use Rattle.meaning.specs.Numbers.{largest_factor, rising_above, settings_allowed, connection_allowed, most_connections, most_waiting, last_slot}
use Rattle.meaning.specs.Envelope.{allowance_kept}
use Rattle.meaning.specs.declared.Packet.{Packet}
use Rattle.meaning.specs.Box.{Box, connections, waiting, on_link, packets, packet_kept, link_kept, serials_rise, allowances_kept, sound}
use Rattle.meaning.proofs.Facts.{sound_facts, sound_test, settings_facts}
use Rattle.words.specs.Places.{box_words, word, lengths_below, place_of, classes_at, factors_at, row_count_at, rows_at, counter_at, accepted_at, left_at, link_at, lengths_at}
use Rattle.words.specs.Contents.{contents, settings_at, standings, packet_at, link_of, turns_at, queue_at, queues_at}
use Rattle.words.specs.Sound.{zeros, unused_clear, link_clear, empty_from, untagged_empty, well_formed, sound_words}
use Rattle.words.specs.Tested.{settings_tested, row_kept, rows_tested, link_tested, counts_tested, queues_tested, tested}
use Rattle.words.proofs.PutContents.{row_count, untagged_zero}
use Rattle.words.proofs.ContentsPut.{link_carries}
use Rattle.words.proofs.Counts.{waiting_count, sound_fitting}
use Rattle.words.proofs.QueuesTested.{QueueFacts, QueuesFacts, queues_facts, queues_test, in_queues_all, in_queues_at}

-- The parts of the test as facts about the words.
record Parts (ws : List ℕ) : Type 0 where
  enough : box_words ≤ length ws
  classes : word ws classes_at ≤ 8
  settings : settings_allowed (settings_at ws) ≡ true
  factors_clear : zeros ws (factors_at + word ws classes_at) (row_count_at - (factors_at + word ws classes_at)) ≡ true
  rows : word ws row_count_at ≤ 32
  rows_kept : every (row_kept ws) (standings ws) ≡ true
  rows_clear : zeros ws (rows_at + 6 * word ws row_count_at) (counter_at - (rows_at + 6 * word ws row_count_at)) ≡ true
  counter : word ws counter_at ≤ 4000000000
  total : lengths_below ws 64 ≤ 1024
  accepted : word ws accepted_at ≤ word ws counter_at + (lengths_below ws 64 + cond (eqb (word ws left_at) 0) 0 1)
  link : link_tested ws ≡ true
  queues : QueuesFacts ws

-- Words that pass the test keep its parts.
tested_parts : (ws : List ℕ) → tested ws ≡ true → Parts ws
unfolding tested settings_tested rows_tested counts_tested
tested_parts ws e =
    (let l = leb box_words (length ws) in
    let S = settings_tested ws in
    let R = rows_tested ws in
    let C = counts_tested ws in
    let L = link_tested ws in
    let a = (and-eq-true_iff (l && S && R && C && L) (queues_tested ws)).0 e in
    let b = (and-eq-true_iff (l && S && R && C) L).0 a.0 in
    let c = (and-eq-true_iff (l && S && R) C).0 b.0 in
    let d = (and-eq-true_iff (l && S) R).0 c.0 in
    let f = (and-eq-true_iff l S).0 d.0 in
    let s = (and-eq-true_iff (leb (word ws classes_at) 8 && settings_allowed (settings_at ws))
    (zeros ws (factors_at + word ws classes_at) (row_count_at - (factors_at + word ws classes_at)))).0 f.1 in
    let s2 = (and-eq-true_iff (leb (word ws classes_at) 8) (settings_allowed (settings_at ws))).0 s.0 in
    let r = (and-eq-true_iff (leb (word ws row_count_at) most_connections && every (row_kept ws) (standings ws))
    (zeros ws (rows_at + 6 * word ws row_count_at) (counter_at - (rows_at + 6 * word ws row_count_at)))).0 d.1 in
    let r2 = (and-eq-true_iff (leb (word ws row_count_at) most_connections) (every (row_kept ws) (standings ws))).0 r.0 in
    let n = leb (word ws accepted_at) (word ws counter_at + (lengths_below ws 64 + cond (eqb (word ws left_at) 0) 0 1)) in
    let k = (and-eq-true_iff (leb (word ws counter_at) last_slot && leb (lengths_below ws 64) most_waiting) n).0 c.1 in
    let k2 = (and-eq-true_iff (leb (word ws counter_at) last_slot) (leb (lengths_below ws 64) most_waiting)).0 k.0 in
    record {
      enough = leb-true _ _ f.0;
      classes = leb-true _ _ s2.0;
      settings = s2.1;
      factors_clear = s.1;
      rows = leb-true _ _ r2.0;
      rows_kept = r2.1;
      rows_clear = r.1;
      counter = leb-true _ _ k2.0;
      total = leb-true _ _ k2.1;
      accepted = leb-true _ _ k.1;
      link = b.1;
      queues = queues_facts ws a.1;
    })

-- Words that keep the parts of the test pass it.
parts_tested : (ws : List ℕ) → Parts ws → tested ws ≡ true
unfolding tested settings_tested rows_tested counts_tested
parts_tested ws p =
    (let l = leb box_words (length ws) in
    let S = settings_tested ws in
    let R = rows_tested ws in
    let C = counts_tested ws in
    let L = link_tested ws in
    let n = leb (word ws accepted_at) (word ws counter_at + (lengths_below ws 64 + cond (eqb (word ws left_at) 0) 0 1)) in
    let s : S ≡ true = (and-eq-true_iff (leb (word ws classes_at) 8 && settings_allowed (settings_at ws))
    (zeros ws (factors_at + word ws classes_at) (row_count_at - (factors_at + word ws classes_at)))).1 (
      (and-eq-true_iff (leb (word ws classes_at) 8) (settings_allowed (settings_at ws))).1 (le-leb _ _ p.classes, p.settings),
      p.factors_clear,
    ) in
    let r : R ≡ true = (and-eq-true_iff (leb (word ws row_count_at) most_connections && every (row_kept ws) (standings ws))
    (zeros ws (rows_at + 6 * word ws row_count_at) (counter_at - (rows_at + 6 * word ws row_count_at)))).1 (
      (and-eq-true_iff (leb (word ws row_count_at) most_connections) (every (row_kept ws) (standings ws))).1
          (le-leb _ _ p.rows, p.rows_kept),
      p.rows_clear,
    ) in
    let c : C ≡ true = (and-eq-true_iff (leb (word ws counter_at) last_slot && leb (lengths_below ws 64) most_waiting) n).1 (
      (and-eq-true_iff (leb (word ws counter_at) last_slot) (leb (lengths_below ws 64) most_waiting)).1
          (le-leb _ _ p.counter, le-leb _ _ p.total),
      le-leb _ _ p.accepted,
    ) in
    (and-eq-true_iff (l && S && R && C && L) (queues_tested ws)).1 (
      (and-eq-true_iff (l && S && R && C) L).1 (
        (and-eq-true_iff (l && S && R) C).1 ((and-eq-true_iff (l && S) R).1 ((and-eq-true_iff l S).1 (le-leb _ _ p.enough, s), r), c),
        p.link,
      ),
      queues_test ws p.queues,
    ))

-- The link's words are 0 where it is free; else its packet is kept and its units left are in range.
record LinkFacts (box : Box) (ws : List ℕ) : Type 0 where
  clear : link_clear ws ≡ true
  kept : every (packet_kept box) (on_link (link_of (word ws left_at) (packet_at ws link_at))) ≡ true
  left : link_kept (link_of (word ws left_at) (packet_at ws link_at)) ≡ true

-- The link has no packet where no units are left, and one packet otherwise.
link_count : (n : ℕ) (p : Packet) → length (on_link (link_of n p)) ≡ cond (eqb n 0) 0 1
unfolding on_link link_of
link_count zero p = refl
link_count (suc n) p = sym (ap (λ b. cond b 0 1) (ne_eqb (suc n) 0 (λ e. omega arith)))

-- A link that passes its test keeps its clauses.
link_facts : (ws : List ℕ) → link_tested ws ≡ true → LinkFacts (contents ws) ws
unfolding link_tested link_clear on_link link_of every link_kept packet_at
link_facts ws e =
    ⊎_elim
    (λ (q : eqb (word ws left_at) 0 ≡ true).
    (let z = eqb-true (word ws left_at) 0 q in
    let c : zeros ws link_at (lengths_at - link_at) ≡ true = sym (ap (λ b. cond b (zeros ws link_at (lengths_at - link_at))
    (packet_kept (contents ws) (packet_at ws link_at) && ltb (word ws left_at) (word ws (link_at + 2)))) q) ∙ e in
    record {
      clear = ap (λ b. cond b (zeros ws link_at (lengths_at - link_at)) true) q ∙ c;
      kept = ap (λ n. every (packet_kept (contents ws)) (on_link (link_of n (packet_at ws link_at)))) z;
      left = ap (λ n. link_kept (link_of n (packet_at ws link_at))) z;
    }))
    (λ (q : eqb (word ws left_at) 0 ≡ false).
    (let z = eqb-false (word ws left_at) 0 q in
    let t = sym (ap (λ b. cond b (zeros ws link_at (lengths_at - link_at))
    (packet_kept (contents ws) (packet_at ws link_at) && ltb (word ws left_at) (word ws (link_at + 2)))) q) ∙ e in
    let a = (and-eq-true_iff (packet_kept (contents ws) (packet_at ws link_at)) (ltb (word ws left_at) (word ws (link_at + 2)))).0 t in
    let h : word ws left_at < word ws (link_at + 2) = ltb-true _ _ a.1 in
    let l = link_carries (word ws left_at) (packet_at ws link_at) (omega arith) in
    record {
      clear = ap (λ b. cond b (zeros ws link_at (lengths_at - link_at)) true) q;
      kept = ap (λ l. every (packet_kept (contents ws)) (on_link l)) l ∙
          (and-eq-true_iff (packet_kept (contents ws) (packet_at ws link_at)) true).1 (a.0, refl);
      left = ap link_kept l ∙ within_test 1 (word ws left_at) (word ws (link_at + 2) - 1) (omega arith) (omega arith);
    }))
    (bool_cases (eqb (word ws left_at) 0))

-- A link that keeps its clauses passes its test.
link_test : (ws : List ℕ) → LinkFacts (contents ws) ws → link_tested ws ≡ true
unfolding link_tested link_clear on_link link_of every link_kept packet_at
link_test ws f =
    ⊎_elim
    (λ (q : eqb (word ws left_at) 0 ≡ true).
    ap (λ b. cond b (zeros ws link_at (lengths_at - link_at))
    (packet_kept (contents ws) (packet_at ws link_at) && ltb (word ws left_at) (word ws (link_at + 2)))) q ∙
    sym (ap (λ b. cond b (zeros ws link_at (lengths_at - link_at)) true) q) ∙ f.clear)
    (λ (q : eqb (word ws left_at) 0 ≡ false).
    (let z = eqb-false (word ws left_at) 0 q in
    let l = link_carries (word ws left_at) (packet_at ws link_at) (omega arith) in
    let k = (and-eq-true_iff (packet_kept (contents ws) (packet_at ws link_at)) true).0
    (sym (ap (λ l. every (packet_kept (contents ws)) (on_link l)) l) ∙ f.kept) in
    let w = within_facts 1 (word ws left_at) (word ws (link_at + 2) - 1) (sym (ap link_kept l) ∙ f.left) in
    ap (λ b. cond b (zeros ws link_at (lengths_at - link_at))
    (packet_kept (contents ws) (packet_at ws link_at) && ltb (word ws left_at) (word ws (link_at + 2)))) q ∙
    (and-eq-true_iff (packet_kept (contents ws) (packet_at ws link_at)) (ltb (word ws left_at) (word ws (link_at + 2)))).1
    (k.0, lt-ltb (word ws left_at) (word ws (link_at + 2)) (omega arith))))
    (bool_cases (eqb (word ws left_at) 0))

-- Every row is kept exactly if all connections are allowed and all allowances are in range.
rows_both : (ws : List ℕ) → every (row_kept ws) (standings ws) ≡
    (every (connection_allowed (settings_at ws)) (connections (contents ws)) && allowances_kept (contents ws))
unfolding row_kept connections allowances_kept contents
rows_both ws =
    every_both (λ s. connection_allowed (settings_at ws) s.asked) (λ s. allowance_kept s.asked (word ws counter_at) s.allowance)
    (standings ws) ∙
    ap (λ b. b && every (λ s. allowance_kept s.asked (word ws counter_at) s.allowance) (standings ws))
    (sym (every_map (connection_allowed (settings_at ws)) (λ s. s.asked) (standings ws)))

-- Where the queues keep their clauses, the places of no tag have no packet.
untagged_test : (ws : List ℕ) → QueuesFacts ws → untagged_empty ws ≡ true
unfolding untagged_empty empty_from
untagged_test ws f =
    (let r = largest_factor (settings_at ws) in
    every_all (λ w. eqb w 0) (λ k. word ws (lengths_at + place_of (turns_at ws) k)) 1 (suc r) (63 - r) (λ i h.
    eq-eqb _ 0 (f.untagged (suc r + 1 * i) (omega arith) (omega arith))))

-- There are rP + 1 queues.
queues_count : (ws : List ℕ) → length (queues_at ws) ≡ suc (largest_factor (settings_at ws))
unfolding queues_at
queues_count ws = length_series (λ k. queue_at ws (place_of (turns_at ws) k)) 1 0 (suc (largest_factor (settings_at ws)))

-- If the queue at the place of each tag passes a test, all queues do.
each_queue : (ws : List ℕ) (test : List Packet → Bool)
    → ((k : ℕ) → k ≤ largest_factor (settings_at ws) → test (queue_at ws (place_of (turns_at ws) k)) ≡ true) → every test (queues_at ws) ≡ true
unfolding queues_at
each_queue ws test h =
    every_all test (λ k. queue_at ws (place_of (turns_at ws) k)) 1 0 (suc (largest_factor (settings_at ws))) (λ i l. h (0 + 1 * i) (omega arith))

-- If all queues pass a test, the queue at the place of each tag does.
queue_each : (ws : List ℕ) (test : List Packet → Bool) → every test (queues_at ws) ≡ true
    → (k : ℕ) → k ≤ largest_factor (settings_at ws) → test (queue_at ws (place_of (turns_at ws) k)) ≡ true
unfolding queues_at
queue_each ws test e k h =
    (let z : 0 + 1 * k ≡ k = omega arith in
    sym (ap (λ n. test (queue_at ws (place_of (turns_at ws) n))) z) ∙
    every_index test (λ k. queue_at ws (place_of (turns_at ws) k)) 1 0 (suc (largest_factor (settings_at ws))) e k (omega arith))

-- The contents of words that keep the parts of the test are sound.
parts_sound : (ws : List ℕ) → Parts ws → sound (contents ws) ≡ true
unfolding contents packets waiting serials_rise queues_at turns_at settings_at
parts_sound ws p =
    (let box = contents ws in
    let s = settings_facts (settings_at ws) p.settings in
    let u = untagged_test ws p.queues in
    let n : lengths_below ws 64 ≡ length (waiting box) = waiting_count ws u s.factor_most in
    let b = (and-eq-true_iff (every (connection_allowed (settings_at ws)) (connections box)) (allowances_kept box)).0
    (sym (rows_both ws) ∙ p.rows_kept) in
    let l = link_facts ws p.link in
    let onlink = link_of (word ws left_at) (packet_at ws link_at) in
    let tagged : (k : ℕ) → k ≤ largest_factor (settings_at ws) → QueueFacts box (turns_at ws + k) 0 (queue_at ws (place_of (turns_at ws) k)) =
    λ k h. p.queues.tagged k h (omega (arith, s.factor_most)) in
    let c : length (packets box) ≡ length (waiting box) + cond (eqb (word ws left_at) 0) 0 1 =
    length-append (waiting box) (on_link onlink) ∙ ap (λ m. length (waiting box) + m) (link_count (word ws left_at) (packet_at ws link_at)) in
    sound_test box (record {
      settings_allowed_lem = p.settings;
      connections_most = omega (arith, p.rows, row_count ws);
      connections_allowed = b.0;
      waiting_most = omega (arith, p.total);
      counter_most = p.counter;
      queue_count = queues_count ws;
      in_their_queues_lem = in_queues_all box (λ k. queue_at ws (place_of (turns_at ws) k)) 0 (suc (largest_factor (settings_at ws)))
          (λ k a h. (tagged k (omega arith)).ranked);
      serials_rise_lem = each_queue ws (λ q. rising_above 0 (map (λ p. p.serial) q)) (λ k h. (tagged k h).rise);
      packets_kept = every_append (packet_kept box) (waiting box) (on_link onlink)
          (every_flatten (packet_kept box) (queues_at ws) (each_queue ws (every (packet_kept box)) (λ k h. (tagged k h).kept))) l.kept;
      link_kept_lem = l.left;
      count_most = omega (arith, p.accepted);
      allowances_kept_lem = b.1;
    }))

-- Words that keep the parts of the test are well formed.
parts_formed : (ws : List ℕ) → Parts ws → well_formed ws ≡ true
unfolding well_formed unused_clear
parts_formed ws p =
    (and-eq-true_iff (leb box_words (length ws) && unused_clear ws && link_clear ws) (untagged_empty ws)).1 (
      (and-eq-true_iff (leb box_words (length ws) && unused_clear ws) (link_clear ws)).1 (
        (and-eq-true_iff (leb box_words (length ws)) (unused_clear ws)).1 (
          le-leb _ _ p.enough,
          (and-eq-true_iff (zeros ws (factors_at + word ws classes_at) (row_count_at - (factors_at + word ws classes_at)))
              (zeros ws (rows_at + 6 * word ws row_count_at) (counter_at - (rows_at + 6 * word ws row_count_at)))).1
              (p.factors_clear, p.rows_clear),
        ),
        (link_facts ws p.link).clear,
      ),
      untagged_test ws p.queues,
    )

-- The contents of sound words are sound.
pub sound_contents : (ws : List ℕ) → sound_words ws ≡ true → sound (contents ws) ≡ true
unfolding sound_words
sound_contents ws e = ((and-eq-true_iff (well_formed ws) (sound (contents ws))).0 e).1

-- Sound words keep the parts of the test.
sound_parts : (ws : List ℕ) → sound_words ws ≡ true → Parts ws
unfolding contents packets waiting serials_rise queues_at turns_at settings_at
sound_parts ws e =
    (let box = contents ws in
    let k = sound_fitting ws e in
    let f = sound_facts box (sound_contents ws e) in
    let s = settings_facts (settings_at ws) f.settings_allowed_lem in
    let onlink = link_of (word ws left_at) (packet_at ws link_at) in
    let n : lengths_below ws 64 ≡ length (waiting box) = waiting_count ws k.untagged k.largest in
    let c : length (packets box) ≡ length (waiting box) + cond (eqb (word ws left_at) 0) 0 1 =
    length-append (waiting box) (on_link onlink) ∙ ap (λ m. length (waiting box) + m) (link_count (word ws left_at) (packet_at ws link_at)) in
    let q = every_split (packet_kept box) (waiting box) (on_link onlink) f.packets_kept in
    record {
      enough = k.enough;
      classes = k.classes;
      settings = f.settings_allowed_lem;
      factors_clear = k.factors_clear;
      rows = k.rows;
      rows_kept = rows_both ws ∙ (and-eq-true_iff (every (connection_allowed (settings_at ws)) (connections box)) (allowances_kept box)).1
          (f.connections_allowed, f.allowances_kept_lem);
      rows_clear = k.rows_clear;
      counter = f.counter_most;
      total = k.total;
      accepted = omega (arith, f.count_most);
      link = link_test ws (record { clear = k.link_clear_lem; kept = q.1; left = f.link_kept_lem });
      queues = record {
        tagged = λ j h l. record {
          rise = queue_each ws (λ q. rising_above 0 (map (λ p. p.serial) q)) f.serials_rise_lem j h;
          kept = queue_each ws (every (packet_kept box)) (every_unflatten (packet_kept box) (queues_at ws) q.0) j h;
          ranked = in_queues_at box (λ k. queue_at ws (place_of (turns_at ws) k)) 0 (suc (largest_factor (settings_at ws)))
              f.in_their_queues_lem j (omega arith) (omega arith);
        };
        untagged = λ j h l. untagged_zero ws k.untagged j h l;
      };
    })

-- Words pass the test, part by part, exactly if they are sound.
pub tested_sound : (ws : List ℕ) → tested ws ≡ sound_words ws
unfolding sound_words
tested_sound ws =
    same_test (tested ws) (sound_words ws)
    (λ e. (let p = tested_parts ws e in (and-eq-true_iff (well_formed ws) (sound (contents ws))).1 (parts_formed ws p, parts_sound ws p)))
    (λ e. parts_tested ws (sound_parts ws e))

-- The queues of sound words keep their clauses.
pub sound_queues : (ws : List ℕ) → sound_words ws ≡ true → QueuesFacts ws
sound_queues ws e = (sound_parts ws e).queues
