-- Parts of the contents that read the same words are the same.
use Prim.Native.Nat.{ℕ, zero, suc, ◌+◌, ◌*◌, ◌-◌, ◌≤◌, ◌<◌}
use mathlib.Core.Path.{◌≡◌, refl, sym, ap, ◌∙◌}
use mathlib.Core.Bool.{true}
use mathlib.Core.List.{List, []}
use native.Mathlib.Omega.{arith}
use lib.ListN.{length, get_or, drop}
use lib.Seq.{ext_get_or, get_or-drop}
use lib.ListN.{length-drop}
use lib.Dec.{eqb}
use Rattle.laws.specs.Series.{get_or_series, series_same}
use Rattle.laws.specs.Tests.{every}
use Rattle.meaning.specs.Numbers.{largest_factor}
use Rattle.meaning.specs.declared.Packet.{Packet}
use Rattle.words.specs.Places.{word, lengths_below, start_of, place_of, interval_at, cycle_at, classes_at, factors_at, row_count_at, rows_at, counter_at, left_at, link_at, lengths_at, packets_at}
use Rattle.words.specs.Contents.{contents, settings_at, standings, standing_at, packet_at, turns_at, queue_at, queues_at}
use Rattle.words.specs.Sound.{zeros, link_clear, empty_from, untagged_empty, Fitting}
use Rattle.words.proofs.ContentsPut.{length_queue}

-- The queue of a tag in the contents is the queue at its place.
pub queue_tagged_at : (ws : List ℕ) (tag : ℕ) → tag ≤ largest_factor (settings_at ws)
    → get_or (contents ws).queues tag [] ≡ queue_at ws (place_of (turns_at ws) tag)
unfolding contents queues_at
queue_tagged_at ws tag h =
    (let f : ℕ → List Packet = λ k. queue_at ws (place_of (turns_at ws) k) in
    let e : 0 + 1 * tag ≡ tag = omega arith in
    get_or_series f 1 0 (suc (largest_factor (settings_at ws))) tag [] (omega arith) ∙ ap f e)

-- The queue of a tag has as many packets as the word for the length at its place says.
pub waiting_length : (ws : List ℕ) (tag : ℕ) → tag ≤ largest_factor (settings_at ws)
    → length (get_or (contents ws).queues tag []) ≡ word ws (lengths_at + place_of (turns_at ws) tag)
waiting_length ws tag h = ap length (queue_tagged_at ws tag h) ∙ length_queue ws (place_of (turns_at ws) tag)

module _ (ws after : List ℕ) where
  -- Words with the same settings words have the same settings.
  pub settings_same : word ws classes_at ≤ 8 → ((i : ℕ) → i < row_count_at → word after i ≡ word ws i) → settings_at after ≡ settings_at ws
  unfolding settings_at
  settings_same h e =
      (let f : ℕ → ℕ = λ i. word ws i in
      let g : ℕ → ℕ = λ i. word after i in
      rw (
        e interval_at (omega arith),
        e cycle_at (omega arith),
        e classes_at (omega arith),
        series_same g f 1 factors_at factors_at (word ws classes_at) (λ i l. e (factors_at + 1 * i) (omega arith)),
      ))

  -- A row that reads the same six words is the same.
  pub standing_same : (at : ℕ) → ((i : ℕ) → at ≤ i → i < at + 6 → word after i ≡ word ws i) → standing_at after at ≡ standing_at ws at
  unfolding standing_at
  standing_same at e =
      rw (
        e at (omega arith) (omega arith),
        e (at + 1) (omega arith) (omega arith),
        e (at + 2) (omega arith) (omega arith),
        e (at + 3) (omega arith) (omega arith),
        e (at + 4) (omega arith) (omega arith),
        e (at + 5) (omega arith) (omega arith),
      )

  -- Words with the same count and rows have the same connections standing.
  pub standings_same : word ws row_count_at ≤ 32 → ((i : ℕ) → row_count_at ≤ i → i < counter_at → word after i ≡ word ws i)
      → standings after ≡ standings ws
  unfolding standings
  standings_same h e =
      rw (e row_count_at (omega arith) (omega arith))
      (series_same (standing_at after) (standing_at ws) 6 rows_at rows_at (word ws row_count_at)
      (λ i l. standing_same (rows_at + 6 * i) (λ j a b. e j (omega arith) (omega arith))))

  -- Packets that read the same four words are the same.
  pub packet_same : (at other : ℕ) → ((k : ℕ) → k < 4 → word after (at + k) ≡ word ws (other + k)) → packet_at after at ≡ packet_at ws other
  unfolding packet_at
  packet_same at other e =
      (let a : at + 0 ≡ at = omega arith in
      let b : other + 0 ≡ other = omega arith in
      let z : word after at ≡ word ws other = sym (ap (λ i. word after i) a) ∙ e 0 (omega arith) ∙ ap (λ i. word ws i) b in
      rw (z, e 1 (omega arith), e 2 (omega arith), e 3 (omega arith)))

  -- Words that are the same over a stretch pass the test for zeros there alike.
  pub zeros_same : (start n : ℕ) → ((i : ℕ) → start ≤ i → i < start + n → word after i ≡ word ws i) → zeros after start n ≡ zeros ws start n
  unfolding zeros
  zeros_same start n e =
      ap (every (λ w. eqb w 0)) (series_same (λ i. word after i) (λ i. word ws i) 1 start start n
      (λ i l. e (start + 1 * i) (omega arith) (omega arith)))

  -- Words with the same interval and counter have turned as often.
  pub turns_same : word after interval_at ≡ word ws interval_at → word after counter_at ≡ word ws counter_at → turns_at after ≡ turns_at ws
  unfolding turns_at
  turns_same a b = rw (a, b)

  -- Words that are the same from place n on have the same rest there.
  pub drop_same : (n : ℕ) → length after ≡ length ws → ((i : ℕ) → n ≤ i → word after i ≡ word ws i) → drop n after ≡ drop n ws
  drop_same n l e =
      ext_get_or 0 (drop n after) (drop n ws) (rw (length-drop n after, length-drop n ws, l))
      (λ i h. get_or-drop n after i 0 ∙ e (n + i) (omega arith) ∙ sym (get_or-drop n ws i 0))

-- Words whose tables of settings and connections stay, with a clear link and queues in order, are fitting.
pub fitting_kept : (ws after : List ℕ) → Fitting ws → length after ≡ length ws
    → ((i : ℕ) → i < counter_at → word after i ≡ word ws i)
    → link_clear after ≡ true → untagged_empty after ≡ true → lengths_below after 64 ≤ 1024 → Fitting after
fitting_kept ws after k l e c u t =
    (let two = e classes_at (omega arith) in
    let n = e row_count_at (omega arith) in
    let set = settings_same ws after k.classes (λ i h. e i (omega arith)) in
    record {
      enough = omega (arith, k.enough);
      interval = omega (arith, k.interval, e interval_at (omega arith));
      classes_least = omega (arith, k.classes_least);
      classes = omega (arith, k.classes);
      factors_clear = rw two (zeros_same ws after (factors_at + word ws classes_at) (row_count_at - (factors_at + word ws classes_at))
          (λ i a b. e i (omega (arith, k.classes))) ∙ k.factors_clear);
      rows = omega (arith, k.rows);
      rows_clear = rw n (zeros_same ws after (rows_at + 6 * word ws row_count_at) (counter_at - (rows_at + 6 * word ws row_count_at))
          (λ i a b. e i (omega (arith, k.rows))) ∙ k.rows_clear);
      link_clear_lem = c;
      largest = rw set k.largest;
      untagged = u;
      total = t;
    })

-- Words with the same link words pass the test for a clear link alike.
pub link_clear_same : (ws after : List ℕ) → ((i : ℕ) → left_at ≤ i → i < lengths_at → word after i ≡ word ws i)
    → link_clear after ≡ link_clear ws
unfolding link_clear
link_clear_same ws after e =
    rw (e left_at (omega arith) (omega arith), zeros_same ws after link_at 4 (λ i a b. e i (omega arith) (omega arith)))

-- words of the queues that stay give the same queues
module _ (ws after : List ℕ) (e : (i : ℕ) → lengths_at ≤ i → word after i ≡ word ws i) where
  -- Words that are the same from the lengths on have as many packets below each place.
  pub lengths_same : (p : ℕ) → lengths_below after p ≡ lengths_below ws p
  unfolding lengths_below
  lengths_same zero = refl
  lengths_same (suc p) = rw (lengths_same p, e (lengths_at + p) (omega arith))

  -- Words that are the same from the lengths on have the same queue at each place.
  pub queue_same : (p : ℕ) → queue_at after p ≡ queue_at ws p
  unfolding queue_at start_of
  queue_same p =
      rw (e (lengths_at + p) (omega arith), lengths_same p)
      (series_same (packet_at after) (packet_at ws) 4 (packets_at + 4 * lengths_below ws p) (packets_at + 4 * lengths_below ws p)
      (word ws (lengths_at + p)) (λ i h.
      packet_same ws after (packets_at + 4 * lengths_below ws p + 4 * i) (packets_at + 4 * lengths_below ws p + 4 * i)
      (λ j g. e (packets_at + 4 * lengths_below ws p + 4 * i + j) (omega arith))))

  -- If the settings and the turns are the same too, so are the queues by their tags.
  pub queues_same : settings_at after ≡ settings_at ws → turns_at after ≡ turns_at ws → queues_at after ≡ queues_at ws
  unfolding queues_at
  queues_same s t =
      rw (s, t)
      (series_same (λ k. queue_at after (place_of (turns_at ws) k)) (λ k. queue_at ws (place_of (turns_at ws) k)) 1 0 0
      (suc (largest_factor (settings_at ws)))
      (λ i h. queue_same (place_of (turns_at ws) (0 + 1 * i))))

  -- If the settings and the turns are the same too, the places of no tag are tested alike.
  pub untagged_same : settings_at after ≡ settings_at ws → turns_at after ≡ turns_at ws → untagged_empty after ≡ untagged_empty ws
  unfolding untagged_empty empty_from
  untagged_same s t =
      (let r = largest_factor (settings_at ws) in
      rw (s, t)
      (ap (every (λ w. eqb w 0)) (series_same (λ k. word after (lengths_at + place_of (turns_at ws) k))
      (λ k. word ws (lengths_at + place_of (turns_at ws) k)) 1 (suc r) (suc r) (63 - r)
      (λ i h. e (lengths_at + place_of (turns_at ws) (suc r + 1 * i)) (omega arith)))))
