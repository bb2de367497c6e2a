-- The counter raised to any slot where no packet waits: empty queues are the same by every rotation of their places.
use Prim.Native.Nat.{ℕ, zero, suc, ◌+◌, ◌*◌, ◌-◌, ◌<◌}
use mathlib.Core.Path.{◌≡◌, sym, ap, ◌∙◌}
use mathlib.Core.Bool.{true}
use mathlib.Core.List.{List}
use native.Mathlib.Omega.{arith}
use native.Mathlib.Decide.{dec_le}
use lib.ListN.{length, set}
use lib.Dec.{eqb}
use borrow.Author.Tests.{eq-eqb}
use Rattle.laws.specs.Series.{series_same, every_all}
use Rattle.meaning.specs.Numbers.{largest_factor}
use Rattle.meaning.specs.Box.{waiting}
use Rattle.words.specs.Places.{word, lengths_below, place_of, counter_at, lengths_at}
use Rattle.words.specs.Contents.{contents, settings_at, turns_at, queue_at, queues_at}
use Rattle.words.specs.Sound.{empty_from, untagged_empty, Fitting}
use Rattle.words.specs.Changes.{Become}
use Rattle.tables.specs.TableChanges.{with_counter}
use Rattle.words.proofs.PutContents.{queue_untagged}
use Rattle.words.proofs.Counts.{waiting_count}
use Rattle.words.proofs.Rotation.{place_below}
use Rattle.words.proofs.Same.{queue_same}
use Rattle.tables.proofs.SmallChanges.{counted_far, counted_settings, counter_become}

-- Where the lengths sum to 0, each is 0.
each_zero : (ws : List ℕ) (n : ℕ) → lengths_below ws n ≡ 0 → (p : ℕ) → p < n → word ws (lengths_at + p) ≡ 0
unfolding lengths_below
each_zero ws zero e p h = absurd (let z = h in omega arith)
each_zero ws (suc n) e p h =
    (let z : lengths_below ws n + word ws (lengths_at + n) ≡ 0 = e in
    elim (dec_le n p) [
      | yes k ↦ (let q : p ≡ n = omega arith in ap (λ x. word ws (lengths_at + x)) q ∙ omega (arith, z))
      | no k ↦ each_zero ws n (omega (arith, z)) p (omega arith)
    ])

module _ (ws : List ℕ) (v : ℕ) (k : Fitting ws) (none : length (waiting (contents ws)) ≡ 0) where
  -- Where no packet waits, the length at the place of every tag is 0, however often the queues have turned.
  zero_at : (turns tag : ℕ) → word ws (lengths_at + place_of turns tag) ≡ 0
  zero_at turns tag = each_zero ws 64 (waiting_count ws k.untagged k.largest ∙ none) (place_of turns tag) (place_below turns tag)

  -- Where no packet waits, the places of no tag stay empty at any counter.
  passed_untagged : untagged_empty (set ws counter_at v) ≡ true
  unfolding untagged_empty empty_from
  passed_untagged =
      (let r = largest_factor (settings_at ws) in
      let t = turns_at (set ws counter_at v) in
      rw (counted_settings ws v k)
      (every_all (λ w. eqb w 0) (λ j. word (set ws counter_at v) (lengths_at + place_of t j)) 1 (suc r) (63 - r) (λ i h.
      (let j = suc r + 1 * i in
      eq-eqb _ 0 (counted_far ws v k (lengths_at + place_of t j) (omega arith) ∙ zero_at t j)))))

  -- Where no packet waits, the queues stay as they are at any counter.
  passed_queues : queues_at (set ws counter_at v) ≡ (contents ws).queues
  unfolding queues_at contents
  passed_queues =
      (let r = largest_factor (settings_at ws) in
      let t = turns_at (set ws counter_at v) in
      rw (counted_settings ws v k)
      (series_same (λ j. queue_at (set ws counter_at v) (place_of t j)) (λ j. queue_at ws (place_of (turns_at ws) j)) 1 0 0 (suc r) (λ i h.
      (let j = 0 + 1 * i in
      queue_same ws (set ws counter_at v) (counted_far ws v k) (place_of t j) ∙ queue_untagged ws (place_of t j) (zero_at t j) ∙
      sym (queue_untagged ws (place_of (turns_at ws) j) (zero_at (turns_at ws) j))))))

  -- Where no packet waits, storing a counter makes the words those of the box with that counter.
  pub pass_become : Become ws (set ws counter_at v) (with_counter (contents ws) v)
  unfolding with_counter
  pass_become = counter_become ws v k (contents ws).queues passed_untagged passed_queues
