-- When words are sound: well formed, and their contents sound by document 01.
use Rattle.std.specs.Prelude.{ℕ, suc, ◌+◌, ◌-◌, ◌*◌, ◌≤◌, ◌<◌, ◌≡◌, Bool, true, ◌&&◌, cond, List, length, leb, eqb}
use Rattle.laws.specs.Series.{series}
use Rattle.laws.specs.Tests.{every}
use Rattle.meaning.specs.Numbers.{largest_factor}
use Rattle.meaning.specs.Box.{sound}
use Rattle.words.specs.Places.{box_words, word, lengths_below, place_of, interval_at, classes_at, factors_at, row_count_at, rows_at, left_at, link_at, lengths_at, counter_at}
use Rattle.words.specs.Contents.{contents, settings_at, turns_at}

-- Whether n words from `start` on are 0.
unfoldable pub zeros : List ℕ → ℕ → ℕ → Bool
zeros ws start n = every (λ w. eqb w 0) (series (λ i. word ws i) 1 start n)

-- The places of the factors and of the rows that are not used are 0.
unfoldable pub unused_clear : List ℕ → Bool
unused_clear ws = zeros ws (factors_at + word ws classes_at) (row_count_at - (factors_at + word ws classes_at)) &&
    zeros ws (rows_at + 6 * word ws row_count_at) (counter_at - (rows_at + 6 * word ws row_count_at))

-- Where no units are left on the link, its packet's words are 0.
unfoldable pub link_clear : List ℕ → Bool
link_clear ws = cond (eqb (word ws left_at) 0) (zeros ws link_at (lengths_at - link_at)) true

-- The lengths of the queues with numbers `tag` and up, of which there are n, are 0.
unfoldable pub empty_from : List ℕ → ℕ → ℕ → Bool
empty_from ws tag n = every (λ w. eqb w 0) (series (λ k. word ws (lengths_at + place_of (turns_at ws) k)) 1 tag n)

-- The places of no tag have no packet.
unfoldable pub untagged_empty : List ℕ → Bool
untagged_empty ws = empty_from ws (suc (largest_factor (settings_at ws))) (63 - largest_factor (settings_at ws))

-- The words are enough, and what is not used is 0.
unfoldable pub well_formed : List ℕ → Bool
well_formed ws = leb box_words (length ws) && unused_clear ws && link_clear ws && untagged_empty ws

-- "A state is sound exactly when its words stand for contents that" are sound; "a shorter state is not sound".
unfoldable pub sound_words : List ℕ → Bool
sound_words ws = well_formed ws && sound (contents ws)

-- What `is_sound` promises: "A state is sound exactly when .."
abbrev pub SoundPromise : List ℕ → Bool → Type 0
SoundPromise entry r = r ≡ sound_words entry

-- The numbers that sound words keep, as the inner functions ask them.
pub record Fitting (ws : List ℕ) : Type 0 where
  pub enough : box_words ≤ length ws
  pub interval : 1 ≤ word ws interval_at
  pub classes_least : 1 ≤ word ws classes_at
  pub classes : word ws classes_at ≤ 8
  pub factors_clear : zeros ws (factors_at + word ws classes_at) (row_count_at - (factors_at + word ws classes_at)) ≡ true
  pub rows : word ws row_count_at ≤ 32
  pub rows_clear : zeros ws (rows_at + 6 * word ws row_count_at) (counter_at - (rows_at + 6 * word ws row_count_at)) ≡ true
  pub link_clear_lem : link_clear ws ≡ true
  pub largest : largest_factor (settings_at ws) ≤ 63
  pub untagged : untagged_empty ws ≡ true
  pub total : lengths_below ws 64 ≤ 1024

-- The tables of settings and connections keep what the test of a packet asks: every row's class has a factor.
pub record Tables (ws : List ℕ) : Type 0 where
  pub enough : box_words ≤ length ws
  pub interval : 1 ≤ word ws interval_at
  pub classes_least : 1 ≤ word ws classes_at
  pub classes : word ws classes_at ≤ 8
  pub rows : word ws row_count_at ≤ 32
  pub class_least : (i : ℕ) → i < word ws row_count_at → 1 ≤ word ws (rows_at + 6 * i)
  pub class_most : (i : ℕ) → i < word ws row_count_at → word ws (rows_at + 6 * i) ≤ word ws classes_at
