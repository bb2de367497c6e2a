-- The words of a table, entry after entry, are the words that it was read from.
use Rattle.std.proofs.Common.{◌≡◌, ℕ, zero, suc, ◌+◌, ◌*◌, ◌<◌, ◌≤◌, List, ◌∷◌, map, length, get_or, take, drop, refl, mul-zero, mul-suc, add-one, arith, drop-cons, drop-drop, take-add}
use mathlib.Core.List.{flatten}
use native.Mathlib.Numerals.{towards_suc}
use Rattle.meaning.specs.Plan.{table, factor_at, connection_at, arrival_at, connection_words, arrival_words}

module _ {A : Type 0} (entry : List ℕ → ℕ → A) (width : ℕ) where
  -- The words of a table's entries, one after another, are the words that the table was read from.
  pub words_of_table :
      (words : A → List ℕ) →
      ((ws : List ℕ) (i : ℕ) → i + width ≤ length ws → words (entry ws i) ≡ take width (drop i ws)) →
      (ws : List ℕ) (i n : ℕ) → i + width * n ≤ length ws → flatten (map words (table entry width ws i n)) ≡ take (width * n) (drop i ws)
  unfolding table flatten
  words_of_table words back ws i zero h = rw mul-zero
  words_of_table words back ws i (suc n) h =
      let m : width * suc n ≡ width + width * n = omega (arith, mul-suc width n) in
      rw (
        back ws i (omega arith),
        words_of_table words back ws (i + width) n (omega arith),
        m,
        take-add width (width * n) (drop i ws),
        drop-drop width i ws,
      )

-- A word of the list and what stands behind it.
step : (ws : List ℕ) (i : ℕ) → i < length ws → drop i ws ≡ get_or ws i 0 ∷ drop (suc i) ws
step ws i h = drop-cons ws i 0 h

-- A connection's words are the four from its place on.
pub connection_words_lem : (ws : List ℕ) (i : ℕ) → i + 4 ≤ length ws → connection_words (connection_at ws i) ≡ take 4 (drop i ws)
unfolding connection_words connection_at
connection_words_lem ws i h =
    simp towards_suc
    (rw (
      step ws i (omega arith),
      step ws (suc i) (omega arith),
      step ws (suc (suc i)) (omega arith),
      step ws (suc (suc (suc i))) (omega arith),
    ))

-- An arrival's words are the three from its place on.
pub arrival_words_lem : (ws : List ℕ) (i : ℕ) → i + 3 ≤ length ws → arrival_words (arrival_at ws i) ≡ take 3 (drop i ws)
unfolding arrival_words arrival_at
arrival_words_lem ws i h =
    simp towards_suc (rw (step ws i (omega arith), step ws (suc i) (omega arith), step ws (suc (suc i)) (omega arith)))

-- The words of a table of connections are the words that it was read from.
pub connections_back :
    (ws : List ℕ) (i n : ℕ) → i + 4 * n ≤ length ws → flatten (map connection_words (table connection_at 4 ws i n)) ≡ take (4 * n) (drop i ws)
connections_back = words_of_table connection_at 4 connection_words connection_words_lem

-- The words of a table of arrivals are the words that it was read from.
pub arrivals_back :
    (ws : List ℕ) (i n : ℕ) → i + 3 * n ≤ length ws → flatten (map arrival_words (table arrival_at 3 ws i n)) ≡ take (3 * n) (drop i ws)
arrivals_back = words_of_table arrival_at 3 arrival_words arrival_words_lem

-- A table of factors is the words that it was read from.
pub factors_back : (ws : List ℕ) (i n : ℕ) → i + n ≤ length ws → table factor_at 1 ws i n ≡ take n (drop i ws)
unfolding table factor_at
factors_back ws i zero h = refl
factors_back ws i (suc n) h = rw (step ws i (omega arith), factors_back ws (i + 1) n (omega arith), add-one)
