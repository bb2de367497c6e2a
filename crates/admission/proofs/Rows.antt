-- Sums and largest values over the rows, one row more at a time.
use Prim.Native.Nat.{ℕ, zero, suc, ◌+◌, ◌-◌, ◌*◌, ◌/◌, ◌≤◌, ◌<◌, max}
use mathlib.Core.Path.{◌≡◌, refl, ap, ◌∙◌}
use mathlib.Core.Bool.{Bool, false, not, ◌&&◌, ◌||◌}
use mathlib.Core.List.{List, [], ◌∷◌, ◌++◌, map, map-append}
use native.Mathlib.Nat.{mul-le-mul, div-le_self}
use native.Mathlib.Numerals.{add-one}
use native.Mathlib.Omega.{arith}
use lib.ListN.{length}
use lib.Dec.{leb}
use Rattle.std.proofs.lemmas.Bool.{lt-leb}
use Rattle.laws.specs.Series.{series, series_last}
use Rattle.laws.specs.Sums.{sum_of, largest_of, sum_append}
use Rattle.meaning.specs.declared.Connection.{Connection}
use Rattle.meaning.specs.Admission.{term, sum_at, in_the_way, rate, twelve_range, eleven, twelve, condition_at}
use Rattle.meaning.specs.declared.Standing.{Standing}
use Rattle.meaning.proofs.Facts.{settings_facts, connection_facts}
use Rattle.words.specs.Places.{rows_at}
use Rattle.words.specs.Contents.{asked_at, standing_at, standings, settings_at, contents}
use Rattle.words.proofs.Readings.{standing_word}
use Rattle.admission.proofs.Tables.{asked_small, rows_most}
use Rattle.admission.specs.Asking.{Ready, Allowed, with_asked, way_term}

-- What the connections in the first n rows asked for.
unfoldable pub rows_to : List ℕ → ℕ → List Connection
rows_to ws n = map (λ s. s.asked) (series (standing_at ws) 6 rows_at n)

-- The first n + 1 rows are the first n and row n.
row_last : (ws : List ℕ) (n : ℕ) → rows_to ws (suc n) ≡ rows_to ws n ++ (asked_at ws n ∷ [])
unfolding rows_to
row_last ws n = ap (map (λ (s : Standing). s.asked)) (series_last (standing_at ws) 6 rows_at n) ∙
    map-append (λ (s : Standing). s.asked) (series (standing_at ws) 6 rows_at n) (standing_at ws (rows_at + 6 * n) ∷ [])

-- The first 0 rows are none.
no_rows : (ws : List ℕ) → rows_to ws 0 ≡ []
unfolding rows_to series
no_rows ws = refl

-- The set with the newcomer is the rows that stand and the newcomer.
with_asked_lem : (ws : List ℕ) (c : Connection) → with_asked ws c ≡ rows_to ws (length (contents ws).standing) ++ (c ∷ [])
unfolding with_asked standings rows_to
with_asked_lem ws c = rw (standing_word ws) refl

module _ (f : Connection → ℕ) (ws : List ℕ) where
  -- The sum over one connection more is the sum before and what that one adds.
  sum_one_more : (l : List Connection) (a : Connection) → sum_of f (l ++ (a ∷ [])) ≡ sum_of f l + f a
  unfolding sum_of
  sum_one_more l a = sum_append f l (a ∷ []) ∙ (let z : f a + 0 ≡ f a = omega arith in ap (λ n. sum_of f l + n) z)

  -- The sum over no rows is 0.
  pub sum_none : sum_of f (rows_to ws 0) ≡ 0
  unfolding sum_of
  sum_none = ap (sum_of f) (no_rows ws)

  -- The sum over one row more is the sum before and what that row adds.
  pub sum_next : (i : ℕ) (row : Connection) → row ≡ asked_at ws i → sum_of f (rows_to ws (i + 1)) ≡ sum_of f (rows_to ws i) + f row
  sum_next i row e = rw (add-one i, e) (ap (sum_of f) (row_last ws i) ∙ sum_one_more (rows_to ws i) (asked_at ws i))

  -- The sum over the set with the newcomer is the sum over the rows and what the newcomer adds.
  pub sum_with : (c : Connection) → sum_of f (with_asked ws c) ≡ sum_of f (rows_to ws (length (contents ws).standing)) + f c
  sum_with c = ap (sum_of f) (with_asked_lem ws c) ∙ sum_one_more (rows_to ws (length (contents ws).standing)) c

  -- The sum over some rows is at most that over more.
  sum_partial : (i k : ℕ) → sum_of f (rows_to ws i) ≤ sum_of f (rows_to ws (k + i))
  sum_partial i zero = let z : 0 + i ≡ i = omega arith in rw z (omega arith)
  sum_partial i (suc k) =
      let z : suc k + i ≡ k + i + 1 = omega arith in
      let a = sum_partial i k in
      let b = sum_next (k + i) (asked_at ws (k + i)) refl in
      rw z (omega arith)

  -- The largest over one connection more is the larger of the largest before and that one's.
  largest_one_more : (l : List Connection) (a : Connection) → largest_of f (l ++ (a ∷ [])) ≡ max (largest_of f l) (f a)
  unfolding largest_of
  largest_one_more [] a = omega arith
  largest_one_more (b ∷ l) a = let e = largest_one_more l a in rw e (omega arith)

  -- The largest over no rows is 0.
  pub largest_none : largest_of f (rows_to ws 0) ≡ 0
  unfolding largest_of
  largest_none = ap (largest_of f) (no_rows ws)

  -- The largest over one row more is the larger of the largest before and that row's.
  pub largest_next : (i : ℕ) (row : Connection) → row ≡ asked_at ws i
      → largest_of f (rows_to ws (i + 1)) ≡ max (largest_of f (rows_to ws i)) (f row)
  largest_next i row e = rw (add-one i, e) (ap (largest_of f) (row_last ws i) ∙ largest_one_more (rows_to ws i) (asked_at ws i))

  -- The largest over the set with the newcomer is the larger of that over the rows and the newcomer's.
  pub largest_with : (c : Connection) → largest_of f (with_asked ws c) ≡ max (largest_of f (rows_to ws (length (contents ws).standing))) (f c)
  largest_with c = ap (largest_of f) (with_asked_lem ws c) ∙ largest_one_more (rows_to ws (length (contents ws).standing)) c

-- What a connection adds to the rate.
abbrev pub rate_term : ℕ → Connection → ℕ
rate_term slots c = c.longest * (slots / c.period)

-- What the newcomer and all rows add, with M as the reader of the settings gives it, is the rate of the set with the newcomer.
pub rate_is : (ws : List ℕ) (c : Connection) (slots n : ℕ) → slots ≡ (contents ws).settings.cycle → n ≡ length (contents ws).standing
    → rate_term slots c + sum_of (rate_term slots) (rows_to ws n) ≡ rate (settings_at ws) (with_asked ws c)
unfolding rate contents
rate_is ws c slots n es en =
    let w = sum_with (rate_term (settings_at ws).cycle) ws c in
    rw (es, en) (omega arith)

-- It is at most 64 x 4,096, with M as the reader of the settings gives it.
pub rate_most : (ws : List ℕ) (c : Connection) (slots : ℕ) → Ready ws → Allowed ws c → slots ≡ (contents ws).settings.cycle
    → c.longest * (slots / c.period) ≤ 262144
unfolding contents
rate_most ws c slots r a e =
    let f = connection_facts (settings_at ws) c a in
    let m = (settings_facts (settings_at ws) r.settings).cycle_most in
    let q = div-le_self slots c.period in
    let d : slots / c.period ≤ 4096 = omega arith in
    let p = mul-le-mul f.longest_most d in
    omega arith

-- What the loop of the rate goes by.
pub ruleset rates = (asked_small, rows_most, rate_most, rate_is, sum_none, sum_next)

-- What the newcomer and all rows add at t is the sum of (11) over the set with the newcomer.
sum_is : (ws : List ℕ) (c : Connection) (t n : ℕ) → n ≡ length (contents ws).standing
    → term (settings_at ws) t c + sum_of (term (settings_at ws) t) (rows_to ws n) ≡ sum_at (settings_at ws) (with_asked ws c) t
unfolding sum_at
sum_is ws c t n e = let w = sum_with (term (settings_at ws) t) ws c in rw e (omega arith)

-- The largest that the newcomer and the rows count for is the packet in the way of the set with the newcomer.
way_is : (ws : List ℕ) (c : Connection) (t n : ℕ) → n ≡ length (contents ws).standing
    → max (way_term (settings_at ws) t c) (largest_of (way_term (settings_at ws) t) (rows_to ws n))
    ≡ in_the_way (settings_at ws) (with_asked ws c) t
unfolding in_the_way
way_is ws c t n e = let w = largest_with (way_term (settings_at ws) t) ws c in rw e (omega arith)

-- Where the sum of the newcomer and of some rows exceeds t, (11) fails at t: no term takes from a sum.
pub fails_early : (ws : List ℕ) (c : Connection) (t sum i n : ℕ) → sum ≡ term (settings_at ws) t c + sum_of (term (settings_at ws) t) (rows_to ws i)
    → i ≤ n → n ≡ length (contents ws).standing → t < sum → condition_at (settings_at ws) (with_asked ws c) t ≡ false
unfolding condition_at eleven
fails_early ws c t sum i n e h en l =
    let k = sum_partial (term (settings_at ws) t) ws i (n - i) in
    let z : n - i + i ≡ n = omega arith in
    let p = rw z at k in
    let a = sum_is ws c t n en in
    let f = lt-leb (sum_at (settings_at ws) (with_asked ws c) t) t (omega arith) in
    rw f refl

-- (11) and (12) at t, by the sum and the packet in the way over all rows.
pub condition_is : (ws : List ℕ) (c : Connection) (t sum way n : ℕ) (speaks : Bool)
    → sum ≡ term (settings_at ws) t c + sum_of (term (settings_at ws) t) (rows_to ws n)
    → way ≡ max (way_term (settings_at ws) t c) (largest_of (way_term (settings_at ws) t) (rows_to ws n))
    → speaks ≡ twelve_range (settings_at ws) t → n ≡ length (contents ws).standing
    → condition_at (settings_at ws) (with_asked ws c) t ≡ (leb sum t && (not speaks || leb (sum + way) t))
unfolding condition_at eleven twelve
condition_is ws c t sum way n speaks es ew er en =
    let a : sum ≡ sum_at (settings_at ws) (with_asked ws c) t = es ∙ sum_is ws c t n en in
    let b : way ≡ in_the_way (settings_at ws) (with_asked ws c) t = ew ∙ way_is ws c t n en in
    rw (a, b, er) refl

-- What the two loops of the search go by.
pub ruleset searches = (rows_most, sum_none, sum_next, largest_none, largest_next)
