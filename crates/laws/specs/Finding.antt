-- What the two answers of the search for a first failing number say.
use Rattle.std.specs.Prelude.{ℕ, zero, suc, ◌+◌, ◌≤◌, ◌<◌, ◌≡◌, refl, Bool, true, false}
use Rattle.std.proofs.Math.Decide.{dec_lt}
use Rattle.std.proofs.Common.{arith}
use Rattle.laws.specs.Search.{fails_at, holds, search_from, first_failing}

-- u is the least number, of those from t on, at which the test fails.
pub record Least (test : ℕ → Bool) (t u : ℕ) : Type 0 where
  pub starts : t ≤ u
  pub fails : test u ≡ false
  pub below : (k : ℕ) → t ≤ k → k < u → test k ≡ true

-- A search from t on that stops has found the least number, from t on, that fails.
search_fails :
    (test : ℕ → Bool) (n t : ℕ) (b : Bool) → test t ≡ b → (u : ℕ) → search_from test n t b ≡ fails_at u → (u < t + n) × Least test t u
unfolding search_from
search_fails test zero t b e u q = absurd (let z : ◌≡◌ {A = ℕ} 0 1 = cc in omega arith)
search_fails test (suc n) t false e u q =
    let s : t ≡ u = cc in
    (omega arith, record { starts = omega arith; fails = cc; below = λ k h l. absurd (omega arith) })
search_fails test (suc n) t true e u q =
    let r = search_fails test n (suc t) (test (suc t)) refl u q in
    let least = r.1 in (
      omega arith,
      record {
        starts = omega arith;
        fails = least.fails;
        below = λ k h l. elim (dec_lt t k) [ yes m ↦ least.below k m l | no m ↦ let s : k ≡ t = omega arith in rw s e ];
      },
    )

-- A search from t on that does not stop has found no number that fails.
search_holds :
    (test : ℕ → Bool) (n t : ℕ) (b : Bool) → test t ≡ b → search_from test n t b ≡ holds → (k : ℕ) → t ≤ k → k < t + n → test k ≡ true
unfolding search_from
search_holds test zero t b e q k h l = absurd (omega arith)
search_holds test (suc n) t false e q k h l = absurd (let z : ◌≡◌ {A = ℕ} 0 1 = cc in omega arith)
search_holds test (suc n) t true e q k h l =
    let rest = search_holds test n (suc t) (test (suc t)) refl q k in
    elim (dec_lt t k) [ yes m ↦ rest m (omega arith) | no m ↦ let s : k ≡ t = omega arith in rw s e ]

-- A search that stops has found the least number that fails, and it lies in the range.
pub first_failing_fails : (test : ℕ → Bool) (n u : ℕ) → first_failing test n ≡ fails_at u → (u < n) × Least test 0 u
unfolding first_failing
first_failing_fails test n u q = let r = search_fails test n 0 (test 0) refl u q in (omega arith, r.1)

-- A search that does not stop has found no number of the range that fails.
pub first_failing_holds : (test : ℕ → Bool) (n : ℕ) → first_failing test n ≡ holds → (k : ℕ) → k < n → test k ≡ true
unfolding first_failing
first_failing_holds test n q k h = search_holds test n 0 (test 0) refl q k (omega arith) (omega arith)
