-- What the search for a first failing number answers, from what is known of the test.
use Rattle.std.specs.Prelude.{ℕ, ◌<◌, ◌≡◌, refl, Bool, true, false}
use Rattle.std.proofs.Common.{sym, ap, ◌∙◌, true≢false, arith}
use Rattle.std.proofs.Math.Decide.{dec_lt}
use Rattle.laws.specs.Search.{Search, fails_at, holds, first_failing}
use Rattle.laws.specs.Finding.{first_failing_fails, first_failing_holds}

-- Where the test holds below t and fails at t, the search answers t.
pub found_fails : (test : ℕ → Bool) (n t : ℕ) → t < n → ((k : ℕ) → k < t → test k ≡ true) → test t ≡ false → first_failing test n ≡ fails_at t
found_fails test n t h below fails = go (first_failing test n) refl
  where
    go : (s : Search) → first_failing test n ≡ s → s ≡ fails_at t
    go holds e = absurd (true≢false (sym (first_failing_holds test n e t h) ∙ fails))
    go (fails_at u) e =
        let least = (first_failing_fails test n u e).1 in
        elim (dec_lt u t) [
          | yes l ↦ absurd (true≢false (sym (below u l) ∙ least.fails))
          | no m ↦
              elim (dec_lt t u) [
                | yes l ↦ absurd (true≢false (sym (least.below t (omega arith) l) ∙ fails))
                | no k ↦ let s : u ≡ t = omega arith in ap fails_at s
              ]
        ]

-- Where the test holds over the range, the search answers so.
pub found_holds : (test : ℕ → Bool) (n : ℕ) → ((k : ℕ) → k < n → test k ≡ true) → first_failing test n ≡ holds
found_holds test n below = go (first_failing test n) refl
  where
    go : (s : Search) → first_failing test n ≡ s → s ≡ holds
    go holds e = refl
    go (fails_at u) e =
        let f = first_failing_fails test n u e in
        absurd (true≢false (sym (below u f.0) ∙ f.1.fails))
