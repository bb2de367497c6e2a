-- The word that brings a sum of words to 0.
use Rattle.std.proofs.Common.{◌≡◌, ℕ, ◌+◌, ◌-◌, ◌%◌, ◌^◌, ◌<◌, List, [], ◌∷◌, ◌++◌, sym, ap, ◌∙◌, zero-add, arith}
use native.Mathlib.Nat.{mod-add-mod, add-mod-mod}
use Rattle.laws.specs.Sums.{sum_of, sum_append}
use Rattle.meaning.specs.Plan.{sum_word, sum_words}

-- The number that is solved for is the one number of 32 bits that brings the sum to 0.
pub sum_solved : (s x : ℕ) → x < 2 ^ 32 → (x + s) % 2 ^ 32 ≡ 0 → (2 ^ 32 - s % 2 ^ 32) % 2 ^ 32 ≡ x
sum_solved s x l f = omega arith

-- The sums of the header and of the tables, taken one after another, give the word that is solved for.
pub solved :
    (start f c a : List ℕ) (s₁ s₂ s₃ s₄ last : ℕ) →
    s₁ ≡ (0 + sum_of (λ w. w) (start ++ 0 ∷ [])) % 2 ^ 32 → s₂ ≡ (s₁ + sum_of (λ w. w) f) % 2 ^ 32 →
    s₃ ≡ (s₂ + sum_of (λ w. w) c) % 2 ^ 32 → s₄ ≡ (s₃ + sum_of (λ w. w) a) % 2 ^ 32 → last < 2 ^ 32 → (last + s₄) % 2 ^ 32 ≡ 0 →
    sum_word (start ++ (f ++ c ++ a)) ≡ last
unfolding sum_word sum_words sum_of
solved start f c a s₁ s₂ s₃ s₄ last e₁ e₂ e₃ e₄ l e =
    let all :
    sum_of (λ w. w) (start ++ (f ++ c ++ a)) ≡
    sum_of (λ w. w) (start ++ 0 ∷ []) + sum_of (λ w. w) f + sum_of (λ w. w) c + sum_of (λ w. w) a =
    omega (
      arith,
      sum_append (λ w. w) start (f ++ c ++ a),
      sum_append (λ w. w) (f ++ c) a,
      sum_append (λ w. w) f c,
      sum_append (λ w. w) start (0 ∷ []),
    ) in
    let one : s₁ ≡ sum_of (λ w. w) (start ++ 0 ∷ []) % 2 ^ 32 = e₁ ∙ ap (λ n. n % 2 ^ 32) (zero-add (sum_of (λ w. w) (start ++ 0 ∷ []))) in
    let four = more _ _ _ _ (more _ _ _ _ (more _ _ _ _ one e₂) e₃) e₄ in
    rw all (sum_solved _ last l (sym (add-mod-mod last _ (2 ^ 32)) ∙ ap (λ n. (last + n) % 2 ^ 32) (sym four) ∙ e))
  where
    more : (x y z s : ℕ) → x ≡ y % 2 ^ 32 → s ≡ (x + z) % 2 ^ 32 → s ≡ (y + z) % 2 ^ 32
    more x y z s p q = q ∙ ap (λ n. (n + z) % 2 ^ 32) p ∙ mod-add-mod y (2 ^ 32) z
