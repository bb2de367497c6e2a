-- Laws of sums and of largest values over a list.
use Rattle.std.specs.Prelude.{ℕ, ◌≤◌, ◌≡◌, Bool, true}
use Rattle.std.proofs.Math.Path.{refl, ap}
use Rattle.std.proofs.Math.Bool.{false}
use mathlib.Core.List.{List, [], ◌∷◌, ◌++◌, Memᴰ}
use native.Mathlib.Omega.{arith}
use Rattle.laws.specs.Sums.{sum_of, largest_of}

-- The number where the test passes, else 0.
unfoldable pub given : Bool → ℕ → ℕ
given true n = n
given false n = 0

-- Where the test passes, the number is given.
pub given_true : {b : Bool} (n : ℕ) → b ≡ true → given b n ≡ n
unfolding given
given_true n e = rw e

-- Where the test fails, 0 is given.
pub given_false : {b : Bool} (n : ℕ) → b ≡ false → given b n ≡ 0
unfolding given
given_false n e = rw e

module _ {A : Type 0} where
  -- Equal parts have equal sums.
  pub sum_same : (f g : A → ℕ) (l : List A) → ((a : A) → Memᴰ a l → f a ≡ g a) → sum_of f l ≡ sum_of g l
  unfolding sum_of
  sum_same f g [] h = refl
  sum_same f g (a ∷ l) h =
      let x = h a (Memᴰ.head refl) in
      let y = sum_same f g l (λ b m. h b (Memᴰ.tail m)) in
      omega arith

  -- Smaller parts have a smaller sum.
  pub sum_mono : (f g : A → ℕ) (l : List A) → ((a : A) → Memᴰ a l → f a ≤ g a) → sum_of f l ≤ sum_of g l
  unfolding sum_of
  sum_mono f g [] h = omega arith
  sum_mono f g (a ∷ l) h =
      let x = h a (Memᴰ.head refl) in
      let y = sum_mono f g l (λ b m. h b (Memᴰ.tail m)) in
      omega arith

  -- The sum over a list of one is its part.
  pub sum_one : (f : A → ℕ) (a : A) → sum_of f (a ∷ []) ≡ f a
  unfolding sum_of
  sum_one f a = omega arith

  -- A member's part is at most the sum.
  pub sum_member : (f : A → ℕ) (l : List A) {a : A} → Memᴰ a l → f a ≤ sum_of f l
  unfolding sum_of
  sum_member f [] {a = a} x' = elim x' [ ]
  sum_member f (x ∷ l) {a} (Memᴰ.head e) = let y : f a ≡ f x = ap f e in omega arith
  sum_member f (x ∷ l) (Memᴰ.tail m) = let y = sum_member f l m in omega arith

  -- What is counted at all is found.
  pub sum_found : (test : A → Bool) (l : List A) → 1 ≤ sum_of (λ a. given (test a) 1) l → (a : A) × Memᴰ a l × (test a ≡ true)
  unfolding sum_of
  sum_found test [] h = absurd (omega arith)
  sum_found test (a ∷ l) h = go (λ k. sum_found test l k) (test a) refl
    where
      later : test a ≡ false → 1 ≤ sum_of (λ a. given (test a) 1) l
      later e = let g = given_false 1 e in omega arith

      go : (1 ≤ sum_of (λ a. given (test a) 1) l → (x : A) × Memᴰ x l × (test x ≡ true)) → (b : Bool) → test a ≡ b →
          (x : A) × Memᴰ x (a ∷ l) × (test x ≡ true)
      go rest true e = (a, Memᴰ.head refl, e)
      go rest false e = let r = rest (later e) in (r.0, Memᴰ.tail r.1, r.2)

  -- A sum of zeros is 0.
  pub sum_zero : (f : A → ℕ) (l : List A) → ((a : A) → Memᴰ a l → f a ≡ 0) → sum_of f l ≡ 0
  unfolding sum_of
  sum_zero f [] h = refl
  sum_zero f (a ∷ l) h =
      let x = h a (Memᴰ.head refl) in
      let y = sum_zero f l (λ b m. h b (Memᴰ.tail m)) in
      omega arith

  -- A member's value is at most the largest.
  pub largest_member : (f : A → ℕ) (l : List A) {a : A} → Memᴰ a l → f a ≤ largest_of f l
  unfolding largest_of
  largest_member f [] {a = a} x' = elim x' [ ]
  largest_member f (x ∷ l) {a} (Memᴰ.head e) = let y : f a ≡ f x = ap f e in omega arith
  largest_member f (x ∷ l) (Memᴰ.tail m) = let y = largest_member f l m in omega arith

  -- Putting one more in does not make the sum smaller.
  pub sum_put : (f : A → ℕ) (l : List A) (a : A) (m : List A) → sum_of f (l ++ m) ≤ sum_of f (l ++ (a ∷ m))
  unfolding sum_of
  sum_put f [] a m = omega arith
  sum_put f (x ∷ l) a m = let y = sum_put f l a m in omega arith

  -- Putting one more in does not make the largest smaller.
  pub largest_put : (f : A → ℕ) (l : List A) (a : A) (m : List A) → largest_of f (l ++ m) ≤ largest_of f (l ++ (a ∷ m))
  unfolding largest_of
  largest_put f [] a m = omega arith
  largest_put f (x ∷ l) a m = let y = largest_put f l a m in omega arith
