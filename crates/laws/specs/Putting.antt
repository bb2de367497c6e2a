-- A list with one more element put in somewhere, and a list with the same elements in another order, by what is used of them.
use Rattle.std.specs.Prelude.{ℕ, ◌+◌, ◌≡◌, refl, ◌⊎◌}
use Rattle.std.proofs.Common.{◌∙◌, arith}
use mathlib.Core.List.{List, [], ◌∷◌, ◌++◌, flatten, Memᴰ}
use Rattle.laws.specs.Sums.{sum_of, sum_append}

-- m is l with a put in somewhere.
pub record Put {A : Type 0} (a : A) (l m : List A) : Type 0 where
  pub sums : (f : A → ℕ) → sum_of f m ≡ f a + sum_of f l
  pub parts : (x : A) → Memᴰ x m → (x ≡ a) ⊎ Memᴰ x l

-- m has the elements of l in some order.
pub record Same {A : Type 0} (l m : List A) : Type 0 where
  pub sums : (f : A → ℕ) → sum_of f m ≡ sum_of f l
  pub parts : (x : A) → Memᴰ x m → Memᴰ x l

module _ {A : Type 0} where
  -- A list has its own elements.
  pub same_refl : (l : List A) → Same l l
  same_refl l = record { sums = λ f. refl; parts = λ x m. m }

  -- One more list at the end adds its own sum.
  pub sum_flatten_last :
      (f : A → ℕ) (qs : List (List A)) (q : List A) → sum_of f (flatten (qs ++ (q ∷ []))) ≡ sum_of f (flatten qs) + sum_of f q
  unfolding flatten sum_of
  sum_flatten_last f [] q = sum_append f q [] ∙ (omega arith)
  sum_flatten_last f (r ∷ qs) q =
      let i = sum_flatten_last f qs q in
      let s = sum_append f r (flatten qs) in
      sum_append f r (flatten (qs ++ (q ∷ []))) ∙ (omega arith)
