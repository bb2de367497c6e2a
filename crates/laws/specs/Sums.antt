-- Sums and largest values over a list, of what a function gives for each element.
use Rattle.std.specs.Prelude.{ℕ, ◌+◌, ◌≤◌, max, ◌≡◌, List, [], ◌∷◌, ◌++◌, length}
use Rattle.std.proofs.Common.{arith}

-- The sum of f over the list.
unfoldable pub sum_of : {A : Type 0} → (A → ℕ) → List A → ℕ
sum_of f [] = 0
sum_of f (a ∷ l) = f a + sum_of f l

-- The largest of f over the list, 0 where it is empty.
unfoldable pub largest_of : {A : Type 0} → (A → ℕ) → List A → ℕ
largest_of f [] = 0
largest_of f (a ∷ l) = max (f a) (largest_of f l)

-- The sum over two lists joined is the two sums added.
pub sum_append : {A : Type 0} (f : A → ℕ) (l m : List A) → sum_of f (l ++ m) ≡ sum_of f l + sum_of f m
unfolding sum_of
sum_append f [] m = omega arith
sum_append f (a ∷ l) m = let e = sum_append f l m in omega arith

-- Where each element gives at least one, the sum is at least the length.
pub length_sum : {A : Type 0} (f : A → ℕ) (l : List A) → ((a : A) → 1 ≤ f a) → length l ≤ sum_of f l
unfolding sum_of
length_sum f [] h = omega arith
length_sum f (a ∷ l) h = let e = length_sum f l h in let k = h a in omega arith

-- Where each element gives two parts, the sum is that of the parts added.
pub sum_add : {A : Type 0} (f g h : A → ℕ) (l : List A) → ((a : A) → h a ≡ f a + g a) → sum_of h l ≡ sum_of f l + sum_of g l
unfolding sum_of
sum_add f g h [] e = omega arith
sum_add f g h (a ∷ l) e = let i = sum_add f g h l e in let k = e a in omega arith
