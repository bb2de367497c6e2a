-- Places of a list: the last one, and setting one.
use Rattle.std.specs.Prelude.{ℕ, zero, suc, ◌≡◌, refl, cond, List, [], ◌∷◌, ◌++◌, map, eqb, length, get_or, set}
use Rattle.std.proofs.Common.{sym, ◌∙◌, ap, arith, eq-eqb, ne_eqb}
use Rattle.std.proofs.Math.Decide.{ℕ_discrete}

-- The element that was put at the end is read there.
pub last_at : {A : Type 0} (l : List A) (a d : A) → get_or (l ++ (a ∷ [])) (length l) d ≡ a
last_at [] a d = refl
last_at (x ∷ l) a d = last_at l a d

-- With one put at the end, its place has it and the others are as before.
pub get_d_last : {A : Type 0} (l : List A) (a d : A) (i : ℕ) → get_or (l ++ (a ∷ [])) i d ≡ cond (eqb i (length l)) a (get_or l i d)
get_d_last [] a d zero = refl
get_d_last [] a d (suc i) = rw (ne_eqb (suc i) 0 (λ e. omega arith))
get_d_last (x ∷ l) a d zero = rw (ne_eqb 0 (suc (length l)) (λ e. omega arith))
get_d_last (x ∷ l) a d (suc i) =
    let e : eqb (suc i) (suc (length l)) ≡ eqb i (length l) = same_place i (length l) in
    rw e (get_d_last l a d i)
  where
    same_place : (i j : ℕ) → eqb (suc i) (suc j) ≡ eqb i j
    same_place i j =
        elim (ℕ_discrete i j) [
          | yes e ↦ eq-eqb (suc i) (suc j) (omega arith) ∙ sym (eq-eqb i j e)
          | no e ↦ ne_eqb (suc i) (suc j) (λ q. e (omega arith)) ∙ sym (ne_eqb i j e)
        ]

-- A function of every element, with one set, is the one set in what the function gives.
pub map_set : {A B : Type 0} (f : A → B) (l : List A) (i : ℕ) (a : A) → map f (set l i a) ≡ set (map f l) i (f a)
map_set f [] i a = refl
map_set f (x ∷ l) zero a = refl
map_set {B = B} f (x ∷ l) (suc i) a = ap (λ (r : List B). f x ∷ r) (map_set f l i a)
