-- Lists: keeping what passes a test, numbering from a start, and membership.
use Rattle.std.specs.Prelude.{ℕ, zero, suc, ◌<◌, ◌≡◌, refl, Bool, cond, length, get_or}
use Rattle.std.proofs.Common.{subst, ⊎_elim, not-suc-le-zero, le_of_suc-le-suc}
use mathlib.Core.List.Memᴰ
use mathlib.Core.List.{List, [], ◌∷◌, flatten, Memᴰ}

-- The elements that pass the test, in their order.
unfoldable pub keep : {A : Type 0} → (A → Bool) → List A → List A
keep test [] = []
keep test (a ∷ l) = cond (test a) (a ∷ keep test l) (keep test l)

-- An element with its place.
pub record Placed (A : Type 0) : Type 0 where
  pub place : ℕ
  pub entry : A

-- The elements with their places, counted from n.
unfoldable pub placed_from : {A : Type 0} → ℕ → List A → List (Placed A)
placed_from n [] = []
placed_from n (a ∷ l) = record { place = n; entry = a } ∷ placed_from (suc n) l

-- An element that is read at an index below the length is in the list.
pub get_or_member : {A : Type 0} (l : List A) (i : ℕ) (d : A) → i < length l → Memᴰ (get_or l i d) l
get_or_member [] i d h = absurd (not-suc-le-zero h)
get_or_member (a ∷ l) zero d h = Memᴰ.head refl
get_or_member (a ∷ l) (suc i) d h = Memᴰ.tail (get_or_member l i d (le_of_suc-le-suc h))

-- An element of a list of lists is in them all joined.
pub member_flatten : {A : Type 0} (ls : List (List A)) {l : List A} {a : A} → Memᴰ l ls → Memᴰ a l → Memᴰ a (flatten ls)
unfolding flatten
member_flatten [] m n = absurd (Memᴰ.not-nil m)
member_flatten {A} (k ∷ ls) {l} {a} m n =
    ⊎_elim (λ (e : l ≡ k). Memᴰ.append_left (flatten ls) (subst (λ (x : List A). Memᴰ a x) e n))
    (λ (o : Memᴰ l ls). Memᴰ.append_right k (member_flatten ls o n))
    (Memᴰ.cases_cons m)
