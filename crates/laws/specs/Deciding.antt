-- Tests that decide the same, and tests over a range that fail at one place.
use Rattle.std.specs.Prelude.{ℕ, ◌≤◌, ◌<◌, ◌≡◌, refl, Bool, true, false, ◌&&◌, leb}
use Rattle.std.proofs.Common.{sym, ap, ◌∙◌, true≢false, ⊎_elim, arith, le-leb}
use Rattle.std.proofs.Math.Bool.{and-eq-true_iff, and_assoc, and_comm}
use mathlib.Core.List.{List, [], ◌∷◌, ◌++◌, map, flatten}
use Rattle.std.proofs.Math.Decide.{dec_le}
use Rattle.std.proofs.lemmas.Bool.{lt-leb}
use Rattle.laws.specs.Tests.{every, every_append, every_below, every_below_at, bool_cases}

-- Two comparisons that say the same are the same test.
pub leb_same : (a b c d : ℕ) → (a ≤ b → c ≤ d) → (c ≤ d → a ≤ b) → leb a b ≡ leb c d
leb_same a b c d f g =
    elim (dec_le a b) [ yes h ↦ le-leb a b h ∙ sym (le-leb c d (f h)) | no h ↦ lt-leb a b (omega arith) ∙ sym (lt-leb c d (above h)) ]
  where
    above : (a ≤ b → ⊥) → d < c
    above h = elim (dec_le c d) [ yes k ↦ absurd (h (g k)) | no k ↦ omega arith ]

-- A test that fails at one number of the range fails over the range.
pub every_below_stop : (test : ℕ → Bool) (n k : ℕ) → k < n → test k ≡ false → every_below test n ≡ false
every_below_stop test n k h e =
    ⊎_elim (λ (t : every_below test n ≡ true). absurd (true≢false (sym (every_below_at test n t k h) ∙ e)))
    (λ (f : every_below test n ≡ false). f)
    (bool_cases (every_below test n))

-- A test of every element of two lists joined is one of each.
pub every_split : {A : Type 0} (test : A → Bool) (a b : List A) → every test (a ++ b) ≡ true → (every test a ≡ true) × (every test b ≡ true)
unfolding every
every_split test [] b p = (refl, p)
every_split test (x ∷ a) b p =
    (let h = (and-eq-true_iff (test x) (every test (a ++ b))).0 p in
    let t = every_split test a b h.1 in
    ((and-eq-true_iff (test x) (every test a)).1 (h.0, t.0), t.1))

-- A test of every element of every list is one of the lists put together.
pub every_flatten : {A : Type 0} (test : A → Bool) (ls : List (List A)) → every (every test) ls ≡ true → every test (flatten ls) ≡ true
unfolding every flatten
every_flatten test [] e = refl
every_flatten test (l ∷ ls) e =
    (let h = (and-eq-true_iff (every test l) (every (every test) ls)).0 e in
    every_append test l (flatten ls) h.0 (every_flatten test ls h.1))

-- A test of every element of the lists put together is one of every element of every list.
pub every_unflatten : {A : Type 0} (test : A → Bool) (ls : List (List A)) → every test (flatten ls) ≡ true → every (every test) ls ≡ true
unfolding every flatten
every_unflatten test [] e = refl
every_unflatten test (l ∷ ls) e =
    (let h = every_split test l (flatten ls) e in
    (and-eq-true_iff (every test l) (every (every test) ls)).1 (h.0, every_unflatten test ls h.1))

-- A test of what a function gives is the test of the function of each element.
pub every_map : {A B : Type 0} (test : B → Bool) (f : A → B) (l : List A) → every test (map f l) ≡ every (λ a. test (f a)) l
unfolding every
every_map test f [] = refl
every_map test f (x ∷ l) = ap (λ b. test (f x) && b) (every_map test f l)

-- Two tests of every element are one test of both.
pub every_both : {A : Type 0} (f g : A → Bool) (l : List A) → every (λ a. f a && g a) l ≡ (every f l && every g l)
unfolding every
every_both f g [] = refl
every_both f g (x ∷ l) =
    ap (λ b. f x && g x && b) (every_both f g l) ∙ and_assoc (f x) (g x) (every f l && every g l) ∙
    ap (λ b. f x && b)
    (sym (and_assoc (g x) (every f l) (every g l)) ∙ ap (λ b. b && every g l) (and_comm (g x) (every f l)) ∙
    and_assoc (every f l) (g x) (every g l)) ∙
    sym (and_assoc (f x) (every f l) (g x && every g l))
