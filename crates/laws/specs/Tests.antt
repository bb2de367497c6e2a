-- Tests that compute: a range, a test at every number or at every element, and what a passed test says.
use Rattle.std.specs.Prelude.{ℕ, zero, suc, ◌≤◌, ◌<◌, ◌≡◌, refl, Bool, true, false, ◌&&◌, ◌||◌, ◌⊎◌, set, leb}
use Rattle.std.proofs.Common.{sym, true≢false, inl, inr, ⊎_elim, not-suc-le-zero, arith, leb-true, le-leb}
use Rattle.std.proofs.Math.Bool.{and-eq-true_iff}
use mathlib.Core.List.Memᴰ
use mathlib.Core.List.{List, [], ◌∷◌, ◌++◌, Memᴰ}
use Rattle.std.proofs.Math.Nat.{le-suc_iff}
use Rattle.std.proofs.lemmas.Bool.{lt-leb}

-- x is low to high, both ends included.
unfoldable pub within : ℕ → ℕ → ℕ → Bool
within low x high = leb low x && leb x high

-- A number that passes the test of a range lies in it.
pub within_facts : (low x high : ℕ) → within low x high ≡ true → (low ≤ x) × (x ≤ high)
unfolding within
within_facts low x high e =
    let h = (and-eq-true_iff (leb low x) (leb x high)).0 e in
    (leb-true low x h.0, leb-true x high h.1)

-- A number that lies in a range passes its test.
pub within_test : (low x high : ℕ) → low ≤ x → x ≤ high → within low x high ≡ true
unfolding within
within_test low x high h k = (and-eq-true_iff (leb low x) (leb x high)).1 (le-leb low x h, le-leb x high k)

-- A Bool is one of two, and the equation is kept.
pub bool_cases : (b : Bool) → (b ≡ true) ⊎ (b ≡ false)
bool_cases true = inl refl
bool_cases false = inr refl

-- The test holds at every number below n.
unfoldable pub every_below : (ℕ → Bool) → ℕ → Bool
every_below test zero = true
every_below test (suc n) = every_below test n && test n

-- A test that holds below n holds at each number below n.
pub every_below_at : (test : ℕ → Bool) (n : ℕ) → every_below test n ≡ true → (k : ℕ) → k < n → test k ≡ true
unfolding every_below
every_below_at test zero e k h = absurd (not-suc-le-zero h)
every_below_at test (suc n) e k h =
    ⊎_elim (λ (l : k < n). every_below_at test n ((and-eq-true_iff (every_below test n) (test n)).0 e).0 k l)
    (λ (q : k ≡ n). rw q ((and-eq-true_iff (every_below test n) (test n)).0 e).1)
    (last_or_below h)
  where
    last_or_below : k < suc n → (k < n) ⊎ (k ≡ n)
    last_or_below l = ⊎_elim inl (λ (q : suc k ≡ suc n). inr (omega arith)) (le-suc_iff.0 l)

-- A test that holds at each number below n holds below n.
pub every_below_all : (test : ℕ → Bool) (n : ℕ) → ((k : ℕ) → k < n → test k ≡ true) → every_below test n ≡ true
unfolding every_below
every_below_all test zero f = refl
every_below_all test (suc n) f =
    (and-eq-true_iff (every_below test n) (test n)).1 (every_below_all test n (λ k h. f k (omega arith)), f n (omega arith))

-- The test holds of every element.
unfoldable pub every : {A : Type 0} → (A → Bool) → List A → Bool
every test [] = true
every test (a ∷ l) = test a && every test l

-- A test of every element holds of each member.
pub every_at : {A : Type 0} (test : A → Bool) (l : List A) → every test l ≡ true → {a : A} → Memᴰ a l → test a ≡ true
unfolding every
every_at test [] e m = absurd (Memᴰ.not-nil m)
every_at test (b ∷ l) e {a} m =
    let h = (and-eq-true_iff (test b) (every test l)).0 e in
    ⊎_elim (λ (q : a ≡ b). rw q h.0) (λ (k : Memᴰ a l). every_at test l h.1 k) (Memᴰ.cases_cons m)

-- A test that holds of each member is one of every element.
pub every_all : {A : Type 0} (test : A → Bool) (l : List A) → ((a : A) → Memᴰ a l → test a ≡ true) → every test l ≡ true
unfolding every
every_all test [] f = refl
every_all test (a ∷ l) f =
    (and-eq-true_iff (test a) (every test l)).1
    (f a (Memᴰ.head refl), every_all test l (λ b m. f b (Memᴰ.tail m)))

-- A test of every element of two lists is one of the two joined.
pub every_append : {A : Type 0} (test : A → Bool) (l m : List A) → every test l ≡ true → every test m ≡ true → every test (l ++ m) ≡ true
every_append test l m e f =
    every_all test (l ++ m) (λ a k. ⊎_elim (every_at test l e) (every_at test m f) (Memᴰ.append_cases l k))

-- Where one of two tests passes, the first or the second does.
pub or_cases : (a b : Bool) → (a || b) ≡ true → (a ≡ true) ⊎ (b ≡ true)
or_cases true b e = inl refl
or_cases false b e = inr e

-- One of two tests passes where the first does.
pub or_left : (a b : Bool) → a ≡ true → (a || b) ≡ true
or_left true b e = refl
or_left false b e = absurd (true≢false (sym e))

-- One of two tests passes where the second does.
pub or_right : (a b : Bool) → b ≡ true → (a || b) ≡ true
or_right true b e = refl
or_right false b e = e

-- A test that holds of every element holds after one is replaced by an element that passes.
pub every_set :
    {A : Type 0} (test : A → Bool) (l : List A) (i : ℕ) (a : A) → every test l ≡ true → test a ≡ true → every test (set l i a) ≡ true
unfolding every
every_set test [] i a e f = e
every_set test (b ∷ l) zero a e f = (and-eq-true_iff (test a) (every test l)).1 (f, ((and-eq-true_iff (test b) (every test l)).0 e).1)
every_set test (b ∷ l) (suc i) a e f =
    let h = (and-eq-true_iff (test b) (every test l)).0 e in
    (and-eq-true_iff (test b) (every test (set l i a))).1 (h.0, every_set test l i a h.1 f)

-- A number below a range fails its test.
pub within_below : (low x high : ℕ) → x < low → within low x high ≡ false
unfolding within
within_below low x high h = rw (lt-leb low x h) refl

-- Two tests that pass together are the same.
pub same_test : (a b : Bool) → (a ≡ true → b ≡ true) → (b ≡ true → a ≡ true) → a ≡ b
same_test true b f g = sym (f refl)
same_test false true f g = g refl
same_test false false f g = refl
