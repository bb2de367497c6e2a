-- Lists made by counting: what a function gives at a start, and at every step from there.
use Prim.Native.Nat.{ℕ, zero, suc, ◌+◌, ◌*◌, ◌-◌, ◌%◌, ◌≤◌, ◌<◌}
use Rattle.std.specs.Prelude.{◌≡◌, Bool, true, false, length, get_or, take, drop, set, replicate, eqb}
use Rattle.std.proofs.Math.Path.{refl, ap}
use Rattle.std.proofs.Common.{sym, ◌∙◌, add-one, mod-eq_of_lt, length-append, length-set, drop-cons, drop-drop, drop_at, get_or-drop, get_or-set_same, get_or-set_other, ext_get_or, eqb-true}
use Rattle.std.proofs.Math.Bool.{and-eq-true_iff}
use mathlib.Core.List.{List, [], ◌∷◌, ◌++◌, map, flatten, append_assoc, append-nil}
use native.Mathlib.Omega.{arith}
use Rattle.std.proofs.Math.Nat.{add-mod_right}
use Rattle.std.proofs.Math.Decide.{ℕ_discrete}
use Rattle.laws.specs.Tests.{every}

-- f at `start`, at `start + step` and so on, n values in all.
unfoldable pub series : {A : Type 0} → (ℕ → A) → ℕ → ℕ → ℕ → List A
series f step start zero = []
series f step start (suc n) = f start ∷ series f step (start + step) n

module _ {A : Type 0} (f : ℕ → A) (step : ℕ) where
  -- A series has as many values as are asked for.
  pub length_series : (start n : ℕ) → length (series f step start n) ≡ n
  unfolding series
  length_series start zero = refl
  length_series start (suc n) = ap suc (length_series (start + step) n)

  -- The value numbered i is that of f, i steps from the start.
  pub get_or_series : (start n i : ℕ) (d : A) → i < n → get_or (series f step start n) i d ≡ f (start + step * i)
  unfolding series
  get_or_series start zero i d h = absurd (omega arith)
  get_or_series start (suc n) zero d h = let e : start ≡ start + step * 0 = omega arith in ap f e
  get_or_series start (suc n) (suc i) d h =
      get_or_series (start + step) n i d (omega arith) ∙ (let e : start + step + step * i ≡ start + step * suc i = omega arith in ap f e)

  -- So many values, and so many more from where they end, are one series.
  pub series_append : (start n m : ℕ) → series f step start (n + m) ≡ series f step start n ++ series f step (start + step * n) m
  unfolding series
  series_append start zero m =
      (let a : 0 + m ≡ m = omega arith in
      let b : start ≡ start + step * 0 = omega arith in
      ap (λ k. series f step start k) a ∙ ap (λ k. series f step k m) b)
  series_append start (suc n) m =
      (let a : suc n + m ≡ suc (n + m) = omega arith in
      let b : start + step + step * n ≡ start + step * suc n = omega arith in
      ap (λ k. series f step start k) a ∙ ap (λ l. f start ∷ l) (series_append (start + step) n m) ∙
      ap (λ k. f start ∷ (series f step (start + step) n ++ series f step k m)) b)

  -- One value more stands at the end.
  pub series_last : (start n : ℕ) → series f step start (suc n) ≡ series f step start n ++ (f (start + step * n) ∷ [])
  unfolding series
  series_last start n = (let a : suc n ≡ n + 1 = omega arith in ap (λ k. series f step start k) a ∙ series_append start n 1)

  -- What is left of a count is the value read and what is left behind it.
  pub series_next : (start n i : ℕ) → i < n → series f step start (n - i) ≡ f start ∷ series f step (start + step) (n - (i + 1))
  unfolding series
  series_next start n i h = let e : n - i ≡ suc (n - (i + 1)) = omega arith in ap (λ k. series f step start k) e

  -- Where nothing is left of a count, the series is empty.
  pub series_done : (start n i : ℕ) → n ≤ i → series f step start (n - i) ≡ []
  unfolding series
  series_done start n i h = let e : n - i ≡ 0 = omega arith in ap (λ k. series f step start k) e

-- Two functions that agree at each place give the same list.
pub series_same : {A : Type 0} (f g : ℕ → A) (step start other n : ℕ)
    → ((i : ℕ) → i < n → f (start + step * i) ≡ g (other + step * i)) → series f step start n ≡ series g step other n
unfolding series
series_same f g step start other zero h = refl
series_same f g step start other (suc n) h =
    (let a : start + step * 0 ≡ start = omega arith in
    let b : other + step * 0 ≡ other = omega arith in
    let first : f start ≡ g other = ap f (sym a) ∙ h 0 (omega arith) ∙ ap g b in
    ap (λ x. x ∷ series f step (start + step) n) first ∙ ap (λ l. g other ∷ l)
    (series_same f g step (start + step) (other + step) n (λ i k.
    (let s : start + step + step * i ≡ start + step * suc i = omega arith in
    let t : other + step + step * i ≡ other + step * suc i = omega arith in
    ap f s ∙ h (suc i) (omega arith) ∙ ap g (sym t)))))

-- A list is its own values, read one after another.
pub series_take : (l : List ℕ) (start n : ℕ) → start + n ≤ length l → series (λ i. get_or l i 0) 1 start n ≡ take n (drop start l)
unfolding series
series_take l start zero h = refl
series_take l start (suc n) h =
    rw (drop-cons l start 0 (omega arith), ← (add-one start))
    (ap (λ t. get_or l start 0 ∷ t) (series_take l (start + 1) n (omega arith)))

-- A function of every value of a series is the series of the function.
pub map_series :
    {A B : Type 0} (g : A → B) (f : ℕ → A) (step start n : ℕ) → map g (series f step start n) ≡ series (λ i. g (f i)) step start n
unfolding series
map_series g f step start zero = refl
map_series g f step start (suc n) = ap (λ l. g (f start) ∷ l) (map_series g f step (start + step) n)

-- Values that all pass the test of 0 are a stretch of zeros.
pub series_zeros :
    (f : ℕ → ℕ) (step start n : ℕ) → every (λ w. eqb w 0) (series f step start n) ≡ true → series f step start n ≡ replicate n 0
unfolding series every
series_zeros f step start zero h = refl
series_zeros f step start (suc n) h =
    let p = (and-eq-true_iff (eqb (f start) 0) (every (λ w. eqb w 0) (series f step (start + step) n))).0 h in
    rw (eqb-true (f start) 0 p.0) (ap (λ l. 0 ∷ l) (series_zeros f step (start + step) n p.1))

-- A function of every element of two lists joined is that of each.
pub map-append : {A B : Type 0} (f : A → B) (a b : List A) → map f (a ++ b) ≡ map f a ++ map f b
map-append f [] b = refl
map-append f (x ∷ a) b = ap (λ l. f x ∷ l) (map-append f a b)

-- Lists of lists joined and put together are each put together and joined.
pub flatten_append : {A : Type 0} (a b : List (List A)) → flatten (a ++ b) ≡ flatten a ++ flatten b
unfolding flatten
flatten_append [] b = refl
flatten_append (x ∷ a) b = ap (λ l. x ++ l) (flatten_append a b) ∙ sym (append_assoc x (flatten a) (flatten b))

-- Entries of `size` words each, read one after another and written again, are the words that were read.
pub chunks_words : {A : Type 0} (entry : ℕ → A) (words : A → List ℕ) (f : ℕ → ℕ) (size : ℕ)
    → ((i : ℕ) → words (entry i) ≡ series f 1 i size)
    → (start n : ℕ) → flatten (map words (series entry size start n)) ≡ series f 1 start (size * n)
unfolding series flatten
chunks_words entry words f size h start zero = (let e : size * 0 ≡ 0 = omega arith in sym (ap (λ k. series f 1 start k) e))
chunks_words entry words f size h start (suc n) =
    (let e : size + size * n ≡ size * suc n = omega arith in
    let k : start + 1 * size ≡ start + size = omega arith in
    rw (h start, chunks_words entry words f size h (start + size) n)
    (sym (sym (ap (λ m. series f 1 start m) e) ∙ series_append f 1 start size (size * n) ∙
    ap (λ m. series f 1 start size ++ series f 1 m (size * n)) k)))

-- Entries written one after another are read again where each is read from its own words.
pub chunks_read : {A : Type 0} (entry : ℕ → A) (words : A → List ℕ) (size : ℕ) (ws : List ℕ)
    → ((a : A) → length (words a) ≡ size)
    → ((a : A) (r : List ℕ) (i : ℕ) → drop i ws ≡ words a ++ r → entry i ≡ a)
    → (l : List A) (r : List ℕ) (start : ℕ) → drop start ws ≡ flatten (map words l) ++ r
    → series entry size start (length l) ≡ l
unfolding series flatten
chunks_read entry words size ws sized h [] r start e = refl
chunks_read entry words size ws sized h (a ∷ l) r start e =
    (let e' : drop start ws ≡ words a ++ (flatten (map words l) ++ r) = e ∙ append_assoc (words a) (flatten (map words l)) r in
    let d : drop (start + size) ws ≡ flatten (map words l) ++ r =
    sym (drop-drop size start ws) ∙ ap (drop size) e' ∙ drop_at (words a) (flatten (map words l) ++ r) size (sized a) in
    rw (h a (flatten (map words l) ++ r) start e')
    (ap (λ t. a ∷ t) (chunks_read entry words size ws sized h l r (start + size) d)))

-- Entries of `size` words each have that many words an entry.
pub length_chunks : {A : Type 0} (words : A → List ℕ) (size : ℕ) → ((a : A) → length (words a) ≡ size)
    → (l : List A) → length (flatten (map words l)) ≡ size * length l
unfolding flatten
length_chunks words size sized [] = omega arith
length_chunks words size sized (a ∷ l) =
    rw (length-append (words a) (flatten (map words l)), sized a, length_chunks words size sized l) (omega arith)

-- Lists joined are the same where their parts are.
pub append_same : {A : Type 0} {a b c d : List A} → a ≡ b → c ≡ d → a ++ c ≡ b ++ d
append_same {a} {d} p q = ap (λ l. a ++ l) q ∙ ap (λ l. l ++ d) p

-- A list that stands at a place is read there.
pub series_read : (ws l r : List ℕ) (start : ℕ) → drop start ws ≡ l ++ r → series (λ i. get_or ws i 0) 1 start (length l) ≡ l
unfolding series
series_read ws [] r start e = refl
series_read ws (x ∷ l) r start e =
    (let a : get_or ws start 0 ≡ x = word_read ws x (l ++ r) start e in
    let d : drop (start + 1) ws ≡ l ++ r = sym (drop-drop 1 start ws) ∙ ap (drop 1) e in
    rw a (ap (λ t. x ∷ t) (series_read ws l r (start + 1) d)))
  where
    word_read : (ws : List ℕ) (x : ℕ) (t : List ℕ) (start : ℕ) → drop start ws ≡ x ∷ t → get_or ws start 0 ≡ x
    word_read ws x t start e =
        (let z : start + 0 ≡ start = omega arith in sym (ap (λ i. get_or ws i 0) z) ∙ sym (get_or-drop start ws 0 0) ∙ ap (λ l. get_or l 0 0) e)

-- A list is its own elements by their places.
pub series_self : {A : Type 0} (l : List A) (d : A) → series (λ i. get_or l i d) 1 0 (length l) ≡ l
series_self {A} l d =
    (let f : ℕ → A = λ i. get_or l i d in
    let n = length_series f 1 0 (length l) in
    ext_get_or d (series f 1 0 (length l)) l n (λ i h.
    (let e : 0 + 1 * i ≡ i = omega arith in get_or_series f 1 0 (length l) i d (rw n at h) ∙ ap f e)))

-- A stretch of zeros passes the test of 0.
pub every_zeros : (n : ℕ) → every (λ w. eqb w 0) (replicate n 0) ≡ true
unfolding every
every_zeros zero = refl
every_zeros (suc n) = every_zeros n

-- The sum of what f gives at 0 to n - 1.
unfoldable pub sum_below : (ℕ → ℕ) → ℕ → ℕ
sum_below f zero = 0
sum_below f (suc n) = sum_below f n + f n

-- Two functions that agree below n have the same sum.
pub sum_below_same : (f g : ℕ → ℕ) (n : ℕ) → ((k : ℕ) → k < n → f k ≡ g k) → sum_below f n ≡ sum_below g n
unfolding sum_below
sum_below_same f g zero h = refl
sum_below_same f g (suc n) h = rw (sum_below_same f g n (λ k l. h k (omega arith)), h n (omega arith))

-- The sum may take the first value first.
pub sum_below_shift : (f : ℕ → ℕ) (n : ℕ) → f 0 + sum_below (λ k. f (suc k)) n ≡ sum_below f n + f n
unfolding sum_below
sum_below_shift f zero = omega arith
sum_below_shift f (suc n) = omega (arith, sum_below_shift f n)

-- Zeros from m on add nothing.
pub sum_below_zeros : (f : ℕ → ℕ) (m n : ℕ) → ((k : ℕ) → m ≤ k → k < m + n → f k ≡ 0) → sum_below f (m + n) ≡ sum_below f m
unfolding sum_below
sum_below_zeros f m zero h = let e : m + 0 ≡ m = omega arith in ap (sum_below f) e
sum_below_zeros f m (suc n) h =
    (let e : m + suc n ≡ suc (m + n) = omega arith in
    let z : f (m + n) ≡ 0 = h (m + n) (omega arith) (omega arith) in
    let r : sum_below f (m + n) ≡ sum_below f m = sum_below_zeros f m n (λ k a b. h k a (omega arith)) in
    let s : sum_below f (m + n) + f (m + n) ≡ sum_below f m = omega arith in
    ap (sum_below f) e ∙ s)

-- A sum over a whole circle of places starts anywhere.
pub sum_below_turned : (f : ℕ → ℕ) (size turns : ℕ) → 0 < size → sum_below (λ k. f ((turns + k) % size)) size ≡ sum_below f size
sum_below_turned f size zero h =
    sum_below_same (λ k. f ((0 + k) % size)) f size (λ k l.
    (let e : 0 + k ≡ k = omega arith in ap (λ n. f (n % size)) e ∙ ap f (mod-eq_of_lt l)))
sum_below_turned f size (suc turns) h =
    (let g : ℕ → ℕ = λ k. f ((turns + k) % size) in
    let a : sum_below (λ k. f ((suc turns + k) % size)) size ≡ sum_below (λ k. g (suc k)) size =
    sum_below_same (λ k. f ((suc turns + k) % size)) (λ k. g (suc k)) size (λ k l.
    (let e : suc turns + k ≡ turns + suc k = omega arith in ap (λ n. f (n % size)) e)) in
    let z : turns + 0 ≡ turns = omega arith in
    let b : g size ≡ g 0 = ap f (add-mod_right turns size ∙ ap (λ n. n % size) (sym z)) in
    let s : sum_below (λ k. g (suc k)) size ≡ sum_below g size = omega (arith, sum_below_shift g size, b) in
    a ∙ s ∙ sum_below_turned f size turns h)

-- One list put together is that list.
flatten_one : {A : Type 0} (l : List A) → flatten (l ∷ []) ≡ l
unfolding flatten
flatten_one l = append-nil l

-- No list put together has no element.
flatten_none : {A : Type 0} (f : ℕ → List A) → length (flatten (series f 1 0 0)) ≡ 0
unfolding flatten series
flatten_none f = refl

-- Lists put together are as long as all of them.
pub length_flatten : {A : Type 0} (f : ℕ → List A) (n : ℕ) → length (flatten (series f 1 0 n)) ≡ sum_below (λ i. length (f i)) n
unfolding sum_below
length_flatten f zero = flatten_none f
length_flatten f (suc n) =
    (let e : 0 + 1 * n ≡ n = omega arith in
    rw (
      series_last f 1 0 n,
      e,
      flatten_append (series f 1 0 n) (f n ∷ []),
      flatten_one (f n),
      length-append (flatten (series f 1 0 n)) (f n),
      length_flatten f n,
    ))

-- A test of what is left of a count:
module _ {A : Type 0} (test : A → Bool) (f : ℕ → A) (step start n i : ℕ) where
  -- It fails at the value read.
  pub every_stop : i < n → test (f start) ≡ false → every test (series f step start (n - i)) ≡ false
  unfolding every
  every_stop h e = rw (series_next f step start n i h, e)

  -- It goes on after a value that passes.
  pub every_next : i < n → test (f start) ≡ true
      → every test (series f step start (n - i)) ≡ every test (series f step (start + step) (n - (i + 1)))
  unfolding every
  every_next h e = rw (series_next f step start n i h, e)

  -- At the end of the count it passes.
  pub every_end : n ≤ i → every test (series f step start (n - i)) ≡ true
  unfolding every
  every_end h = rw (series_done f step start n i h)

-- A test of every value holds of the value numbered i.
pub every_index : {A : Type 0} (test : A → Bool) (f : ℕ → A) (step start n : ℕ) → every test (series f step start n) ≡ true
    → (i : ℕ) → i < n → test (f (start + step * i)) ≡ true
unfolding every series
every_index test f step start zero e i h = absurd (omega arith)
every_index test f step start (suc n) e zero h =
    (let z : start + step * 0 ≡ start = omega arith in
    ap (λ k. test (f k)) z ∙ ((and-eq-true_iff (test (f start)) (every test (series f step (start + step) n))).0 e).0)
every_index test f step start (suc n) e (suc i) h =
    (let z : start + step * suc i ≡ start + step + step * i = omega arith in
    ap (λ k. test (f k)) z ∙
    every_index test f step (start + step) n
    ((and-eq-true_iff (test (f start)) (every test (series f step (start + step) n))).0 e).1 i (omega arith))

-- A test that holds of the value of every number is one of every value.
pub every_all : {A : Type 0} (test : A → Bool) (f : ℕ → A) (step start n : ℕ)
    → ((i : ℕ) → i < n → test (f (start + step * i)) ≡ true) → every test (series f step start n) ≡ true
unfolding every series
every_all test f step start zero h = refl
every_all test f step start (suc n) h =
    (let z : start + step * 0 ≡ start = omega arith in
    (and-eq-true_iff (test (f start)) (every test (series f step (start + step) n))).1 (
      sym (ap (λ k. test (f k)) z) ∙ h 0 (omega arith),
      every_all test f step (start + step) n (λ i l.
          (let e : start + step + step * i ≡ start + step * suc i = omega arith in ap (λ k. test (f k)) e ∙ h (suc i) (omega arith))),
    ))

-- A function that differs at one number gives the list with that value set.
pub series_set : {A : Type 0} (f g : ℕ → A) (n k : ℕ) (d : A) → k < n → ((i : ℕ) → i < n → (i ≡ k → ⊥) → g i ≡ f i)
    → series g 1 0 n ≡ set (series f 1 0 n) k (g k)
series_set f g n k d h same =
    (let a = series f 1 0 n in
    let lf = length_series f 1 0 n in
    let lg = length_series g 1 0 n in
    ext_get_or d (series g 1 0 n) (set a k (g k)) (lg ∙ sym (length-set a k (g k) ∙ lf)) (λ i l.
    (let e : 0 + 1 * i ≡ i = omega arith in
    let m : i < n = rw lg at l in
    get_or_series g 1 0 n i d m ∙ ap g e ∙
    elim (ℕ_discrete i k) [
      | yes q ↦ ap g q ∙ sym (ap (λ j. get_or (set a k (g k)) j d) q ∙ get_or-set_same a k (g k) d (rw lf h))
      | no q ↦ same i m q ∙ sym (get_or-set_other a k i (g k) d q ∙ get_or_series f 1 0 n i d m ∙ ap f e)
    ])))

-- A list by any step is one by single steps.
pub series_unit : {A : Type 0} (f : ℕ → A) (step start n : ℕ) (d : A) → series f step start n ≡ series (λ i. f (start + step * i)) 1 0 n
series_unit {A} f step start n d =
    (let g : ℕ → A = λ i. f (start + step * i) in
    let a = length_series f step start n in
    let b = length_series g 1 0 n in
    ext_get_or d (series f step start n) (series g 1 0 n) (a ∙ sym b) (λ i h.
    (let e : 0 + 1 * i ≡ i = omega arith in
    get_or_series f step start n i d (rw a at h) ∙ sym (get_or_series g 1 0 n i d (rw a at h) ∙ ap g e))))
