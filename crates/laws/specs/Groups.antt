-- A sum over a list, taken group by group: the groups are numbered, and compared with what another list gives for each number.
use Rattle.std.specs.Prelude.{ℕ, zero, suc, ◌+◌, ◌≤◌, ◌<◌, ◌≡◌, refl, eqb, length, get_or}
use Rattle.std.proofs.Common.{sym, ap, arith, eq-eqb, ne_eqb}
use mathlib.Core.List.{List, [], ◌∷◌, Memᴰ}
use Rattle.std.proofs.Math.Decide.{dec_lt}
use Rattle.laws.specs.Sums.{sum_of}
use Rattle.laws.specs.SumLaws.{given, given_true, given_false}

-- The sum of g over k numbers from n on.
unfoldable pub across : (ℕ → ℕ) → ℕ → ℕ → ℕ
across g n zero = 0
across g n (suc k) = g n + across g (suc n) k

-- The sum of two functions is the two sums added.
across_add : (g h : ℕ → ℕ) (n k : ℕ) → across (λ j. g j + h j) n k ≡ across g n k + across h n k
unfolding across
across_add g h n zero = refl
across_add g h n (suc k) = let i = across_add g h (suc n) k in omega arith

-- A sum of zeros is 0.
across_zero : (n k : ℕ) → across (λ j. 0) n k ≡ 0
unfolding across
across_zero n zero = refl
across_zero n (suc k) = let i = across_zero (suc n) k in omega arith

-- A number below the range is not met in it.
across_none : (at m n k : ℕ) → at < n → across (λ j. given (eqb at j) m) n k ≡ 0
unfolding across
across_none at m n zero h = refl
across_none at m n (suc k) h =
    let e = given_false m (ne_eqb at n (omega arith)) in
    let i = across_none at m (suc n) k (omega arith) in
    omega arith

-- A number of the range is met once.
across_one : (at m n k : ℕ) → n ≤ at → at < n + k → across (λ j. given (eqb at j) m) n k ≡ m
unfolding across
across_one at m n zero h l = absurd (omega arith)
across_one at m n (suc k) h l =
    elim (dec_lt n at) [
      | yes o ↦ (let e = given_false m (ne_eqb at n (omega arith)) in let i = across_one at m (suc n) k o (omega arith) in omega arith)
      | no o ↦ (let e = given_true m (eq-eqb at n (omega arith)) in let i = across_none at m (suc n) k (omega arith) in omega arith)
    ]

-- The part of the sum of f that group j has; `group` numbers the elements.
unfoldable pub part_of : {A : Type 0} → (A → ℕ) → (A → ℕ) → List A → ℕ → ℕ
part_of group f l j = sum_of (λ a. given (eqb (group a) j) (f a)) l

-- The sum is the sum of the parts.
pub sum_groups : {A : Type 0} (group f : A → ℕ) (l : List A) (n k : ℕ) → ((a : A) → Memᴰ a l → (n ≤ group a) × (group a < n + k)) →
    sum_of f l ≡ across (part_of group f l) n k
unfolding sum_of part_of
sum_groups group f [] n k h = sym (across_zero n k)
sum_groups group f (a ∷ l) n k h =
    let r = h a (Memᴰ.head refl) in
    let o = across_one (group a) (f a) n k r.0 r.1 in
    let i = sum_groups group f l n k (λ b m. h b (Memᴰ.tail m)) in
    let s = across_add (λ j. given (eqb (group a) j) (f a)) (λ j. sum_of (λ a. given (eqb (group a) j) (f a)) l) n k in
    omega arith

-- Groups that are each at most what a list gives for their number sum up to at most its sum.
pub across_below : {A : Type 0} (g : ℕ → ℕ) (f : A → ℕ) (l : List A) (d : A) (n : ℕ) →
    ((i : ℕ) → i < length l → g (n + i) ≤ f (get_or l i d)) → across g n (length l) ≤ sum_of f l
unfolding across sum_of
across_below g f [] d n h = omega arith
across_below g f (a ∷ l) d n h =
    let e : n + 0 ≡ n = omega arith in
    let x = h 0 (omega arith) in
    let y = ap g e in
    let i = across_below g f l d (suc n) (λ i b. let e : n + suc i ≡ suc n + i = omega arith in rw e at (h (suc i) (omega arith))) in
    omega arith

-- If one of the groups leaves m to spare, so does the sum.
pub across_spare : {A : Type 0} (g : ℕ → ℕ) (f : A → ℕ) (l : List A) (d : A) (n m at : ℕ) →
    at < length l → g (n + at) + m ≤ f (get_or l at d) →
    ((i : ℕ) → i < length l → g (n + i) ≤ f (get_or l i d)) → across g n (length l) + m ≤ sum_of f l
unfolding across sum_of
across_spare g f [] d n m at b s h = absurd (omega arith)
across_spare g f (a ∷ l) d n m zero b s h =
    let e : n + 0 ≡ n = omega arith in
    let y = ap g e in
    let i = across_below g f l d (suc n) (λ i b. let e : n + suc i ≡ suc n + i = omega arith in rw e at (h (suc i) (omega arith))) in
    omega arith
across_spare g f (a ∷ l) d n m (suc at) b s h =
    let e : n + 0 ≡ n = omega arith in
    let x = h 0 (omega arith) in
    let y = ap g e in
    let e : n + suc at ≡ suc n + at = omega arith in
    let i = across_spare g f l d (suc n) m at (omega arith) (rw e at s)
    (λ i b. let e : n + suc i ≡ suc n + i = omega arith in rw e at (h (suc i) (omega arith))) in
    omega arith
