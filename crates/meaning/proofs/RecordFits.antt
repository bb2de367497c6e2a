-- Document 01, "Envelope": along any sequence of offers from a fresh record the allowance answers exactly what the definition over
-- stretches answers.
use Prim.Native.Nat.{ℕ, suc, ◌+◌, ◌*◌, ◌-◌, ◌/◌, ◌≤◌, ◌<◌, max}
use mathlib.Core.Path.{◌≡◌, refl, ap, ◌∙◌}
use mathlib.Core.Bool.{Bool, true, false, cond}
use mathlib.Core.List.{List, [], ◌∷◌}
use mathlib.Core.Logic.{◌⊎◌, ◌↔◌, inl, inr, ⊎_elim}
use native.Mathlib.Nat.{mul-le-mul_right, le-max_left, le-max_right, max-eq_left, max-eq_right, eq-zero-or-pos}
use native.Mathlib.Decide.{dec_le}
use native.Mathlib.Omega.{arith}
use lib.Dec.{leb}
use borrow.Author.Tests.{leb-true, leb-false, le-leb, lt-leb}
use Rattle.laws.specs.Tests.{within, within_test, within_below, same_test, every_below, every_below_at, every_below_all, bool_cases}
use Rattle.laws.specs.Quotients.{within_quotient, quotient_within}
use Rattle.laws.specs.Sums.{sum_of}
use Rattle.meaning.specs.declared.Connection.{Connection}
use Rattle.meaning.specs.declared.Allowance.{Allowance}
use Rattle.meaning.specs.Envelope.{may_have, count_in, fits, full, conforms, charged}
use Rattle.meaning.proofs.Allowances.{Means, full_means, means_later, conforms_exactly, charged_means}

-- The slots of accepted packets, the last accepted first, none after `at`.
abbrev pub Descending : ℕ → List ℕ → Type 0
Descending at [] = Unit {0}
Descending at (a ∷ slots) = (a ≤ at) × Descending a slots

-- The number that these accepted packets make of a fresh record.
unfoldable pub number_of : ℕ → List ℕ → ℕ
number_of T [] = 0
number_of T (a ∷ slots) = max (number_of T slots) a + T

-- How many of them lie at slot x or after it.
since : ℕ → List ℕ → ℕ
since x slots = sum_of (λ a. cond (leb x a) 1 0) slots

-- A packet accepted at slot x or after it counts for one.
since_cons_in : (x a : ℕ) (slots : List ℕ) → x ≤ a → since x (a ∷ slots) ≡ suc (since x slots)
unfolding since sum_of
since_cons_in x a slots h = rw (le-leb x a h) (omega arith)

-- A packet accepted before slot x does not count.
since_cons_out : (x a : ℕ) (slots : List ℕ) → a < x → since x (a ∷ slots) ≡ since x slots
unfolding since sum_of
since_cons_out x a slots h = rw (lt-leb x a h) (omega arith)

-- Of no packets none lies at slot x or after it.
since_nil : (x : ℕ) → since x [] ≡ 0
unfolding since sum_of
since_nil x = refl

-- If no packet was accepted after some slot before x, none lies at x or after it.
since_none : (x at : ℕ) (slots : List ℕ) → Descending at slots → at < x → since x slots ≡ 0
since_none x at [] d h = since_nil x
since_none x at (a ∷ slots) d h = since_cons_out x a slots (omega arith) ∙ since_none x a slots d.1 (omega arith)

-- The number lies beyond x by T for each packet from x on.
number_beyond : (T x at : ℕ) (slots : List ℕ) → Descending at slots → 1 ≤ since x slots → x + since x slots * T ≤ number_of T slots
unfolding number_of
number_beyond T x at [] d h = absurd (let e = since_nil x in omega arith)
number_beyond T x at (a ∷ slots) d h =
    elim (dec_le x a) [
      | yes l ↦ inside l (eq-zero-or-pos (since x slots)) (number_beyond T x a slots d.1)
      | no n ↦ absurd (let o = since_cons_out x a slots (omega arith) in let z = since_none x a slots d.1 (omega arith) in omega arith)
    ]
  where
    inside : x ≤ a → (since x slots ≡ 0) ⊎ (0 < since x slots) → (1 ≤ since x slots → x + since x slots * T ≤ number_of T slots)
        → x + since x (a ∷ slots) * T ≤ max (number_of T slots) a + T
    inside l (inl z) ih =
        let e : since x (a ∷ slots) * T ≡ 1 * T = ap (λ n. n * T) (since_cons_in x a slots l ∙ ap suc z) in
        omega (arith, le-max_right (number_of T slots) a)
    inside l (inr k) ih =
        let e : since x (a ∷ slots) * T ≡ suc (since x slots) * T = ap (λ n. n * T) (since_cons_in x a slots l) in
        let i = ih k in
        omega (arith, le-max_left (number_of T slots) a)

-- A number that is not 0 is made by the packets from some slot on.
record Made (T at : ℕ) (slots : List ℕ) : Type 0 where
  from : ℕ
  not_after : from ≤ at
  some_from : 1 ≤ since from slots
  number_is : number_of T slots ≡ from + since from slots * T

-- The number is 0 or made by the packets from some slot on.
number_made : (T at : ℕ) (slots : List ℕ) → 1 ≤ T → Descending at slots → (number_of T slots ≡ 0) ⊎ Made T at slots
unfolding number_of
number_made T at [] h d = inl refl
number_made T at (a ∷ slots) h d =
    elim (dec_le (number_of T slots) a) [
      | yes l ↦ inr (anew l (eq-zero-or-pos (since a slots)))
      | no n ↦ inr (longer (number_made T a slots h d.1) n)
    ]
  where
    anew : number_of T slots ≤ a → (since a slots ≡ 0) ⊎ (0 < since a slots) → Made T at (a ∷ slots)
    anew l (inl z) =
        let e = since_cons_in a a slots (omega arith) in
        let p : since a (a ∷ slots) * T ≡ 1 * T = ap (λ n. n * T) (e ∙ ap suc z) in
        record { from = a; not_after = d.0; some_from = omega arith; number_is = omega (arith, max-eq_right l) }
    anew l (inr k) =
        let b = number_beyond T a a slots d.1 k in
        let m = mul-le-mul_right T k in
        absurd (omega arith)

    longer : (number_of T slots ≡ 0) ⊎ Made T a slots → (number_of T slots ≤ a → ⊥) → Made T at (a ∷ slots)
    longer (inl z) n = absurd (n (omega arith))
    longer (inr m) n =
        let l = m.not_after in
        let e = since_cons_in m.from a slots l in
        let p : since m.from (a ∷ slots) * T ≡ suc (since m.from slots) * T = ap (λ n. n * T) e in
        let i = m.number_is in
        let g : a < number_of T slots = native.Mathlib.Nat.lt_of_not-le n in
        let w : max (number_of T slots) a ≡ number_of T slots = max-eq_left (native.Mathlib.Nat.le_of_lt g) in
        let o = d.0 in
        record { from = m.from; not_after = omega arith; some_from = omega arith; number_is = omega arith }

-- With the offer itself counted, the packets of a stretch that ends at it are those from its start on and one more.
counted : (x at : ℕ) (slots : List ℕ) → Descending at slots → x ≤ at → count_in (at ∷ slots) x at ≡ suc (since x slots)
unfolding count_in sum_of since
counted x at slots d h = rw (within_test x at at h (omega arith)) (let e = rest at slots d (omega arith) in omega arith)
  where
    rest : (top : ℕ) (l : List ℕ) → Descending top l → top ≤ at
        → sum_of (λ a. cond (within x a at) 1 0) l ≡ sum_of (λ a. cond (leb x a) 1 0) l
    rest top [] d k = refl
    rest top (a ∷ l) d k =
        let i = rest a l d.1 (let o = d.0 in omega arith) in
        ⊎_elim
        (λ (t : leb x a ≡ true). rw (within_test x a at (leb-true x a t) (let o = d.0 in omega arith), t) (ap (λ n. 1 + n) i))
        (λ (f : leb x a ≡ false). rw (within_below x a at (leb-false x a f), f) (ap (λ n. 0 + n) i))
        (bool_cases (leb x a))

-- An offer fits the envelope exactly where the number plus T is at most now + b x T.
pub fits_exactly : (c : Connection) (at : ℕ) (slots : List ℕ) → 1 ≤ c.period → 1 ≤ c.burst → Descending at slots
    → (fits (may_have c) slots at ≡ true) ↔ (number_of c.period slots + c.period ≤ at + c.burst * c.period)
unfolding fits may_have
fits_exactly c at slots h k d = (forth, back)
  where
    one : c.period ≤ c.burst * c.period
    one = let m = mul-le-mul_right c.period k in omega arith

    forth : every_below (λ x. leb (count_in (at ∷ slots) x at) (c.burst + (at - x) / c.period)) (suc at) ≡ true
        → number_of c.period slots + c.period ≤ at + c.burst * c.period
    forth e = ⊎_elim (λ z. omega (arith, one)) reached (number_made c.period at slots h d)
      where
        reached : Made c.period at slots → number_of c.period slots + c.period ≤ at + c.burst * c.period
        reached m =
            let l = m.not_after in
            let t = leb-true _ _
            (every_below_at (λ x. leb (count_in (at ∷ slots) x at) (c.burst + (at - x) / c.period)) (suc at) e m.from (omega arith)) in
            let n = counted m.from at slots d l in
            let q = within_quotient (count_in (at ∷ slots) m.from at) c.burst (at - m.from) c.period t in
            let p : count_in (at ∷ slots) m.from at * c.period ≡ suc (since m.from slots) * c.period = ap (λ x. x * c.period) n in
            let i = m.number_is in
            omega arith

    back : number_of c.period slots + c.period ≤ at + c.burst * c.period
        → every_below (λ x. leb (count_in (at ∷ slots) x at) (c.burst + (at - x) / c.period)) (suc at) ≡ true
    back l = every_below_all (λ x. leb (count_in (at ∷ slots) x at) (c.burst + (at - x) / c.period)) (suc at) at_each
      where
        at_each : (x : ℕ) → x < suc at → leb (count_in (at ∷ slots) x at) (c.burst + (at - x) / c.period) ≡ true
        at_each x g =
            let n = counted x at slots d (omega arith) in
            le-leb _ _
            (quotient_within (count_in (at ∷ slots) x at) c.burst (at - x) c.period h
            (⊎_elim
            (λ z.
            let p : count_in (at ∷ slots) x at * c.period ≡ 1 * c.period = ap (λ y. y * c.period) (n ∙ ap suc z) in
            omega (arith, one))
            (λ y.
            let p : count_in (at ∷ slots) x at * c.period ≡ suc (since x slots) * c.period = ap (λ y. y * c.period) n in
            let b = number_beyond c.period x at slots d y in
            omega arith)
            (eq-zero-or-pos (since x slots))))

-- The record answers what the definition over stretches answers.
pub record_answers : (c : Connection) (at : ℕ) (a : Allowance) (slots : List ℕ) → 1 ≤ c.period → 1 ≤ c.burst
    → Means c at a (number_of c.period slots) → Descending at slots → conforms c a at ≡ fits (may_have c) slots at
record_answers c at a slots h k m d =
    let f = conforms_exactly c at a (number_of c.period slots) h k m in
    let g = fits_exactly c at slots h k d in
    same_test (conforms c a at) (fits (may_have c) slots at) (λ e. g.1 (f.0 e)) (λ e. f.1 (g.0 e))

-- The record stands for the packets accepted so far, and goes on to do so when one more is charged.
pub record_charged : (c : Connection) (at : ℕ) (a : Allowance) (slots : List ℕ) → 1 ≤ c.period → 1 ≤ c.burst
    → Means c at a (number_of c.period slots) → conforms c a at ≡ true → Means c at (charged c a at) (number_of c.period (at ∷ slots))
unfolding number_of
record_charged c at a slots h k m e = charged_means c at a (number_of c.period slots) h k m e

-- The answers to offers at these slots, by the record: an accepted packet charges it once, a refused one leaves it untouched.
unfoldable pub by_record : Connection → Allowance → List ℕ → List Bool
by_record c a [] = []
by_record c a (at ∷ offers) = conforms c a at ∷ by_record c (cond (conforms c a at) (charged c a at) a) offers

-- The answers by the definition over stretches, after packets accepted at these slots.
unfoldable pub by_stretches : Connection → List ℕ → List ℕ → List Bool
by_stretches c slots [] = []
by_stretches c slots (at ∷ offers) = fits (may_have c) slots at ∷ by_stretches c (cond (fits (may_have c) slots at) (at ∷ slots) slots) offers

-- The slots of offers never fall.
abbrev pub Ascending : ℕ → List ℕ → Type 0
Ascending from [] = Unit {0}
Ascending from (at ∷ offers) = (from ≤ at) × Ascending at offers

-- Slots that are not after one slot are not after a later one.
pub descending_later : (at later : ℕ) (slots : List ℕ) → at ≤ later → Descending at slots → Descending later slots
descending_later at later [] h d = tt
descending_later at later (a ∷ slots) h d = (let o = d.0 in omega arith, d.1)

-- From a record that stands for the accepted packets, every offer gets the answer of the stretches.
same_from : (c : Connection) (from : ℕ) (a : Allowance) (slots offers : List ℕ) → 1 ≤ c.period → 1 ≤ c.burst
    → Means c from a (number_of c.period slots) → Descending from slots → Ascending from offers
    → by_record c a offers ≡ by_stretches c slots offers
unfolding by_record by_stretches
same_from c from a slots [] h k m d u = refl
same_from c from a slots (at ∷ offers) h k m d u =
    let n = means_later c from at a (number_of c.period slots) u.0 m in
    let w = descending_later from at slots u.0 d in
    let e = record_answers c at a slots h k n w in
    rw (← e)
    (ap (λ (l : List Bool). conforms c a at ∷ l)
    (⊎_elim
    (λ (t : conforms c a at ≡ true). rw t
    (same_from c at (charged c a at) (at ∷ slots) offers h k (record_charged c at a slots h k n t) (omega arith, w) u.1))
    (λ (f : conforms c a at ≡ false). rw f (same_from c at a slots offers h k n w u.1))
    (bool_cases (conforms c a at))))

-- From a fresh record, over any offers at slots that never fall.
pub record_fits : (c : Connection) (offers : List ℕ) → 1 ≤ c.period → 1 ≤ c.burst → Ascending 0 offers
    → by_record c (full c) offers ≡ by_stretches c [] offers
unfolding number_of
record_fits c offers h k u = same_from c 0 (full c) [] offers h k (full_means c 0) tt u
