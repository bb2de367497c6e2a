-- The allowance record as one number v: fresh it is 0, an accepted packet at slot a makes it max(v, a) + T, and a packet fits exactly
-- where v + T is at most now + b x T. The record (next, credit) is that number in two digits.
use Prim.Native.Nat.{ℕ, zero, suc, ◌+◌, ◌*◌, ◌-◌, ◌/◌, ◌≤◌, ◌<◌, max}
use mathlib.Core.Path.{◌≡◌, refl, ap, ◌∙◌}
use mathlib.Core.Bool.{true, ◌&&◌, and-eq-true_iff}
use mathlib.Core.Logic.{◌⊎◌, ◌↔◌, inl, inr, ⊎_elim}
use native.Mathlib.Nat.{mul-le-mul_right, div-mul-le_self, lt-div-mul-add, max-eq_left, max-eq_right, suc-mul}
use native.Mathlib.Omega.{arith}
use lib.Dec.{leb, ltb, eqb}
use borrow.Author.Tests.{leb-true, leb-false, le-leb, lt-leb, eqb-true, eq-eqb, ne_eqb, ltb-true, lt-ltb}
use Rattle.laws.specs.Tests.{within, within_facts, within_test, or_cases, or_left, or_right, bool_cases}
use Rattle.meaning.specs.declared.Connection.{Connection}
use Rattle.meaning.specs.declared.Allowance.{Allowance}
use Rattle.meaning.specs.Envelope.{full, came_back, refilled, conforms, charged, allowance_kept}

-- A record with all its credits, as it is kept when fresh.
pub record Fresh (c : Connection) (a : Allowance) (v : ℕ) : Type 0 where
  pub next_is : a.next ≡ 0
  pub credit_is : a.credit ≡ c.burst
  pub number_is : v ≡ 0

-- A record with fewer credits, of which one comes back after at most T.
pub record Used (c : Connection) (at : ℕ) (a : Allowance) (v : ℕ) : Type 0 where
  pub credit_most : a.credit < c.burst
  pub next_least : 1 ≤ a.next
  pub next_most : a.next ≤ at + c.period
  pub number_is : v + suc a.credit * c.period ≡ a.next + c.burst * c.period

-- The record stands for the number v at slot `at`.
abbrev pub Means : Connection → ℕ → Allowance → ℕ → Type 0
Means c at a v = Fresh c a v ⊎ Used c at a v

-- The range of an allowance is that it stands for some number.
pub kept_means : (c : Connection) (at : ℕ) (a : Allowance) → allowance_kept c at a ≡ true → (v : ℕ) × Means c at a v
unfolding allowance_kept
kept_means c at a e =
    ⊎_elim
    (λ (f : (eqb a.credit c.burst && eqb a.next 0) ≡ true).
    let h = (and-eq-true_iff (eqb a.credit c.burst) (eqb a.next 0)).0 f in
    (0, inl (record { next_is = eqb-true _ _ h.1; credit_is = eqb-true _ _ h.0; number_is = refl })))
    (λ (f : (ltb a.credit c.burst && within 1 a.next (at + c.period)) ≡ true).
    let h = (and-eq-true_iff (ltb a.credit c.burst) (within 1 a.next (at + c.period))).0 f in
    let l : a.credit < c.burst = ltb-true _ _ h.0 in
    let r = within_facts 1 a.next (at + c.period) h.1 in
    let m = mul-le-mul_right c.period l in (
      a.next + c.burst * c.period - suc a.credit * c.period,
      inr (record { credit_most = l; next_least = r.0; next_most = r.1; number_is = omega arith }),
    ))
    (or_cases (eqb a.credit c.burst && eqb a.next 0) (ltb a.credit c.burst && within 1 a.next (at + c.period)) e)

-- A record that stands for some number is in the range of an allowance.
pub means_kept : (c : Connection) (at : ℕ) (a : Allowance) (v : ℕ) → Means c at a v → allowance_kept c at a ≡ true
unfolding allowance_kept
means_kept c at a v (inl f) =
    or_left (eqb a.credit c.burst && eqb a.next 0) (ltb a.credit c.burst && within 1 a.next (at + c.period))
    ((and-eq-true_iff (eqb a.credit c.burst) (eqb a.next 0)).1 (eq-eqb _ _ f.credit_is, eq-eqb _ _ f.next_is))
means_kept c at a v (inr u) =
    or_right (eqb a.credit c.burst && eqb a.next 0) (ltb a.credit c.burst && within 1 a.next (at + c.period))
    ((and-eq-true_iff (ltb a.credit c.burst) (within 1 a.next (at + c.period))).1
    (lt-ltb _ _ u.credit_most, within_test 1 _ _ u.next_least u.next_most))

-- What a record stands for does not change as the slots pass.
pub means_later : (c : Connection) (at later : ℕ) (a : Allowance) (v : ℕ) → at ≤ later → Means c at a v → Means c later a v
means_later c at later a v h (inl f) = inl f
means_later c at later a v h (inr u) =
    inr (record {
      credit_most = u.credit_most;
      next_least = u.next_least;
      next_most = (let x = u.next_most in omega arith);
      number_is = u.number_is;
    })

-- A fresh allowance stands for 0.
pub full_means : (c : Connection) (at : ℕ) → Means c at (full c) 0
unfolding full
full_means c at = inl (record { next_is = refl; credit_is = refl; number_is = refl })

-- How a record stands at a slot once the credits that came back are put in: it has all of them, and v has passed; or it has some
-- fewer, the next one comes back after this slot, and v lies ahead.
pub data Refilled (c : Connection) (at : ℕ) (a : Allowance) (v : ℕ) : Type 0 where
  all : refilled c a at ≡ full c → v ≤ at → Refilled c at a v
  some : (refilled c a at).credit < c.burst
      → at < (refilled c a at).next
      → (refilled c a at).next ≤ at + c.period
      → at ≤ v
      → v + suc (refilled c a at).credit * c.period ≡ (refilled c a at).next + c.burst * c.period
      → Refilled c at a v

-- The record once the credits that came back are put in, where they do not fill it.
pub refilled_some : (c : Connection) (at : ℕ) (a : Allowance) → a.credit + came_back c a at < c.burst
    → refilled c a at ≡ record { next = a.next + came_back c a at * c.period; credit = a.credit + came_back c a at }
unfolding refilled
refilled_some c at a h = rw (lt-leb c.burst (a.credit + came_back c a at) h) refl

-- Where the credits that came back fill the record, it is full.
pub refilled_all : (c : Connection) (at : ℕ) (a : Allowance) → c.burst ≤ a.credit + came_back c a at → refilled c a at ≡ full c
unfolding refilled
refilled_all c at a h = rw (le-leb c.burst (a.credit + came_back c a at) h) refl

-- The credits that came back: none before the slot `next`; from it on one, and one more for each T.
pub none_back : (c : Connection) (at : ℕ) (a : Allowance) → at < a.next → came_back c a at ≡ 0
unfolding came_back
none_back c at a h = rw (lt-leb a.next at h) refl

-- From the slot `next` on, one credit has come back and one more after each T.
pub some_back : (c : Connection) (at : ℕ) (a : Allowance) → a.next ≤ at → came_back c a at ≡ suc ((at - a.next) / c.period)
unfolding came_back
some_back c at a h = rw (le-leb a.next at h) refl

-- What is used of the credits that came back: their slots have passed, and the next one's has not.
record Back (c : Connection) (at : ℕ) (a : Allowance) : Type 0 where
  reached : 1 ≤ came_back c a at → a.next + came_back c a at * c.period ≤ at + c.period
  ahead : at < a.next + came_back c a at * c.period

-- The slots of the credits that came back have passed, and that of the next one has not.
back : (c : Connection) (at : ℕ) (a : Allowance) → 1 ≤ c.period → Back c at a
back c at a h = ⊎_elim came (λ f. waits (leb-false _ _ f)) (bool_cases (leb a.next at))
  where
    came : leb a.next at ≡ true → Back c at a
    came t =
        let l : a.next ≤ at = leb-true _ _ t in
        let e = some_back c at a l in
        let d = (at - a.next) / c.period in
        let k : came_back c a at * c.period ≡ d * c.period + c.period = ap (λ n. n * c.period) e ∙ suc-mul d c.period in
        let low : d * c.period ≤ at - a.next = div-mul-le_self (at - a.next) c.period in
        let high : at - a.next < d * c.period + c.period = lt-div-mul-add h in
        record { reached = λ _. omega arith; ahead = omega arith }

    waits : at < a.next → Back c at a
    waits l =
        let e = none_back c at a l in
        let k : came_back c a at * c.period ≡ 0 = ap (λ n. n * c.period) e ∙ native.Mathlib.Nat.zero-mul c.period in
        record { reached = λ (x : 1 ≤ came_back c a at). omega arith; ahead = omega arith }

-- A record that stands for v is refilled in one of the two ways.
pub refill : (c : Connection) (at : ℕ) (a : Allowance) (v : ℕ) → 1 ≤ c.period → Means c at a v → Refilled c at a v
refill c at a v h (inl f) =
    let z : a.next ≤ at = (let x = f.next_is in omega arith) in
    let r = f.credit_is in
    let n = f.number_is in
    all (refilled_all c at a (omega arith)) (omega arith)
refill c at a v h (inr u) =
    ⊎_elim (λ t. filled (leb-true _ _ t)) (λ f. fewer (leb-false _ _ f)) (bool_cases (leb c.burst (a.credit + came_back c a at)))
  where
    b : Back c at a
    b = back c at a h

    filled : c.burst ≤ a.credit + came_back c a at → Refilled c at a v
    filled l =
        let m = u.credit_most in
        let r = b.reached (omega arith) in
        let n = u.number_is in
        let k = mul-le-mul_right c.period l in
        all (refilled_all c at a l) (omega arith)

    fewer : a.credit + came_back c a at < c.burst → Refilled c at a v
    fewer l =
        let e = refilled_some c at a l in
        let ec : (refilled c a at).credit ≡ a.credit + came_back c a at = ap (λ r. r.credit) e in
        let en : (refilled c a at).next ≡ a.next + came_back c a at * c.period = ap (λ r. r.next) e in
        let n = u.number_is in
        let m = u.next_most in
        let g = b.ahead in
        let k = mul-le-mul_right c.period l in
        let kc : suc (refilled c a at).credit * c.period ≡ suc (a.credit + came_back c a at) * c.period =
        ap (λ x. suc x * c.period) ec in
        let top : a.next + came_back c a at * c.period ≤ at + c.period =
        ⊎_elim (λ (x : 1 ≤ came_back c a at). b.reached x)
        (λ (x : came_back c a at ≡ 0). let y : came_back c a at * c.period ≡ 0 = ap (λ n. n * c.period) x ∙
        native.Mathlib.Nat.zero-mul c.period in omega arith)
        (one_or_none (came_back c a at)) in
        some (omega arith) (omega arith) (omega arith) (omega arith) (omega arith)
      where
        one_or_none : (n : ℕ) → (1 ≤ n) ⊎ (n ≡ 0)
        one_or_none zero = inr refl
        one_or_none (suc n) = inl (omega arith)

-- A packet conforms exactly where v + T is at most now + b x T.
pub conforms_exactly : (c : Connection) (at : ℕ) (a : Allowance) (v : ℕ) → 1 ≤ c.period → 1 ≤ c.burst → Means c at a v
    → (conforms c a at ≡ true) ↔ (v + c.period ≤ at + c.burst * c.period)
unfolding conforms full
conforms_exactly c at a v h k m = go (refill c at a v h m)
  where
    go : Refilled c at a v → (leb 1 (refilled c a at).credit ≡ true) ↔ (v + c.period ≤ at + c.burst * c.period)
    go (all e l) =
        let r : (refilled c a at).credit ≡ c.burst = ap (λ x. x.credit) e in
        let p = mul-le-mul_right c.period k in
        (λ _. omega arith, λ _. le-leb 1 (refilled c a at).credit (omega arith))
    go (some l g t w n) = (
      λ y. let q = mul-le-mul_right c.period (leb-true 1 (refilled c a at).credit y) in omega arith,
      λ y. le-leb 1 (refilled c a at).credit (at_least (refilled c a at).credit n y),
    )
      where
        at_least : (r : ℕ) → v + suc r * c.period ≡ (refilled c a at).next + c.burst * c.period
            → v + c.period ≤ at + c.burst * c.period → 1 ≤ r
        at_least zero e y = omega arith
        at_least (suc r) e y = omega arith

-- An accepted packet makes the number max(v, now) + T.
pub charged_means : (c : Connection) (at : ℕ) (a : Allowance) (v : ℕ) → 1 ≤ c.period → 1 ≤ c.burst → Means c at a v
    → conforms c a at ≡ true
    → Means c at (charged c a at) (max v at + c.period)
unfolding charged conforms full
charged_means c at a v h k m y = go (refill c at a v h m)
  where
    less_one : (n : ℕ) → 1 ≤ n → suc (n - 1) * c.period ≡ n * c.period
    less_one n l = ap (λ x. x * c.period) (omega arith)

    go : Refilled c at a v → Means c at (charged c a at) (max v at + c.period)
    go (all e l) =
        let r : (refilled c a at).credit ≡ c.burst = ap (λ x. x.credit) e in
        let b = less_one c.burst k in
        rw (eq-eqb (refilled c a at).credit c.burst r)
        (inr (record {
          credit_most = omega arith;
          next_least = omega arith;
          next_most = omega arith;
          number_is = omega
              (arith, max-eq_right l);
        }))
    go (some l g t w n) =
        let o : 1 ≤ (refilled c a at).credit = leb-true 1 (refilled c a at).credit y in
        let b = less_one (refilled c a at).credit o in
        rw (ne_eqb (refilled c a at).credit c.burst (λ q. omega arith))
        (inr (record {
          credit_most = omega arith;
          next_least = omega arith;
          next_most = omega arith;
          number_is = omega
              (arith, max-eq_left w);
        }))

-- The range of an allowance is kept by a charge, and as the slots pass.
pub charged_kept : (c : Connection) (at : ℕ) (a : Allowance) → 1 ≤ c.period → 1 ≤ c.burst → allowance_kept c at a ≡ true
    → conforms c a at ≡ true
    → allowance_kept c at (charged c a at) ≡ true
charged_kept c at a h k e y =
    let m = kept_means c at a e in
    means_kept c at (charged c a at) (max m.0 at + c.period) (charged_means c at a m.0 h k m.1 y)

-- An allowance in range stays in range as the slots pass.
pub kept_later : (c : Connection) (at later : ℕ) (a : Allowance) → at ≤ later → allowance_kept c at a ≡ true → allowance_kept c later a ≡ true
kept_later c at later a l e =
    let m = kept_means c at a e in
    means_kept c later a m.0 (means_later c at later a m.0 l m.1)

-- A full allowance is in range.
pub full_kept : (c : Connection) (at : ℕ) → allowance_kept c at (full c) ≡ true
full_kept c at = means_kept c at (full c) 0 (full_means c at)
