-- What can be ahead of a packet: ranks turned into slots. K = floor(a/D) throughout, for the packet's arrival a.
use Prim.Native.Nat.{ℕ, ◌+◌, ◌*◌, ◌/◌, ◌≤◌, ◌<◌}
use mathlib.Core.Path.{◌≡◌, refl, sym, ◌∙◌}
use mathlib.Core.Bool.{Bool, true, false, ◌&&◌, ◌||◌, and-eq-true_iff, true≢false}
use mathlib.Core.List.{List}
use mathlib.Core.Logic.{◌⊎◌, inl, inr, ⊎_elim}
use lib.Dec.{leb, ltb, eqb}
use borrow.Author.Tests.{ltb-true, lt-ltb, leb-true, le-leb, eqb-true, eq-eqb}
use native.Mathlib.Nat.{div-mul-le_self, lt-div-mul-add, mul-le-mul_right}
use native.Mathlib.Decide.{dec_lt}
use native.Mathlib.Omega.{arith}
use Rattle.laws.specs.Tests.{or_cases, or_left, or_right}
use Rattle.meaning.specs.declared.Packet.{Packet}
use Rattle.meaning.specs.Box.{Box, rank_in}
use Rattle.guarantees.proofs.Choosing.{Before}
use Rattle.guarantees.proofs.Scheduled.{Closed}

-- The packets that go before p, and p itself.
unfoldable pub up_to : Box → Packet → Packet → Bool
up_to box p x = ltb (rank_in box x) (rank_in box p) || eqb (rank_in box x) (rank_in box p) && leb x.serial p.serial

module _ (box : Box) (p x : Packet) where
  -- A packet that is up to p has a lower rank, or the same rank and no higher serial.
  pub up_to_facts : up_to box p x ≡ true → (rank_in box x < rank_in box p) ⊎ ((rank_in box x ≡ rank_in box p) × (x.serial ≤ p.serial))
  unfolding up_to
  up_to_facts e =
      ⊎_elim (λ l. inl (ltb-true (rank_in box x) (rank_in box p) l))
      (λ s. let b = (and-eq-true_iff (eqb (rank_in box x) (rank_in box p)) (leb x.serial p.serial)).0 s in
      inr (eqb-true (rank_in box x) (rank_in box p) b.0, leb-true x.serial p.serial b.1))
      (or_cases (ltb (rank_in box x) (rank_in box p)) (eqb (rank_in box x) (rank_in box p) && leb x.serial p.serial) e)

  -- A packet with a lower rank than p, or the same rank and no higher serial, is up to p.
  pub up_to_test : (rank_in box x < rank_in box p) ⊎ ((rank_in box x ≡ rank_in box p) × (x.serial ≤ p.serial)) → up_to box p x ≡ true
  unfolding up_to
  up_to_test (inl l) = or_left _ _ (lt-ltb (rank_in box x) (rank_in box p) l)
  up_to_test (inr s) =
      or_right (ltb (rank_in box x) (rank_in box p)) (eqb (rank_in box x) (rank_in box p) && leb x.serial p.serial)
      ((and-eq-true_iff (eqb (rank_in box x) (rank_in box p)) (leb x.serial p.serial)).1 (eq-eqb _ _ s.0, le-leb _ _ s.1))

  -- A packet that was accepted before p and does not go before it has a higher rank.
  pub beyond_rank : up_to box p x ≡ false → x.serial < p.serial → rank_in box p < rank_in box x
  beyond_rank e h =
      elim (dec_lt (rank_in box p) (rank_in box x)) [
        | yes l ↦ l
        | no l ↦ absurd (true≢false (sym (up_to_test (
            elim (dec_lt (rank_in box x) (rank_in box p)) [ yes m ↦ inl m | no m ↦ inr (omega arith, omega arith) ])) ∙ e))
      ]

-- With a packet, they hold every one that goes before it.
pub up_to_closed : (box : Box) (H : List Packet) (p : Packet) → Closed box H (up_to box p)
up_to_closed box H p x y m n before e =
    up_to_test box p x (join before (up_to_facts box p y e))
  where
    join : Before box x y → (rank_in box y < rank_in box p) ⊎ ((rank_in box y ≡ rank_in box p) × (y.serial ≤ p.serial)) →
        (rank_in box x < rank_in box p) ⊎ ((rank_in box x ≡ rank_in box p) × (x.serial ≤ p.serial))
    join (inl a) (inl b) = inl (let z : rank_in box x < rank_in box p = omega arith in z)
    join (inl a) (inr b) = inl (let c = b.0 in let z : rank_in box x < rank_in box p = omega arith in z)
    join (inr a) (inl b) = inl (let c = a.0 in let z : rank_in box x < rank_in box p = omega arith in z)
    join (inr a) (inr b) =
        let c = a.0 in
        let d = b.0 in
        let f = a.1 in
        let g = b.1 in
        inr (let z : rank_in box x ≡ rank_in box p = omega arith in z, let z : x.serial ≤ p.serial = omega arith in z)

-- A packet is up to itself.
pub up_to_self : (box : Box) (p : Packet) → up_to box p p ≡ true
up_to_self box p = up_to_test box p p (inr (refl, omega arith))

-- Ranks and slots: x and a are arrivals, f and g the factors of their classes.
module _ (D : ℕ) (h : 1 ≤ D) (x a f g : ℕ) where
  -- A rank at most the other: x + f x D + 1 is at most K x D + g x D + D.
  pub not_above : x / D + f ≤ a / D + g → x + f * D + 1 ≤ a / D * D + g * D + D
  not_above l =
      let m = mul-le-mul_right D l in
      let s = lt-div-mul-add {a = x} h in
      omega arith

  -- A lower rank: x + f x D + 1 is at most K x D + g x D.
  pub below : x / D + f < a / D + g → x + f * D + 1 ≤ a / D * D + g * D
  below l =
      let m = mul-le-mul_right D l in
      let s = lt-div-mul-add {a = x} h in
      omega arith

  -- A packet in the way: its rank is higher, and it came before slot u.
  pub beyond : (u : ℕ) → a / D + g < x / D + f → x < u → a / D * D + g * D + D + 1 ≤ u + f * D
  beyond u l b =
      let m = mul-le-mul_right D l in
      let s = div-mul-le_self x D in
      omega arith

-- An earlier interval is an earlier slot.
pub earlier_interval : (D : ℕ) → 1 ≤ D → (x a : ℕ) → x / D < a / D → x < a
earlier_interval D h x a l =
    let m = mul-le-mul_right D l in
    let s = lt-div-mul-add {a = x} h in
    let t = div-mul-le_self a D in
    omega arith

-- A slot lies in the interval of D slots that starts at floor(a/D) x D.
pub interval_of : (D : ℕ) → 1 ≤ D → (a : ℕ) → (a / D * D ≤ a) × (a < a / D * D + D)
interval_of D h a = (div-mul-le_self a D, lt-div-mul-add h)
