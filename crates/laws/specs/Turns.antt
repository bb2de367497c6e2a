-- Division by D from one number to the next: the quotient rises by one exactly at the multiples of D.
use Rattle.std.specs.Prelude.{ℕ, suc, ◌+◌, ◌*◌, ◌/◌, ◌%◌, ◌≤◌, ◌<◌, ◌≡◌, ◌⊎◌}
use Rattle.std.proofs.Common.{◌∙◌, ap, inl, inr, ⊎_elim, div-add-mod', mod-lt, eq-or-lt_of_le, arith}
use Rattle.std.proofs.Math.Nat.{mul-mod_left, mul-div_left}
use Rattle.std.proofs.Math.Arith.{digits_div, digits_mod}

-- The number after n lies within the same multiple of D, or is the next multiple.
next_within : (D n : ℕ) → 1 ≤ D → (suc (n % D) < D) ⊎ (suc n ≡ suc (n / D) * D)
next_within D n h =
    ⊎_elim (λ (e : suc (n % D) ≡ D). inr (omega (arith, div-add-mod' n D))) (λ l. inl l) (eq-or-lt_of_le (mod-lt n h))

-- The number after n is so many times D as n is, and one more than the remainder of n.
next_is : (D n : ℕ) → suc n ≡ n / D * D + suc (n % D)
next_is D n = omega (arith, div-add-mod' n D)

-- At a multiple of D the quotient is one more.
pub turn_due_lem : (D n : ℕ) → 1 ≤ D → suc n % D ≡ 0 → suc n / D ≡ suc (n / D)
turn_due_lem D n h e = ⊎_elim inside (λ (m : suc n ≡ suc (n / D) * D). ap (λ k. k / D) m ∙ mul-div_left (suc (n / D)) h) (next_within D n h)
  where
    inside : suc (n % D) < D → suc n / D ≡ suc (n / D)
    inside l =
        let r : suc n % D ≡ suc (n % D) = ap (λ k. k % D) (next_is D n) ∙ digits_mod (n / D) l in
        omega arith

-- At any other number the quotient is that of the number before.
pub turn_not_due : (D n : ℕ) → 1 ≤ D → (suc n % D ≡ 0 → ⊥) → suc n / D ≡ n / D
turn_not_due D n h f =
    ⊎_elim (λ (l : suc (n % D) < D). ap (λ k. k / D) (next_is D n) ∙ digits_div (n / D) l)
    (λ (m : suc n ≡ suc (n / D) * D). absurd (f (ap (λ k. k % D) m ∙ mul-mod_left (suc (n / D)) D)))
    (next_within D n h)
