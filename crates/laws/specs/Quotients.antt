-- A bound by a quotient, and the same bound multiplied out.
use Rattle.std.specs.Prelude.{ℕ, suc, ◌+◌, ◌*◌, ◌/◌, ◌≤◌, ◌<◌}
use native.Mathlib.Nat.{mul-le-mul_right, div-mul-le_self, lt-div-mul-add}
use Rattle.std.proofs.Common.{arith}
use Rattle.std.proofs.Math.Decide.{dec_le}

-- What is at most b and a quotient is, multiplied out, at most the dividend and b divisors.
pub within_quotient : (k b y T : ℕ) → k ≤ b + y / T → k * T ≤ y + b * T
within_quotient k b y T h = let m = mul-le-mul_right T h in let q = div-mul-le_self y T in omega arith

-- What is, multiplied out, at most the dividend and b divisors is at most b and the quotient.
pub quotient_within : (k b y T : ℕ) → 1 ≤ T → k * T ≤ y + b * T → k ≤ b + y / T
quotient_within k b y T h l = elim (dec_le k (b + y / T)) [ yes e ↦ e | no n ↦ absurd (too_many n) ]
  where
    too_many : (k ≤ b + y / T → ⊥) → ⊥
    too_many n =
        let g : suc (b + y / T) ≤ k = native.Mathlib.Nat.lt_of_not-le n in
        let m = mul-le-mul_right T g in
        let q : y < y / T * T + T = lt-div-mul-add h in
        omega arith
