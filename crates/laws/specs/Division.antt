-- Division by a variable: monotone, and a stretch of whole divisors comes off.
use Rattle.std.specs.Prelude.{ℕ, ◌+◌, ◌*◌, ◌/◌, ◌%◌, ◌≤◌, ◌<◌, ◌≡◌}
use Rattle.std.proofs.Common.{sym, ◌∙◌, ap, le-div_iff_mul-le, div-mul-le_self, le_trans}
use Rattle.std.proofs.Math.Nat.{add-mul-div_left, dvd_of_mod-eq-zero, mul-div_cancel'}

-- A quotient does not fall.
pub div_mono : {m n : ℕ} (k : ℕ) → 0 < k → m ≤ n → m / k ≤ n / k
div_mono {m} {n} k h l = (le-div_iff_mul-le h).1 (le_trans (div-mul-le_self m k) l)

-- A multiple of the divisor adds its own quotient.
pub div_add_multiple : (t m k : ℕ) → 0 < k → m % k ≡ 0 → (t + m) / k ≡ t / k + m / k
div_add_multiple t m k h e =
    let d : k * (m / k) ≡ m = mul-div_cancel' k (dvd_of_mod-eq-zero k e) in
    ap (λ n. (t + n) / k) (sym d) ∙ add-mul-div_left t (m / k) h
