-- A function of slots that gains g over each M from some slot on, against the slots themselves.
use Rattle.std.specs.Prelude.{ℕ, zero, suc, ◌+◌, ◌*◌, ◌-◌, ◌≤◌, ◌<◌, ◌≡◌}
use Rattle.std.proofs.Common.{◌∙◌, ap, mul-le-mul_left, arith}
use Rattle.std.proofs.Math.Decide.{dec_lt}

module _ (S : ℕ → ℕ) (from M g : ℕ) (repeats : (t : ℕ) → from ≤ t → S (t + M) ≡ S t + g) where
  -- After k cycles the function has gained k times.
  after_cycles : (k : ℕ) → S (from + k * M) ≡ S from + k * g
  after_cycles zero =
      let e : from + zero * M ≡ from = omega arith in
      let r : S from ≡ S from + zero * g = omega arith in
      ap S e ∙ r
  after_cycles (suc k) =
      let e : from + suc k * M ≡ from + k * M + M = omega arith in
      let h = repeats (from + k * M) (omega arith) in
      let i = after_cycles k in
      let r : S (from + k * M + M) ≡ S from + suc k * g = omega arith in
      ap S e ∙ r

  -- If it gains at most M, the slots below from + M decide for the slots below n.
  up_to : g ≤ M → 1 ≤ M → ((t : ℕ) → t < from + M → S t ≤ t) → (n t : ℕ) → t < n → S t ≤ t
  up_to h m base zero t l = absurd (omega arith)
  up_to h m base (suc n) t l =
      elim (dec_lt t (from + M)) [
        | yes s ↦ base t s
        | no s ↦
            let i = up_to h m base n (t - M) (omega arith) in
            let r = repeats (t - M) (omega arith) in
            let e : t - M + M ≡ t = omega arith in
            let q = ap S e in
            omega arith
      ]

  -- If it gains at most M, the slots below from + M decide for all slots.
  pub all_follow : g ≤ M → 1 ≤ M → ((t : ℕ) → t < from + M → S t ≤ t) → (t : ℕ) → S t ≤ t
  all_follow h m base t = up_to h m base (suc t) t (omega arith)

  -- If it gains more, it passes the slot itself somewhere.
  pub some_passes : M < g → (t : ℕ) × (t < S t)
  some_passes h =
      let e = after_cycles (suc from) in
      let p = mul-le-mul_left (suc from) h in
      (from + suc from * M, omega arith)
