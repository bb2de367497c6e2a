-- "Given exactly when": each number of writing is answered in the one case that document 01 gives it, and in no other.
use Rattle.std.proofs.Common.{◌≡◌, ℕ, Bool, true, false, cond, ltb, sym, refl, ◌∙◌, arith, Result, Ok, Err}
use Rattle.meaning.specs.Answers.{plan_written, refusal, refusal_number}
use Rattle.meaning.specs.declared.Refusal.{Refusal}
use Rattle.meaning.specs.Plan.{Lent, lent_plan, lent_wrong, size_of, slots_wrong, writing_answer}
use Rattle.plan_writer.specs.FirstRefusal.{writing_of, writing_number}

-- The answer of writing, by its three tests in their order.
abbrev writing_by : Bool → Bool → Bool → ℕ → Result ℕ Refusal
writing_by a b c n = cond a (Err Refusal.WrongLayout)
    (cond b (Err Refusal.WrongSlots) (cond c (Err Refusal.TooShort) (Ok n)))

-- The number of an answer of writing is that of the first test that refuses.
written_number :
    (a b c : Bool) (n : ℕ) → (plan_written (writing_by a b c n)).number ≡ writing_of a b c
unfolding plan_written refusal refusal_number
written_number true b c n = refl
written_number false true c n = refl
written_number false false true n = refl
written_number false false false n = refl

-- 15 tells that the first test refused.
written_only_15 : (a b c : Bool) → writing_of a b c ≡ 15 → a ≡ true
written_only_15 true b c e = refl
written_only_15 false true c e = absurd (omega arith)
written_only_15 false false true e = absurd (omega arith)
written_only_15 false false false e = absurd (omega arith)

-- 16 tells that the first test passed and the second refused.
written_only_16 : (a b c : Bool) → writing_of a b c ≡ 16 → (a ≡ false) × (b ≡ true)
written_only_16 true b c e = absurd (omega arith)
written_only_16 false true c e = (refl, refl)
written_only_16 false false true e = absurd (omega arith)
written_only_16 false false false e = absurd (omega arith)

-- 17 tells that two tests passed and the third refused.
written_only_17 : (a b c : Bool) → writing_of a b c ≡ 17 → (a ≡ false) × (b ≡ false) × (c ≡ true)
written_only_17 true b c e = absurd (omega arith)
written_only_17 false true c e = absurd (omega arith)
written_only_17 false false true e = (refl, refl, refl)
written_only_17 false false false e = absurd (omega arith)

-- 0 tells that every test passed.
written_only_0 : (a b c : Bool) → writing_of a b c ≡ 0 → (a ≡ false) × (b ≡ false) × (c ≡ false)
written_only_0 true b c e = absurd (omega arith)
written_only_0 false true c e = absurd (omega arith)
written_only_0 false false true e = absurd (omega arith)
written_only_0 false false false e = (refl, refl, refl)

module _ (l : Lent) (room : ℕ) where
  -- Every writing gets its number, by the first test that refuses it.
  pub writing_number_lem : writing_number l room ≡ writing_of (lent_wrong l) (slots_wrong (lent_plan l).arrivals) (ltb room (size_of (lent_plan l)))
  unfolding writing_number writing_answer
  writing_number_lem = written_number (lent_wrong l) (slots_wrong (lent_plan l).arrivals) (ltb room (size_of (lent_plan l))) (size_of (lent_plan l))

  -- 15 is answered only where the lent tables are wrong.
  pub writing_15_only : writing_number l room ≡ 15 → lent_wrong l ≡ true
  writing_15_only e =
      written_only_15 (lent_wrong l) (slots_wrong (lent_plan l).arrivals) (ltb room (size_of (lent_plan l))) (sym writing_number_lem ∙ e)

  -- 16 is answered only where the tables are right and the slots are wrong.
  pub writing_16_only : writing_number l room ≡ 16 → (lent_wrong l ≡ false) × (slots_wrong (lent_plan l).arrivals ≡ true)
  writing_16_only e =
      written_only_16 (lent_wrong l) (slots_wrong (lent_plan l).arrivals) (ltb room (size_of (lent_plan l))) (sym writing_number_lem ∙ e)

  -- 17 is answered only where tables and slots are right and the buffer is too short.
  pub writing_17_only :
      writing_number l room ≡ 17 →
      (lent_wrong l ≡ false) × (slots_wrong (lent_plan l).arrivals ≡ false) × (ltb room (size_of (lent_plan l)) ≡ true)
  writing_17_only e =
      written_only_17 (lent_wrong l) (slots_wrong (lent_plan l).arrivals) (ltb room (size_of (lent_plan l))) (sym writing_number_lem ∙ e)

  -- 0 is answered only where every test passes.
  pub writing_0_only :
      writing_number l room ≡ 0 →
      (lent_wrong l ≡ false) × (slots_wrong (lent_plan l).arrivals ≡ false) × (ltb room (size_of (lent_plan l)) ≡ false)
  writing_0_only e =
      written_only_0 (lent_wrong l) (slots_wrong (lent_plan l).arrivals) (ltb room (size_of (lent_plan l))) (sym writing_number_lem ∙ e)
