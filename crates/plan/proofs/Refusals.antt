-- "Given exactly when": each number of reading is answered in the one case that document 01 gives it, and in no other.
use Rattle.std.proofs.Common.{◌≡◌, ℕ, Bool, true, false, cond, List, sym, refl, ◌∙◌, arith, Result, Ok, Err}
use Rattle.meaning.specs.declared.Header.{Header}
use Rattle.meaning.specs.Answers.{plan_read, refusal, refusal_number}
use Rattle.meaning.specs.declared.Refusal.{Refusal}
use Rattle.meaning.specs.Plan.{words_of, header_of, size_wrong, sum_wrong, reading_answer}
use Rattle.plan.specs.FirstRefusal.{reading_of, reading_number, layout_off, slots_off}

-- 13 tells that the first test refused.
only_13 : (a b c d : Bool) → reading_of a b c d ≡ 13 → a ≡ true
only_13 true b c d e = refl
only_13 false true c d e = absurd (omega arith)
only_13 false false true d e = absurd (omega arith)
only_13 false false false true e = absurd (omega arith)
only_13 false false false false e = absurd (omega arith)

-- 14 tells that the first test passed and the second refused.
only_14 : (a b c d : Bool) → reading_of a b c d ≡ 14 → (a ≡ false) × (b ≡ true)
only_14 true b c d e = absurd (omega arith)
only_14 false true c d e = (refl, refl)
only_14 false false true d e = absurd (omega arith)
only_14 false false false true e = absurd (omega arith)
only_14 false false false false e = absurd (omega arith)

-- 15 tells that two tests passed and the third refused.
only_15 : (a b c d : Bool) → reading_of a b c d ≡ 15 → (a ≡ false) × (b ≡ false) × (c ≡ true)
only_15 true b c d e = absurd (omega arith)
only_15 false true c d e = absurd (omega arith)
only_15 false false true d e = (refl, refl, refl)
only_15 false false false true e = absurd (omega arith)
only_15 false false false false e = absurd (omega arith)

-- 16 tells that three tests passed and the fourth refused.
only_16 : (a b c d : Bool) → reading_of a b c d ≡ 16 → (a ≡ false) × (b ≡ false) × (c ≡ false) × (d ≡ true)
only_16 true b c d e = absurd (omega arith)
only_16 false true c d e = absurd (omega arith)
only_16 false false true d e = absurd (omega arith)
only_16 false false false true e = (refl, refl, refl, refl)
only_16 false false false false e = absurd (omega arith)

-- 0 tells that every test passed.
only_0 : (a b c d : Bool) → reading_of a b c d ≡ 0 → (a ≡ false) × (b ≡ false) × (c ≡ false) × (d ≡ false)
only_0 true b c d e = absurd (omega arith)
only_0 false true c d e = absurd (omega arith)
only_0 false false true d e = absurd (omega arith)
only_0 false false false true e = absurd (omega arith)
only_0 false false false false e = (refl, refl, refl, refl)

-- The answer of reading, by its four tests in their order.
abbrev reading_by : Bool → Bool → Bool → Bool → Header → Result Header Refusal
reading_by a b c d h =
    cond a (Err Refusal.WrongSize) (cond b (Err Refusal.WrongSum)
    (cond c (Err Refusal.WrongLayout) (cond d (Err Refusal.WrongSlots) (Ok h))))

-- The number of an answer of reading is that of the first test that refuses.
read_number :
    (a b c d : Bool) (h : Header) → (plan_read (reading_by a b c d h)).number ≡ reading_of a b c d
unfolding plan_read refusal refusal_number
read_number true b c d h = refl
read_number false true c d h = refl
read_number false false true d h = refl
read_number false false false true h = refl
read_number false false false false h = refl

module _ (bytes : List ℕ) where
  -- Every plan gets its number, by the first test that refuses it.
  pub reading_number_lem : reading_number bytes ≡ reading_of (size_wrong bytes) (sum_wrong (words_of bytes)) (layout_off bytes) (slots_off bytes)
  unfolding reading_number reading_answer
  reading_number_lem =
      read_number (size_wrong bytes) (sum_wrong (words_of bytes)) (layout_off bytes) (slots_off bytes) (header_of (words_of bytes))

  -- 13 is answered only where the size is wrong.
  pub reading_13_only : reading_number bytes ≡ 13 → size_wrong bytes ≡ true
  reading_13_only e = only_13 (size_wrong bytes) (sum_wrong (words_of bytes)) (layout_off bytes) (slots_off bytes) (sym reading_number_lem ∙ e)

  -- 14 is answered only where the size is right and the sum is wrong.
  pub reading_14_only : reading_number bytes ≡ 14 → (size_wrong bytes ≡ false) × (sum_wrong (words_of bytes) ≡ true)
  reading_14_only e = only_14 (size_wrong bytes) (sum_wrong (words_of bytes)) (layout_off bytes) (slots_off bytes) (sym reading_number_lem ∙ e)

  -- 15 is answered only where size and sum are right and the layout is wrong.
  pub reading_15_only : reading_number bytes ≡ 15 → (size_wrong bytes ≡ false) × (sum_wrong (words_of bytes) ≡ false) × (layout_off bytes ≡ true)
  reading_15_only e = only_15 (size_wrong bytes) (sum_wrong (words_of bytes)) (layout_off bytes) (slots_off bytes) (sym reading_number_lem ∙ e)

  -- 16 is answered only where size, sum and layout are right and the slots are wrong.
  pub reading_16_only :
      reading_number bytes ≡ 16 →
      (size_wrong bytes ≡ false) × (sum_wrong (words_of bytes) ≡ false) × (layout_off bytes ≡ false) × (slots_off bytes ≡ true)
  reading_16_only e = only_16 (size_wrong bytes) (sum_wrong (words_of bytes)) (layout_off bytes) (slots_off bytes) (sym reading_number_lem ∙ e)

  -- 0 is answered only where every test passes.
  pub reading_0_only :
      reading_number bytes ≡ 0 →
      (size_wrong bytes ≡ false) × (sum_wrong (words_of bytes) ≡ false) × (layout_off bytes ≡ false) × (slots_off bytes ≡ false)
  reading_0_only e = only_0 (size_wrong bytes) (sum_wrong (words_of bytes)) (layout_off bytes) (slots_off bytes) (sym reading_number_lem ∙ e)
