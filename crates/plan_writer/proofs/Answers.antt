-- The four answers of writing and the buffer after each, from the tests that lead to it.
use Rattle.std.proofs.Common.{◌≡◌, ℕ, ◌+◌, ◌<◌, ◌≤◌, true, false, ltb, List, ◌++◌, length, drop, ap, ◌∙◌, arith, le-ltb, lt-ltb, Ok, Err}
use Rattle.meaning.specs.declared.Refusal.{Refusal}
use Rattle.meaning.specs.Plan.{Lent, writing_answer, slots_wrong, lent_plan, lent_wrong, size_of, plan_bytes}
use Rattle.plan_writer.specs.Bytes.{pasted}
use Rattle.plan_writer.proofs.Sizes.{length_plan}
use Rattle.plan_writer.specs.Written.{bytes_by, bytes_after}

-- The four answers of writing and the buffer after each, from the tests that lead to it.
module _ (l : Lent) (buf : List ℕ) where
  -- Lent tables that are wrong are answered first, and the buffer stays as it is.
  pub answer_15 : lent_wrong l ≡ true → ((Err Refusal.WrongLayout) ≡ writing_answer l (length buf)) × (buf ≡ bytes_after l buf)
  unfolding writing_answer bytes_after bytes_by
  answer_15 a = (rw a, rw a)

  module _ (a : lent_wrong l ≡ false) where
    -- Where the tables are right, slots that are wrong are answered next, and the buffer stays as it is.
    pub answer_16 :
        slots_wrong (lent_plan l).arrivals ≡ true → ((Err Refusal.WrongSlots) ≡ writing_answer l (length buf))
        × (buf ≡ bytes_after l buf)
    unfolding writing_answer bytes_after bytes_by
    answer_16 b = (rw (a, b), rw (a, b))

    module _ (b : slots_wrong (lent_plan l).arrivals ≡ false) where
      -- Where the slots are right too, a buffer that is too short is answered last, and stays as it is.
      pub answer_17 :
          length buf < size_of (lent_plan l) → ((Err Refusal.TooShort) ≡ writing_answer l (length buf))
          × (buf ≡ bytes_after l buf)
      unfolding writing_answer bytes_after bytes_by
      answer_17 c = let t = lt-ltb _ _ c in (rw (a, b, t), rw (a, b, t))

      -- Where the plan fits, its size is answered, and the buffer begins with its bytes.
      pub answer_0 :
          (size : ℕ) (after : List ℕ) → size ≡ size_of (lent_plan l) → size ≤ length buf → after ≡ pasted buf 0 (plan_bytes (lent_plan l)) →
          (Ok size ≡ writing_answer l (length buf)) × (after ≡ bytes_after l buf)
      unfolding writing_answer bytes_after bytes_by pasted
      answer_0 size after s c e =
          let t : ltb (length buf) (size_of (lent_plan l)) ≡ false = le-ltb _ _ (rw s at c) in
          let n : 0 + length (plan_bytes (lent_plan l)) ≡ size_of (lent_plan l) = omega (arith, length_plan (lent_plan l)) in
          (rw (a, b, t, s), rw (a, b, t) (e ∙ ap (λ k. plan_bytes (lent_plan l) ++ drop k buf) n))
