-- Answers and buffers that satisfy the promise of writing are the same.
use Rattle.std.proofs.Common.{◌≡◌, ℕ, List, length, sym, ◌∙◌, Result}
use Rattle.meaning.specs.Plan.{Lent, writing_answer}
use Rattle.plan_writer.specs.Written.{bytes_after}
use Rattle.meaning.specs.declared.Refusal.{Refusal}

-- Two answers of `write`, and the buffers that they leave, are the same.
pub write_settled :
    (l : Lent) (buf : List ℕ) (r s : Result ℕ Refusal) (after left : List ℕ) →
    r ≡ writing_answer l (length buf) → s ≡ writing_answer l (length buf) →
    after ≡ bytes_after l buf → left ≡ bytes_after l buf → (r ≡ s) × (after ≡ left)
write_settled l buf r s after left p q u v = (p ∙ sym q, u ∙ sym v)
