-- Printing a run into a lent buffer. Document 01 gives no number for a buffer that is too short for the lines; 17 is its number for one
-- that
-- is too short for a box or a plan.
use Rattle.std.specs.Prelude.{ℕ, ◌≡◌, cond, List, length, ltb, Result, Ok, Err}
use Rattle.meaning.specs.declared.Refusal.{Refusal}
use Rattle.meaning.specs.Lines.{run_text, text_most}
use Rattle.lines.specs.Put.{put_at}

-- The answer for these bytes and a buffer of so many bytes.
unfoldable pub printing_answer : List ℕ → ℕ → Result ℕ Refusal
printing_answer bytes room = cond (ltb room text_most) (Err Refusal.TooShort) (Ok (length (run_text bytes)))

-- The buffer afterwards: the text of the run at its start, and no other byte changed; a buffer that is refused is as it was.
unfoldable pub text_after : List ℕ → List ℕ → List ℕ
text_after bytes out = cond (ltb (length out) text_most) out (put_at out 0 (run_text bytes))

-- What `run_plan` promises, of the plan's bytes and the buffer at entry, its answer and the buffer at exit.
abbrev pub RunPromise : List ℕ → List ℕ → Result ℕ Refusal → List ℕ → Type 0
RunPromise plan entry r exit = (r ≡ printing_answer plan (length entry)) × (exit ≡ text_after plan entry)
