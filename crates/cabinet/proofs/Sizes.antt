-- The numbers of a plan and of a text that are counted in bytes or entries fit words: "Counts: at most 8, 32 and 4,096".
use Prim.Native.Nat.{ℕ, zero, suc, ◌^◌, ◌<◌}
use mathlib.Core.Path.{◌≡◌, sym, subst}
use mathlib.Core.Bool.{Bool, true, false, cond}
use mathlib.Core.List.{List, [], ◌∷◌}
use native.Mathlib.Omega.{arith}
use lib.Dec.{ltb}
use lib.ListN.{length, get_or, drop, replicate}
use Rattle.meaning.specs.declared.Refusal.{Refusal}
use Rattle.meaning.specs.Answers.{refusal, header_fields, plan_read, plan_written, printed}
use Rattle.meaning.specs.Plan.{Lent, reading_answer, writing_answer}
use Rattle.plan.proofs.Good.{read_facts}
use Rattle.plan_writer.proofs.Calls.{write_facts}
use Rattle.plan_writer.proofs.LentTables.{lengths_facts, size_of_lent}
use Rattle.meaning.specs.Lines.{run_text, text_most}
use Rattle.meaning.proofs.RunFits.{run_fits}
use Rattle.whole_run.specs.Printing.{printing_answer}
use Rattle.answers.specs.Fitting.{FitWords}
use Rattle.std.proofs.Common.{Result, Ok, Err}
use Rattle.meaning.specs.declared.Header.{Header}

-- An empty list of fields fits its words.
none : FitWords []
none = record { fits = λ i. omega arith }

-- A field that fits a word, before others that do, fits with them.
more : {n : ℕ} {l : List ℕ} → n < 2 ^ 32 → FitWords l → FitWords (n ∷ l)
more {n} {l} h f = record { fits = at }
  where
    at : (i : ℕ) → get_or (n ∷ l) i 0 < 2 ^ 32
    at zero = h
    at (suc i) = f.fits i

-- The fields of a refusal, which are 0, fit their words.
zeros : (n : ℕ) → FitWords (replicate n 0)
zeros zero = none
zeros (suc n) = more (omega arith) (zeros n)

-- The counts and offsets of a plan that was read fit their words.
pub read_fits : (bytes : List ℕ) (r : Result Header Refusal) → r ≡ reading_answer bytes → FitWords (drop 2 (plan_read r).fields)
unfolding plan_read refusal header_fields
read_fits bytes (Ok h) e =
    let l = (read_facts bytes h (sym e)).laid in
    more (omega arith) (more (omega arith) (more (omega arith) (more (omega arith) (more (omega arith) (more (omega arith) none)))))
read_fits bytes (Err why) e = zeros 6

-- The size of a plan that was written fits a word.
pub write_fits : (l : Lent) (buf : List ℕ) (r : Result ℕ Refusal) → r ≡ writing_answer l (length buf) → FitWords (plan_written r).fields
unfolding plan_written refusal
write_fits l buf (Ok size) e =
    let t = write_facts l buf size (sym e) in
    let w = lengths_facts l t.right in
    let s = size_of_lent l w in
    let d = t.size_is in
    more (omega arith) none
write_fits l buf (Err why) e = zeros 1

-- The size of a text that was printed fits a word.
pub run_fits_word : (plan : List ℕ) (room : ℕ) (r : Result ℕ Refusal) → r ≡ printing_answer plan room → FitWords (plan_written r).fields
unfolding plan_written refusal printing_answer
run_fits_word plan room r e = subst (λ (a : Result ℕ Refusal). FitWords (plan_written a).fields) (sym e) (go (ltb room text_most))
  where
    go : (b : Bool) → FitWords (plan_written (cond b (Err Refusal.TooShort) (Ok (length (run_text plan))))).fields
    go true = unfold plan_written in unfold refusal in zeros 1
    go false = unfold plan_written in (let f = run_fits plan in more (omega arith) none)
