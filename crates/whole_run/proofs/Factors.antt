-- The factors of a class table, copied one after another.
use Prim.Native.Nat.{ℕ, suc, ◌+◌, ◌*◌, ◌<◌}
use mathlib.Core.Path.{◌≡◌, sym, ap, ◌∙◌, subst}
use mathlib.Core.List.{List, [], ◌∷◌, ◌++◌}
use native.Mathlib.Omega.{arith}
use lib.ListN.{length, get_or, take, set}
use lib.Seq.{take-suc, take-suc-set, take_all}
use Rattle.meaning.specs.Plan.{words_of, factor_at, table}
use Rattle.plan.specs.Entries.{length_table, get_or_table, take_table}

-- With one factor more copied, the factors copied are those of the table up to it.
pub factor_on : (bytes factors : List ℕ) (i f : ℕ) → i < length factors → f ≡ factor_at (words_of bytes) i
    → take i factors ≡ table factor_at 1 (words_of bytes) 0 i
    → take (i + 1) (set factors i f) ≡ table factor_at 1 (words_of bytes) 0 (i + 1)
factor_on bytes factors i f h e t =
    let ws = words_of bytes in
    let s : i + 1 ≡ suc i = omega arith in
    let z : 0 + 1 * i ≡ i = omega arith in
    let l = length_table factor_at 1 ws 0 (suc i) in
    let all = table factor_at 1 ws 0 (suc i) in
    let end : table factor_at 1 ws 0 (suc i) ≡ take i all ++ (get_or all i 0 ∷ []) =
    sym (take_all (suc i) all (omega (arith, l))) ∙ take-suc all i 0 (omega (arith, l)) in
    let last : get_or all i 0 ≡ f = get_or_table factor_at 1 ws 0 (suc i) i 0 (omega arith) ∙ ap (factor_at ws) z ∙ sym e in
    subst (λ k. take k (set factors i f) ≡ table factor_at 1 ws 0 k) (sym s)
    (take-suc-set factors i f h ∙ ap (λ m. m ++ (f ∷ [])) (t ∙ sym (take_table factor_at 1 ws 0 (suc i) i (omega arith))) ∙
    sym (end ∙ ap (λ x. take i all ++ (x ∷ [])) last))

-- With all places filled, the factors copied are those of the table.
pub factors_end : (bytes factors before : List ℕ) (i : ℕ) → i ≡ length factors → length factors ≡ length before
    → take i factors ≡ table factor_at 1 (words_of bytes) 0 i
    → factors ≡ table factor_at 1 (words_of bytes) 0 (length before)
factors_end bytes factors before i e l t =
    sym (take_all i factors (omega arith)) ∙ t ∙ ap (table factor_at 1 (words_of bytes) 0) (e ∙ l)
