-- The plan of lent tables: its size, its words, and the writes that put its bytes.
use Rattle.std.proofs.Common.{◌≡◌, ℕ, ◌+◌, ◌*◌, ◌/◌, ◌%◌, ◌^◌, ◌<◌, ◌≤◌, false, List, [], ◌∷◌, ◌++◌, map, map-id, length, take, refl, ap, ◌∙◌, arith, take_all, eq-eqb, eqb-true, le-leb}
use borrow.Author.Tests.{not-false}
use Rattle.laws.specs.Sums.{sum_of}
use Rattle.meaning.specs.Plan.{Lent, lent_wrong, lent_plan, counts_allowed, size_of, header_words, table_words, sum_word, sum_words, plan_words, plan_bytes}
use Rattle.meaning.specs.Plan.{table, connection_at, arrival_at, slots_wrong}
use Rattle.plan.proofs.LaidOut.{both, counts_few}
use Rattle.plan.specs.Entries.{length_table}
use Rattle.plan.specs.Parts.{arrivals_of_words}
use Rattle.plan_writer.proofs.TableWords.{connections_back, arrivals_back}
use Rattle.plan_writer.specs.Bytes.{bytes_of_words, pasted}
use Rattle.plan_writer.proofs.Pasting.{paste_four_words}
use Rattle.plan_writer.specs.Written.{Lengths, lent_size}
use Rattle.plan_writer.proofs.SumWord.{solved}

-- The words of its header, up to the last of them.
abbrev pub header_start : Lent → List ℕ
header_start l =
    lent_size l ∷
    l.interval ∷
    l.cycle ∷
    length l.factors ∷
    40 ∷
    (length l.connections / 4) ∷
    (40 + 4 * length l.factors) ∷
    (length l.arrivals / 3) ∷
    (40 + 4 * length l.factors + 4 * length l.connections) ∷
    []

-- Tables that pass the test are right, count by count.
pub lengths_facts : (l : Lent) → lent_wrong l ≡ false → Lengths l
unfolding lent_wrong
lengths_facts l e =
    let p = both _ _ (not-false _ e) in
    let q = both _ _ p.0 in
    let few = counts_few _ _ _ q.0 in
    record {
      factors_few = few.0;
      connections_few = few.1;
      arrivals_few = few.2;
      connections_whole = eqb-true _ _ q.1;
      arrivals_whole = eqb-true _ _ p.1;
    }

-- Tables that are right pass the test.
pub lengths_right : (l : Lent) → Lengths l → lent_wrong l ≡ false
unfolding lent_wrong counts_allowed
lengths_right l k =
    rw (
      le-leb _ _ k.factors_few,
      le-leb _ _ k.connections_few,
      le-leb _ _ k.arrivals_few,
      eq-eqb _ _ k.connections_whole,
      eq-eqb _ _ k.arrivals_whole,
    )

-- The arrivals of the words that were lent are those of the plan.
pub arrivals_lent : (l : Lent) → slots_wrong (arrivals_of_words (map (λ n. n) l.arrivals)) ≡ slots_wrong (lent_plan l).arrivals
unfolding lent_plan arrivals_of_words
arrivals_lent l = ap (λ ws. slots_wrong (table arrival_at 3 ws 0 (length ws / 3))) (map-id l.arrivals)

module _ (l : Lent) (whole : Lengths l) where
  -- The plan of lent tables has the size that their lengths tell.
  pub size_of_lent : size_of (lent_plan l) ≡ lent_size l
  unfolding size_of lent_plan
  size_of_lent =
      let k = length_table connection_at 4 l.connections 0 (length l.connections / 4) in
      let n = length_table arrival_at 3 l.arrivals 0 (length l.arrivals / 3) in
      rw (k, n) (omega arith)

  -- The words of its tables are the words that were lent.
  pub tables_of_lent : table_words (lent_plan l) ≡ l.factors ++ l.connections ++ l.arrivals
  unfolding table_words lent_plan
  tables_of_lent =
      let c : take (4 * (length l.connections / 4)) l.connections ≡ l.connections =
      take_all (4 * (length l.connections / 4)) l.connections (omega arith) in
      let a : take (3 * (length l.arrivals / 3)) l.arrivals ≡ l.arrivals = take_all (3 * (length l.arrivals / 3)) l.arrivals (omega arith) in
      rw (
        connections_back l.connections 0 (length l.connections / 4) (omega arith),
        arrivals_back l.arrivals 0 (length l.arrivals / 3) (omega arith),
        c,
        a,
      )

  -- The words of its header are those that the lengths of the tables tell.
  header_of_lent :
      header_words (lent_plan l) ≡
      header_start l
  unfolding header_words lent_plan size_of
  header_of_lent =
      let c : 40 + 4 * length l.factors + 16 * (length l.connections / 4) ≡ 40 + 4 * length l.factors + 4 * length l.connections = omega arith in
      let a :
      40 + 4 * length l.factors + 4 * length l.connections + 12 * (length l.arrivals / 3) ≡
      lent_size l =
      omega arith in
      let k = length_table connection_at 4 l.connections 0 (length l.connections / 4) in
      let n = length_table arrival_at 3 l.arrivals 0 (length l.arrivals / 3) in
      rw (k, n, c, a)

  -- The words that were put, in their order, are the words of the plan, once the last word of the header brings the sum to 0.
  pub words_put :
      (s₁ s₂ s₃ s₄ last : ℕ) →
      s₁ ≡ (0 + sum_of (λ w. w) (header_start l ++ 0 ∷ [])) % 2 ^ 32 →
      s₂ ≡ (s₁ + sum_of (λ w. w) l.factors) % 2 ^ 32 →
      s₃ ≡ (s₂ + sum_of (λ w. w) l.connections) % 2 ^ 32 →
      s₄ ≡ (s₃ + sum_of (λ w. w) l.arrivals) % 2 ^ 32 →
      last < 2 ^ 32 →
      (last + s₄) % 2 ^ 32 ≡ 0 →
      header_start l ++
      last ∷ [] ++
      l.factors ++
      l.connections ++
      l.arrivals ≡
      plan_words (lent_plan l)
  unfolding plan_words sum_word sum_words
  words_put s₁ s₂ s₃ s₄ last e₁ e₂ e₃ e₄ f e =
      let start = header_start l in
      let sum =
      solved start l.factors l.connections l.arrivals s₁ s₂ s₃ s₄ last e₁ e₂ e₃ e₄ f e in
      rw (header_of_lent, tables_of_lent, sum)

  -- The four writes, one behind another, put the bytes of those words.
  pub bytes_put :
      (buf b₁ b₂ b₃ b₄ : List ℕ) (last : ℕ) →
      lent_size l ≤ length buf →
      b₁ ≡ pasted buf 0 (bytes_of_words (header_start l ++ last ∷ [])) →
      b₂ ≡ pasted b₁ 40 (bytes_of_words l.factors) →
      b₃ ≡ pasted b₂ (40 + 4 * length l.factors) (bytes_of_words l.connections) →
      b₄ ≡ pasted b₃ (40 + 4 * length l.factors + 4 * length l.connections) (bytes_of_words l.arrivals) →
      header_start l ++
      last ∷ [] ++
      l.factors ++
      l.connections ++
      l.arrivals ≡
      plan_words (lent_plan l) →
      b₄ ≡ pasted buf 0 (plan_bytes (lent_plan l))
  unfolding plan_bytes bytes_of_words
  bytes_put buf b₁ b₂ b₃ b₄ last room e₁ e₂ e₃ e₄ words =
      let h = header_start l ++ last ∷ [] in
      let n₂ = 40 + 4 * length l.factors in
      let n₃ = 40 + 4 * length l.factors + 4 * length l.connections in
      e₄ ∙
      ap (λ b. pasted b n₃ (bytes_of_words l.arrivals))
      (e₃ ∙
      ap (λ b. pasted b n₂ (bytes_of_words l.connections)) (e₂ ∙ ap (λ b. pasted b 40 (bytes_of_words l.factors)) e₁)) ∙
      paste_four_words buf h l.factors l.connections l.arrivals 40 n₂ n₃ refl refl refl room ∙
      ap (λ ws. pasted buf 0 (bytes_of_words ws)) words
