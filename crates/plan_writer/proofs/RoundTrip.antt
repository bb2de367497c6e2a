-- Written and read back: the same contents.
use Rattle.std.proofs.Common.{◌≡◌, ℕ, zero, suc, ◌+◌, ◌-◌, ◌*◌, ◌/◌, ◌%◌, ◌^◌, ◌<◌, ◌≤◌, false, [], ◌∷◌, ◌++◌, map, length, get_or, take, sym, refl, ap, ◌∙◌, append_assoc, append-nil, mod-lt, arith, length-append, get_or-drop, take_at, get_or-append-add, le-ltb, eq-eqb, Ok}
use mathlib.Core.List.{flatten}
use Rattle.laws.specs.Sums.{sum_of}
use Rattle.meaning.specs.Plan.{Plan, words_of, header_of, contents_of, table, factor_at, connection_at, arrival_at, connection_words, arrival_words}
use Rattle.meaning.specs.Plan.{table_words, header_words, sum_word, sum_words, plan_words, plan_bytes, size_of, size_wrong, reading_answer}
use Rattle.plan_writer.specs.Bytes.{bytes_of_words}
use Rattle.plan.proofs.EntryLaws.{table_same, connection_local, arrival_local}
use Rattle.plan_writer.proofs.TableWords.{factors_back}
use Rattle.plan_writer.proofs.Back.{words_again, connections_again, arrivals_again}
use Rattle.plan_writer.proofs.Sizes.{length_connections, length_tables, length_words, length_plan}
use Rattle.laws.specs.Sums.{sum_append}
use Rattle.plan.specs.Readable.{Layout, Readable}
use Rattle.plan.proofs.Answers.{sum_right}
use Rattle.plan.proofs.Good.{read_back}
use Rattle.plan_writer.specs.Writable.{Writable}

module _ (plan : Plan) (w : Writable plan) where
  -- Every word of the plan fits.
  words_fit : (i : ℕ) → get_or (plan_words plan) i 0 < 2 ^ 32
  unfolding plan_words header_words size_of sum_word
  words_fit zero = omega arith
  words_fit (suc zero) = w.interval_fits
  words_fit (suc (suc zero)) = w.cycle_fits
  words_fit (suc (suc (suc zero))) = omega arith
  words_fit (suc (suc (suc (suc zero)))) = omega arith
  words_fit (suc (suc (suc (suc (suc zero))))) = omega arith
  words_fit (suc (suc (suc (suc (suc (suc zero)))))) = omega arith
  words_fit (suc (suc (suc (suc (suc (suc (suc zero))))))) = omega arith
  words_fit (suc (suc (suc (suc (suc (suc (suc (suc zero)))))))) = omega arith
  words_fit (suc (suc (suc (suc (suc (suc (suc (suc (suc zero))))))))) = mod-lt _ (omega arith)
  words_fit (suc (suc (suc (suc (suc (suc (suc (suc (suc (suc i)))))))))) = w.tables_fit i

  -- The words of the plan are read back from its bytes.
  pub words_back : words_of (plan_bytes plan) ≡ plan_words plan
  unfolding plan_bytes bytes_of_words
  words_back = words_again (plan_words plan) words_fit

-- The word behind the header's words brings the sum to 0.
pub sum_back : (plan : Plan) → sum_words (plan_words plan) ≡ 0
unfolding plan_words sum_words sum_word sum_of
sum_back plan =
    let h = header_words plan in
    let t = table_words plan in
    let s = (2 ^ 32 - sum_of (λ x. x) (h ++ t) % 2 ^ 32) % 2 ^ 32 in
    omega (arith, sum_append (λ w. w) h (s ∷ t), sum_append (λ w. w) h t)

-- A word of the tables stands behind the ten words of the header.
word_of_tables : (plan : Plan) (i : ℕ) → get_or (plan_words plan) (10 + i) 0 ≡ get_or (table_words plan) i 0
unfolding plan_words header_words
word_of_tables plan i = sym (get_or-drop 10 (plan_words plan) i 0)

-- Each table is read back, behind the one before it:
module _ (plan : Plan) where
  -- The factors are read back from the words of the plan.
  factors_read : table factor_at 1 (plan_words plan) 10 (length plan.settings.factors) ≡ plan.settings.factors
  unfolding plan_words header_words table_words
  factors_read =
      let f = plan.settings.factors in
      let c = flatten (map connection_words plan.connections) in
      let a = flatten (map arrival_words plan.arrivals) in
      let long = length_words plan in
      let all = length_tables plan in
      factors_back (plan_words plan) 10 (length f) (omega arith) ∙
      ap (take (length f)) (append_assoc f c a) ∙
      take_at f (c ++ a) (length f) refl

  -- The connections are read back, behind the factors.
  connections_read :
      table connection_at 4 (plan_words plan) (10 + length plan.settings.factors) (length plan.connections) ≡ plan.connections
  unfolding table_words
  connections_read =
      let f = plan.settings.factors in
      let c = flatten (map connection_words plan.connections) in
      let a = flatten (map arrival_words plan.arrivals) in
      table_same connection_at 4 connection_local (plan_words plan) (c ++ a) (10 + length f) 0 (length plan.connections) (λ k h. word k) ∙
      connections_again plan.connections a
    where
      word :
          (k : ℕ) → get_or (plan_words plan) (10 + length plan.settings.factors + k) 0 ≡
          get_or (flatten (map connection_words plan.connections) ++ flatten (map arrival_words plan.arrivals)) (0 + k) 0
      word k =
          let f = plan.settings.factors in
          let c = flatten (map connection_words plan.connections) in
          let a = flatten (map arrival_words plan.arrivals) in
          let at : 10 + length f + k ≡ 10 + (length f + (0 + k)) = omega arith in
          ap (λ n. get_or (plan_words plan) n 0) at ∙
          word_of_tables plan (length f + (0 + k)) ∙
          ap (λ l. get_or l (length f + (0 + k)) 0) (append_assoc f c a) ∙
          get_or-append-add f (c ++ a) (0 + k) 0

  -- The arrivals are read back, behind the connections.
  arrivals_read :
      table arrival_at 3 (plan_words plan)
      (10 + length plan.settings.factors + 4 * length plan.connections) (length plan.arrivals) ≡
      plan.arrivals
  unfolding table_words
  arrivals_read =
      let a = flatten (map arrival_words plan.arrivals) in
      let n = 10 + length plan.settings.factors + 4 * length plan.connections in
      table_same arrival_at 3 arrival_local (plan_words plan) (a ++ []) n 0 (length plan.arrivals) (λ k h. word k) ∙
      arrivals_again plan.arrivals []
    where
      word :
          (k : ℕ) → get_or (plan_words plan) (10 + length plan.settings.factors + 4 * length plan.connections + k) 0 ≡
          get_or (flatten (map arrival_words plan.arrivals) ++ []) (0 + k) 0
      word k =
          let f = plan.settings.factors in
          let c = flatten (map connection_words plan.connections) in
          let a = flatten (map arrival_words plan.arrivals) in
          let long : length (f ++ c) ≡ length f + 4 * length plan.connections =
          length-append f c ∙ ap (λ n. length f + n) (length_connections plan.connections) in
          let at : 10 + length f + 4 * length plan.connections + k ≡ 10 + (length (f ++ c) + (0 + k)) = omega arith in
          ap (λ n. get_or (plan_words plan) n 0) at ∙
          word_of_tables plan (length (f ++ c) + (0 + k)) ∙
          get_or-append-add (f ++ c) a (0 + k) 0 ∙
          ap (λ l. get_or l (0 + k) 0) (sym (append-nil a))

  -- The contents are read back from the words of the plan.
  pub contents_back : contents_of (plan_words plan) (header_of (plan_words plan)) ≡ plan
  unfolding contents_of header_of plan_words header_words
  contents_back =
      let f = length plan.settings.factors in
      let k = length plan.connections in
      let second : (40 + 4 * f) / 4 ≡ 10 + f = omega arith in
      let third : (40 + 4 * f + 16 * k) / 4 ≡ 10 + f + 4 * k = omega arith in
      rw (second, third, factors_read, connections_read, arrivals_read)

  -- The header of the plan is laid out right.
  header_laid : Writable plan → Layout (length (plan_bytes plan)) (header_of (plan_words plan))
  unfolding header_of plan_words header_words size_of
  header_laid w =
      record {
        classes_few = w.factors_few;
        connections_few = w.connections_few;
        arrivals_few = w.arrivals_few;
        classes_at_lem = refl;
        connections_at = refl;
        arrivals_at = refl;
        ends = length_plan plan;
      }

  -- The bytes of the plan pass the test of the size.
  size_right : Writable plan → size_wrong (plan_bytes plan) ≡ false
  unfolding size_wrong size_of plan_words header_words
  size_right w =
      let n = length_plan plan in
      let low : 40 ≤ length (plan_bytes plan) = omega arith in
      let high : length (plan_bytes plan) ≤ 65536 = omega arith in
      let whole : length (plan_bytes plan) % 4 ≡ 0 = omega arith in
      let first : get_or (words_of (plan_bytes plan)) 0 0 ≡ length (plan_bytes plan) = ap (λ ws. get_or ws 0 0) (words_back plan w) ∙ sym n in
      rw (le-ltb _ _ low, le-ltb _ _ high, eq-eqb _ _ whole, eq-eqb _ _ first)

-- The bytes of contents that fit a plan file read well.
pub written_reads : (plan : Plan) → Writable plan → Readable (plan_bytes plan) (header_of (plan_words plan))
written_reads plan w =
    let words = words_back plan w in
    record {
      header = ap header_of (sym words);
      sized = size_right plan w;
      summed = rw words (sum_right (plan_words plan) (sum_back plan));
      laid = header_laid plan w;
      slots = rw (words, contents_back plan) w.slots_right;
    }

-- "written and read back: same contents"
pub written_and_read :
    (plan : Plan) → Writable plan →
    (reading_answer (plan_bytes plan) ≡ Ok (header_of (plan_words plan))) ×
    (contents_of (words_of (plan_bytes plan)) (header_of (plan_words plan)) ≡ plan)
written_and_read plan w =
    (read_back (plan_bytes plan) (header_of (plan_words plan)) (written_reads plan w), rw (words_back plan w) (contents_back plan))
