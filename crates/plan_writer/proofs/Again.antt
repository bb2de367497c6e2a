-- Read and written again: the words of a plan that reads well are those of its contents.
use Rattle.std.proofs.Common.{◌≡◌, ℕ, suc, ◌+◌, ◌*◌, ◌/◌, ◌%◌, ◌^◌, ◌<◌, ◌≤◌, Bool, true, false, ◌||◌, List, [], ◌∷◌, ◌++◌, length, get_or, take, drop, sym, refl, ap, ◌∙◌, subst, true≢false, arith, length-drop, take_all, drop-cons, drop-drop, take-add, ltb-false, eqb-true}
use borrow.Author.Tests.{not-false}
use Rattle.laws.specs.Sums.{sum_of}
use Rattle.meaning.specs.declared.Header.{Header}
use Rattle.meaning.specs.Plan.{words_of, word_at, header_of, contents_of, factor_at, connection_at, arrival_at, table_words, header_words, sum_word}
use Rattle.meaning.specs.Plan.{sum_words, sum_wrong, plan_words, plan_bytes, plan_size, connections_start, arrivals_start, size_of, size_wrong}
use Rattle.plan_writer.specs.Bytes.{bytes_of_words}
use Rattle.plan.specs.Entries.{length_table}
use Rattle.plan_writer.proofs.TableWords.{factors_back, connections_back, arrivals_back}
use Rattle.plan.proofs.WordLaws.{length_words_of, word_within}
use Rattle.plan_writer.proofs.Back.{bytes_again}
use Rattle.plan.specs.Readable.{Layout, Readable}
use Rattle.laws.specs.Sums.{sum_append}
use Rattle.plan_writer.proofs.SumWord.{sum_solved}

-- Bytes of a right size.
pub record Sized (bytes : List ℕ) : Type 0 where
  pub low : 40 ≤ length bytes
  pub high : length bytes ≤ 65536
  pub whole : length bytes % 4 ≡ 0
  pub first : get_or (words_of bytes) 0 0 ≡ length bytes

-- Where not one of two tests refuses, neither does.
neither : (a b : Bool) → (a || b) ≡ false → (a ≡ false) × (b ≡ false)
neither true b e = absurd (true≢false e)
neither false b e = (refl, e)

-- Bytes that pass the test of the size are of a right size.
pub size_facts : (bytes : List ℕ) → size_wrong bytes ≡ false → Sized bytes
unfolding size_wrong
size_facts bytes e =
    let p = neither _ _ e in
    let q = neither _ _ p.0 in
    let r = neither _ _ q.0 in
    record {
      low = ltb-false _ _ r.0;
      high = ltb-false _ _ r.1;
      whole = eqb-true _ _ (not-false _ q.1);
      first = eqb-true _ _ (not-false _ p.1);
    }

-- Words that pass the test of the sum have the sum 0.
pub sum_facts : (ws : List ℕ) → sum_wrong ws ≡ false → sum_words ws ≡ 0
unfolding sum_wrong
sum_facts ws e = eqb-true _ _ (not-false _ e)

-- Bytes below 256 make words below 2^32.
pub words_below : (bytes : List ℕ) → ((i : ℕ) → get_or bytes i 0 < 256) → (i : ℕ) → i < length bytes / 4 → get_or (words_of bytes) i 0 < 2 ^ 32
unfolding word_at
words_below bytes small i h =
    omega (arith, word_within bytes i h, small (4 * i), small (4 * i + 1), small (4 * i + 2), small (4 * i + 3))

-- The nine words up to the sum word.
abbrev nine : List ℕ → List ℕ
nine ws =
    get_or ws 0 0 ∷ get_or ws 1 0 ∷ get_or ws 2 0 ∷ get_or ws 3 0 ∷ get_or ws 4 0 ∷ get_or ws 5 0 ∷ get_or ws 6 0 ∷ get_or ws 7 0 ∷ get_or ws 8 0 ∷ []

-- A word stands before what is left behind it.
word_then : {rest : List ℕ} (ws : List ℕ) (i : ℕ) → i < length ws → drop (suc i) ws ≡ rest → drop i ws ≡ get_or ws i 0 ∷ rest
word_then ws i h e = drop-cons ws i 0 h ∙ ap (λ l. get_or ws i 0 ∷ l) e

-- Ten words or more are the nine, the sum word and the rest.
ten_and_on : (ws : List ℕ) → 10 ≤ length ws → ws ≡ nine ws ++ (get_or ws 9 0 ∷ drop 10 ws)
ten_and_on ws h =
    word_then ws 0 (omega arith)
    (word_then ws 1 (omega arith)
    (word_then ws 2 (omega arith)
    (word_then ws 3 (omega arith)
    (word_then ws 4 (omega arith)
    (word_then ws 5 (omega arith)
    (word_then ws 6 (omega arith)
    (word_then ws 7 (omega arith)
    (word_then ws 8 (omega arith)
    (drop-cons ws 9 0 (omega arith))))))))))

-- The sum word is the one that the others ask for.
sum_again : (start rest : List ℕ) (w : ℕ) → w < 2 ^ 32 → sum_words (start ++ (w ∷ rest)) ≡ 0 → sum_word (start ++ rest) ≡ w
unfolding sum_words sum_word sum_of
sum_again start rest w h e =
    let t : sum_of (λ x. x) (start ++ (w ∷ rest)) ≡ w + sum_of (λ x. x) (start ++ rest) =
    omega (arith, sum_append (λ w. w) start (w ∷ rest), sum_append (λ w. w) start rest) in
    sum_solved (sum_of (λ x. x) (start ++ rest)) w h (ap (λ n. n % 2 ^ 32) (sym t) ∙ e)

-- Nine words that are the same one by one are the same list.
same_nine :
    {a b c d e f g h i a' b' c' d' e' f' g' h' i' : ℕ} → a ≡ a' → b ≡ b' → c ≡ c' → d ≡ d' → e ≡ e' → f ≡ f' → g ≡ g' → h ≡ h' → i ≡ i' →
    ◌≡◌ {A = List ℕ} (a ∷ b ∷ c ∷ d ∷ e ∷ f ∷ g ∷ h ∷ i ∷ []) (a' ∷ b' ∷ c' ∷ d' ∷ e' ∷ f' ∷ g' ∷ h' ∷ i' ∷ [])
same_nine p₀ p₁ p₂ p₃ p₄ p₅ p₆ p₇ p₈ = cc

-- A list is its three parts, one behind another.
three_parts : (l : List ℕ) (n m p : ℕ) → length l ≤ n + m + p → take n l ++ take m (drop n l) ++ take p (drop (n + m) l) ≡ l
three_parts l n m p h =
    ap (λ x. x ++ take p (drop (n + m) l)) (sym (take-add n m l)) ∙ sym (take-add (n + m) p l) ∙ take_all (n + m + p) l h

module _ (ws : List ℕ) (h : Header) (laid : Layout (4 * length ws) h) where
  -- The words of the three tables are all that stands behind the header.
  tables_again : table_words (contents_of ws h) ≡ drop 10 ws
  unfolding table_words contents_of
  tables_again =
      let c = h.classes.count in
      let k = h.connections.count in
      let a = h.arrivals.count in
      let first : h.classes.start / 4 ≡ 10 = omega arith in
      let second : h.connections.start / 4 ≡ 10 + c = omega arith in
      let third : h.arrivals.start / 4 ≡ 10 + (c + 4 * k) = omega arith in
      let all : length (drop 10 ws) ≤ c + 4 * k + 3 * a = omega (arith, length-drop 10 ws) in
      rw (
        first,
        second,
        third,
        factors_back ws 10 c (omega arith),
        connections_back ws (10 + c) k (omega arith),
        arrivals_back ws (10 + (c + 4 * k)) a (omega arith),
        ← drop-drop c 10 ws,
        ← drop-drop (c + 4 * k) 10 ws,
      )
      (three_parts (drop 10 ws) c (4 * k) (3 * a) all)

  -- The header's words are those that the contents ask for.
  header_again : h ≡ header_of ws → get_or ws 0 0 ≡ 4 * length ws → header_words (contents_of ws h) ≡ nine ws
  unfolding header_words contents_of size_of header_of
  header_again e size =
      let f = length_table factor_at 1 ws (h.classes.start / 4) h.classes.count in
      let k = length_table connection_at 4 ws (h.connections.start / 4) h.connections.count in
      let a = length_table arrival_at 3 ws (h.arrivals.start / 4) h.arrivals.count in
      let e₀ : plan_size h.classes.count h.connections.count h.arrivals.count ≡ get_or ws 0 0 = sym (size ∙ laid.ends) in
      let e₁ : h.interval ≡ get_or ws 1 0 = ap (λ x. x.interval) e in
      let e₂ : h.cycle ≡ get_or ws 2 0 = ap (λ x. x.cycle) e in
      let e₃ : h.classes.count ≡ get_or ws 3 0 = ap (λ x. x.classes.count) e in
      let e₄ : 40 ≡ get_or ws 4 0 = sym laid.classes_at_lem ∙ ap (λ x. x.classes.start) e in
      let e₅ : h.connections.count ≡ get_or ws 5 0 = ap (λ x. x.connections.count) e in
      let e₆ : connections_start h.classes.count ≡ get_or ws 6 0 = sym laid.connections_at ∙ ap (λ x. x.connections.start) e in
      let e₇ : h.arrivals.count ≡ get_or ws 7 0 = ap (λ x. x.arrivals.count) e in
      let e₈ : arrivals_start h.classes.count h.connections.count ≡ get_or ws 8 0 =
      sym laid.arrivals_at ∙ ap (λ x. x.arrivals.start) e in
      rw (f, k, a) (same_nine e₀ e₁ e₂ e₃ e₄ e₅ e₆ e₇ e₈)

  -- The words of the contents are the words that were read.
  words_same :
      h ≡ header_of ws → get_or ws 0 0 ≡ 4 * length ws → sum_words ws ≡ 0 → get_or ws 9 0 < 2 ^ 32 → plan_words (contents_of ws h) ≡ ws
  unfolding plan_words
  words_same e size sum fits =
      let long : 10 ≤ length ws = omega arith in
      let ten = ten_and_on ws long in
      let last = sum_again (nine ws) (drop 10 ws) (get_or ws 9 0) fits (ap sum_words (sym ten) ∙ sum) in
      rw (header_again e size, tables_again, last) (sym ten)

-- "read and written again: same bytes"
pub read_and_written :
    (bytes : List ℕ) (h : Header) → Readable bytes h → ((i : ℕ) → get_or bytes i 0 < 256) → plan_bytes (contents_of (words_of bytes) h) ≡ bytes
unfolding plan_bytes bytes_of_words
read_and_written bytes h r small =
    let s = size_facts bytes r.sized in
    let n = length_words_of bytes in
    let four : length bytes ≡ 4 * length (words_of bytes) = omega arith in
    let laid : Layout (4 * length (words_of bytes)) h = subst (λ k. Layout k h) four r.laid in
    let words =
    words_same (words_of bytes) h laid r.header (s.first ∙ four)
    (sum_facts (words_of bytes) r.summed)
    (words_below bytes small 9 (omega arith)) in
    ap bytes_of_words words ∙ bytes_again bytes s.whole small
