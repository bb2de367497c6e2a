-- The five answers of reading, each from the tests that lead to it.
use Rattle.std.proofs.Common.{◌≡◌, ℕ, ◌+◌, ◌%◌, ◌^◌, [], ◌∷◌, map, refl, ◌∙◌, zero-add, arith, ◌-◌, true, false, not, List, length, take, drop, ap, eq-eqb, ne_eqb, Ok, Err}
use Rattle.std.specs.Int.{from_le_bytes, w32}
use Rattle.laws.specs.Sums.{sum_of}
use Rattle.meaning.specs.declared.Header.{Header}
use Rattle.meaning.specs.declared.Refusal.{Refusal}
use Rattle.meaning.specs.Plan.{words_of, sum_words, table, arrival_at, header_of, contents_of, size_wrong, sum_wrong, layout_wrong, slots_wrong, reading_answer}
use Rattle.plan.specs.Parts.{arrivals_in, arrivals_of_words}
use Rattle.plan.proofs.WordLaws.{length_words_of}
use Rattle.plan.proofs.LaidOut.{layout_facts, arrivals_of_rest}
use Rattle.plan.specs.Readable.{slots_wrong_in}

-- Where the sum of the words is 0, the test of the sum refuses nothing.
pub sum_right : (ws : List ℕ) → sum_words ws ≡ 0 → sum_wrong ws ≡ false
unfolding sum_wrong
sum_right ws e = ap not (eq-eqb (sum_words ws) 0 e)

-- Where the sum of the words is not 0, the test of the sum refuses.
pub sum_off : (ws : List ℕ) → (sum_words ws ≡ 0 → ⊥) → sum_wrong ws ≡ true
unfolding sum_wrong
sum_off ws e = ap not (ne_eqb (sum_words ws) 0 e)

-- The sum of what a function gives is that of its values.
sum_of_map : {A : Type 0} (f : A → ℕ) (l : List A) → sum_of f l ≡ sum_of (λ w. w) (map f l)
unfolding sum_of
sum_of_map f [] = refl
sum_of_map f (a ∷ l) = ap (λ n. f a + n) (sum_of_map f l)

-- The chunks of four bytes that are the words of a plan add up to their sum.
pub sum_of_chunks :
    (chunks : List (List ℕ)) (ws : List ℕ) → map (from_le_bytes w32) chunks ≡ ws →
    (0 + sum_of (from_le_bytes w32) chunks) % 2 ^ 32 ≡ sum_words ws
unfolding sum_words
sum_of_chunks chunks ws e =
    ap (λ n. n % 2 ^ 32) (zero-add (sum_of (from_le_bytes w32) chunks) ∙ sum_of_map (from_le_bytes w32) chunks ∙ ap (sum_of (λ w. w)) e)

module _ (bytes : List ℕ) where
  -- A size that is wrong is answered first.
  pub answer_13 : size_wrong bytes ≡ true → (Err Refusal.WrongSize) ≡ reading_answer bytes
  unfolding reading_answer
  answer_13 a = rw a

  -- Where the size is right, a sum that is wrong is answered next.
  pub answer_14 : size_wrong bytes ≡ false → sum_wrong (words_of bytes) ≡ true → (Err Refusal.WrongSum) ≡ reading_answer bytes
  unfolding reading_answer
  answer_14 a b = rw (a, b)

  module _ (h : Header) (header : h ≡ header_of (words_of bytes)) (a : size_wrong bytes ≡ false) (b : sum_wrong (words_of bytes) ≡ false) where
    -- Where both are right, a layout that is wrong is answered next.
    pub answer_15 : layout_wrong (length bytes) h ≡ true → (Err Refusal.WrongLayout) ≡ reading_answer bytes
    unfolding reading_answer
    answer_15 e = rw (a, b, ← header, e)

    -- Where the layout is right too, slots that are wrong are answered last.
    pub answer_16 : layout_wrong (length bytes) h ≡ false → slots_wrong_in bytes h ≡ true
        → (Err Refusal.WrongSlots) ≡ reading_answer bytes
    unfolding reading_answer slots_wrong_in
    answer_16 e f = rw (a, b, ← header, e, f)

    -- Where every test passes, the header is answered.
    pub answer_0 : layout_wrong (length bytes) h ≡ false → slots_wrong_in bytes h ≡ false → Ok h ≡ reading_answer bytes
    unfolding reading_answer slots_wrong_in
    answer_0 e f = rw (a, b, ← header, e, f)

-- The arrivals in bytes are those of their words.
arrivals_in_words : (bytes : List ℕ) → arrivals_of_words (words_of bytes) ≡ arrivals_in bytes
unfolding arrivals_in arrivals_of_words
arrivals_in_words bytes = ap (table arrival_at 3 (words_of bytes) 0) (omega (arith, length_words_of bytes))

-- The test of the slots on the words of the end of the plan is that on the arrivals of the contents.
pub slots_of_rest :
    (bytes ws : List ℕ) (h : Header) → layout_wrong (length bytes) h ≡ false →
    ws ≡ words_of (take (length bytes - h.arrivals.start) (drop h.arrivals.start bytes)) →
    slots_wrong (arrivals_of_words ws) ≡ slots_wrong_in bytes h
unfolding slots_wrong_in contents_of
slots_of_rest bytes ws h e w =
    ap slots_wrong (ap arrivals_of_words w ∙ arrivals_in_words _ ∙ arrivals_of_rest bytes h (layout_facts (length bytes) h e))
