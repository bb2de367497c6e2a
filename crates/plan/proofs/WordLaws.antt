-- Laws on words that stand in bytes: how many there are, which bytes each is made of, and the words of a part.
use Rattle.std.proofs.Common.{◌≡◌, ℕ, zero, suc, ◌+◌, ◌*◌, ◌/◌, ◌<◌, ◌≤◌, List, ◌∷◌, map, length, get_or, take, drop, sym, refl, ap, ap₂, ◌∙◌, not-suc-le-zero, arith, length-drop, length-take, drop-drop, get_or-drop, get_or-take, ⊎_elim}
use Rattle.std.proofs.lemmas.Bool.{cases_lt}
use lib.ListN.{get_or-eq_default}
use Rattle.std.specs.Int.{from_le_bytes, w32}
use Rattle.std.specs.Simd.{first_chunks}
use Rattle.meaning.specs.Plan.{word_at, words_from, words_of}

-- As many words are read as are asked for.
pub length_words_from : (bytes : List ℕ) (at n : ℕ) → length (words_from bytes at n) ≡ n
unfolding words_from
length_words_from bytes at zero = refl
length_words_from bytes at (suc n) = ap suc (length_words_from bytes (at + 4) n)

-- Bytes hold a fourth of their number as words.
pub length_words_of : (bytes : List ℕ) → length (words_of bytes) ≡ length bytes / 4
unfolding words_of
length_words_of bytes = length_words_from bytes 0 (length bytes / 4)

-- A word by its number is made of the four bytes at its place.
pub get_d_words_from : (bytes : List ℕ) (at n i : ℕ) → i < n → get_or (words_from bytes at n) i 0 ≡ word_at bytes (at + 4 * i)
unfolding words_from
get_d_words_from bytes at zero i h = absurd (not-suc-le-zero h)
get_d_words_from bytes at (suc n) zero h = ap (word_at bytes) (omega arith)
get_d_words_from bytes at (suc n) (suc i) h = get_d_words_from bytes (at + 4) n i (omega arith) ∙ ap (word_at bytes) (omega arith)

-- A word that lies wholly in the bytes is made of its four bytes.
pub word_within : (bytes : List ℕ) (i : ℕ) → i < length bytes / 4 → get_or (words_of bytes) i 0 ≡ word_at bytes (4 * i)
unfolding words_of
word_within bytes i h = get_d_words_from bytes 0 (length bytes / 4) i h ∙ ap (word_at bytes) (omega arith)

-- A word past the end of the bytes is 0.
pub word_past : (bytes : List ℕ) (i : ℕ) → length bytes / 4 ≤ i → get_or (words_of bytes) i 0 ≡ 0
word_past bytes i h = get_or-eq_default (words_of bytes) 0 (rw length_words_of h)

-- A word depends on its four bytes alone.
pub word_at_same :
    (b c : List ℕ) (i j : ℕ) → ((k : ℕ) → k < 4 → get_or b (i + k) 0 ≡ get_or c (j + k) 0) → word_at b i ≡ word_at c j
unfolding word_at
word_at_same b c i j e =
    let first : get_or b i 0 ≡ get_or c j 0 = ap (λ k. get_or b k 0) (omega arith) ∙ e 0 (omega arith) ∙ ap (λ k. get_or c k 0) (omega arith) in
    rw (first, e 1 (omega arith), e 2 (omega arith), e 3 (omega arith))

-- Four bytes, the lowest first, are the word whose first byte stands at their place.
four_bytes : (bytes : List ℕ) (at : ℕ) → from_le_bytes w32 (take 4 (drop at bytes)) ≡ word_at bytes at
unfolding word_at
four_bytes bytes at =
    let byte : (k : ℕ) → k < 4 → get_or (take 4 (drop at bytes)) k 0 ≡ get_or bytes (at + k) 0 =
    λ k h. get_or-take 4 (drop at bytes) k 0 h ∙ get_or-drop at bytes k 0 in
    let first : get_or bytes (at + 0) 0 ≡ get_or bytes at 0 = ap (λ k. get_or bytes k 0) (omega arith) in
    omega (arith, byte 0 (omega arith), byte 1 (omega arith), byte 2 (omega arith), byte 3 (omega arith), first)

-- Chunks of four bytes are the words, so many from the byte `at` on.
words_of_chunks : (bytes : List ℕ) (at n : ℕ) → map (from_le_bytes w32) (first_chunks 4 n (drop at bytes)) ≡ words_from bytes at n
unfolding words_from
words_of_chunks bytes at zero = refl
words_of_chunks bytes at (suc n) =
    let rest : drop 4 (drop at bytes) ≡ drop (at + 4) bytes = drop-drop 4 at bytes in
    ap₂ ◌∷◌ (four_bytes bytes at)
    (ap (λ b. map (from_le_bytes w32) (first_chunks 4 n b)) rest ∙ words_of_chunks bytes (at + 4) n)

-- The chunks of four bytes are all words.
pub chunks_are_words : (bytes : List ℕ) → map (from_le_bytes w32) (first_chunks 4 (length bytes / 4) bytes) ≡ words_of bytes
unfolding words_of
chunks_are_words bytes = words_of_chunks bytes 0 (length bytes / 4)

-- A word of the rest is a word of the whole.
pub word_of_rest : (bytes : List ℕ) (a i : ℕ) → get_or (words_of (drop (4 * a) bytes)) i 0 ≡ get_or (words_of bytes) (a + i) 0
word_of_rest bytes a i = ⊎_elim inside past (cases_lt i (length (drop (4 * a) bytes) / 4))
  where
    byte : (k : ℕ) → k < 4 → get_or (drop (4 * a) bytes) (4 * i + k) 0 ≡ get_or bytes (4 * (a + i) + k) 0
    byte k b = get_or-drop (4 * a) bytes (4 * i + k) 0 ∙ ap (λ k. get_or bytes k 0) (omega arith)

    inside : i < length (drop (4 * a) bytes) / 4 → get_or (words_of (drop (4 * a) bytes)) i 0 ≡ get_or (words_of bytes) (a + i) 0
    inside h =
        word_within (drop (4 * a) bytes) i h ∙
        word_at_same (drop (4 * a) bytes) bytes (4 * i) (4 * (a + i)) byte ∙
        sym (word_within bytes (a + i) (omega (arith, length-drop (4 * a) bytes)))

    past : length (drop (4 * a) bytes) / 4 ≤ i → get_or (words_of (drop (4 * a) bytes)) i 0 ≡ get_or (words_of bytes) (a + i) 0
    past h = word_past (drop (4 * a) bytes) i h ∙ sym (word_past bytes (a + i) (omega (arith, length-drop (4 * a) bytes)))

-- A word of a part is a word of the whole.
pub word_of_part :
    (bytes : List ℕ) (a n i : ℕ) → 4 * a + 4 * n ≤ length bytes → i < n → get_or (words_of (take (4 * n) (drop (4 * a) bytes))) i 0 ≡
    get_or (words_of bytes) (a + i) 0
word_of_part bytes a n i h l =
    let rest = drop (4 * a) bytes in
    let room = length-drop (4 * a) bytes in
    let long : length (take (4 * n) rest) ≡ 4 * n = simp length-take (omega arith) in
    word_within (take (4 * n) rest) i (rw long (omega arith)) ∙
    word_at_same (take (4 * n) rest) rest (4 * i) (4 * i) (λ k b. get_or-take (4 * n) rest (4 * i + k) 0 (omega arith)) ∙
    sym (word_within rest i (omega arith)) ∙
    word_of_rest bytes a i
