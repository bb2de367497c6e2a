-- Words to bytes and back, bytes to words and back, and entries to words and back.
use Rattle.std.proofs.Common.{◌≡◌, ℕ, zero, suc, ◌+◌, ◌*◌, ◌/◌, ◌%◌, ◌^◌, ◌<◌, List, [], ◌∷◌, ◌++◌, map, length, get_or, sym, refl, ap, ◌∙◌, ap₂, append_assoc, not-suc-le-zero, mod-eq_of_lt, arith, get_or-append-add, ext_get_or}
use mathlib.Core.List.{flatten}
use native.Mathlib.Nat.{div-div-eq-div-mul, div-add-mod}
use lib.ListN.{get_or-append}
use Rattle.meaning.specs.declared.Connection.{Connection}
use Rattle.meaning.specs.declared.Arrival.{Arrival}
use Rattle.meaning.specs.Plan.{word_at, words_of, bytes_of_word, table, connection_at, arrival_at, connection_words, arrival_words}
use Rattle.plan_writer.specs.Bytes.{bytes_of_words}
use Rattle.plan.proofs.EntryLaws.{Local, table_same, connection_local, arrival_local}
use Rattle.plan.proofs.WordLaws.{length_words_of, word_within, word_at_same}
use Rattle.plan_writer.proofs.Pasting.{length_bytes, length_word}

-- A number below 2^32 is the word that its four bytes make.
word_again : (w : ℕ) → w < 2 ^ 32 → word_at (bytes_of_word w) 0 ≡ w
unfolding word_at bytes_of_word
word_again w h =
    let two : w / 65536 ≡ w / 256 / 256 = sym (div-div-eq-div-mul w 256 256) in
    let three : w / 16777216 ≡ w / 256 / 256 / 256 = sym (div-div-eq-div-mul w 65536 256) ∙ ap (λ n. n / 256) two in
    let top : w / 16777216 < 256 = high w h in
    let last : w / 256 / 256 / 256 % 256 ≡ w / 256 / 256 / 256 = mod-eq_of_lt (rw three at top) in
    rw (two, three)
    (glue w (w / 256) (w / 256 / 256) (w / 256 / 256 / 256)
    (w % 256) (w / 256 % 256) (w / 256 / 256 % 256) (w / 256 / 256 / 256 % 256)
    (div-add-mod w 256) (div-add-mod (w / 256) 256) (div-add-mod (w / 256 / 256) 256) last)
  where
    high : (n : ℕ) → n < 2 ^ 32 → n / 16777216 < 256
    high n l = omega arith

    glue :
        (w q r s a b c d : ℕ) → 256 * q + a ≡ w → 256 * r + b ≡ q → 256 * s + c ≡ r → d ≡ s → a + 256 * b + 65536 * c + 16777216 * d ≡ w
    glue w q r s a b c d e f g t = omega arith

-- A byte in the bytes of words is the byte of its word.
byte_of_words :
    (ws : List ℕ) (i k : ℕ) → i < length ws → k < 4 → get_or (bytes_of_words ws) (4 * i + k) 0 ≡ get_or (bytes_of_word (get_or ws i 0)) (0 + k) 0
unfolding bytes_of_words flatten
byte_of_words [] i k h l = absurd (not-suc-le-zero h)
byte_of_words (w ∷ ws) zero k h l = get_or-append (bytes_of_word w) (bytes_of_words ws) 0 (4 * 0 + k) (omega (arith, length_word w))
byte_of_words (w ∷ ws) (suc i) k h l =
    let at : 4 * suc i + k ≡ length (bytes_of_word w) + (4 * i + k) = omega (arith, length_word w) in
    ap (λ n. get_or (bytes_of_word w ++ bytes_of_words ws) n 0) at ∙
    get_or-append-add (bytes_of_word w) (bytes_of_words ws) (4 * i + k) 0 ∙
    byte_of_words ws i k (omega arith) l

-- Words below 2^32 are read back from their bytes.
pub words_again : (ws : List ℕ) → ((i : ℕ) → get_or ws i 0 < 2 ^ 32) → words_of (bytes_of_words ws) ≡ ws
words_again ws small = ext_get_or 0 (words_of (bytes_of_words ws)) ws long same
  where
    long : length (words_of (bytes_of_words ws)) ≡ length ws
    long = let l = length_bytes ws in length_words_of (bytes_of_words ws) ∙ omega arith

    same : (i : ℕ) → i < length (words_of (bytes_of_words ws)) → get_or (words_of (bytes_of_words ws)) i 0 ≡ get_or ws i 0
    same i h =
        let l = length_bytes ws in
        let n : i < length ws = rw long at h in
        word_within (bytes_of_words ws) i (omega arith) ∙
        word_at_same (bytes_of_words ws) (bytes_of_word (get_or ws i 0)) (4 * i) 0 (λ k b. byte_of_words ws i k n b) ∙
        word_again (get_or ws i 0) (small i)

-- Four bytes are those of the word that they make.
word_bytes :
    (a b c d : ℕ) → a < 256 → b < 256 → c < 256 → d < 256 → bytes_of_word (a + 256 * b + 65536 * c + 16777216 * d) ≡ a ∷ b ∷ c ∷ d ∷ []
unfolding bytes_of_word
word_bytes a b c d ha hb hc hd =
    let w = a + 256 * b + 65536 * c + 16777216 * d in
    let zero_th : w % 256 ≡ a = omega arith in
    let first : w / 256 ≡ b + 256 * c + 65536 * d = omega arith in
    let second : w / 65536 ≡ c + 256 * d = omega arith in
    let third : w / 16777216 ≡ d = omega arith in
    let first_low : (b + 256 * c + 65536 * d) % 256 ≡ b = omega arith in
    let second_low : (c + 256 * d) % 256 ≡ c = omega arith in
    let third_low : d % 256 ≡ d = omega arith in
    rw (zero_th, first, second, third, first_low, second_low, third_low)

-- A byte below 256 is read back from the word that it is part of.
byte_again :
    (bytes : List ℕ) → ((i : ℕ) → get_or bytes i 0 < 256) → (at k : ℕ) → k < 4 →
    get_or (bytes_of_word (word_at bytes at)) (0 + k) 0 ≡ get_or bytes (at + k) 0
unfolding word_at
byte_again bytes small at k h =
    ap (λ l. get_or l (0 + k) 0)
    (word_bytes (get_or bytes at 0) (get_or bytes (at + 1) 0) (get_or bytes (at + 2) 0) (get_or bytes (at + 3) 0)
    (small at) (small (at + 1)) (small (at + 2)) (small (at + 3))) ∙
    by k h
  where
    by :
        (k : ℕ) → k < 4 → get_or (get_or bytes at 0 ∷ get_or bytes (at + 1) 0 ∷ get_or bytes (at + 2) 0 ∷ get_or bytes (at + 3) 0 ∷ []) (0 + k) 0 ≡
        get_or bytes (at + k) 0
    by zero l = ap (λ n. get_or bytes n 0) (omega arith)
    by (suc zero) l = refl
    by (suc (suc zero)) l = refl
    by (suc (suc (suc zero))) l = refl
    by (suc (suc (suc (suc n)))) l = absurd (omega arith)

-- Whole words of bytes below 256 give those bytes back.
pub bytes_again :
    (bytes : List ℕ) → length bytes % 4 ≡ 0 → ((i : ℕ) → get_or bytes i 0 < 256) → bytes_of_words (words_of bytes) ≡ bytes
bytes_again bytes whole small = ext_get_or 0 (bytes_of_words (words_of bytes)) bytes long same
  where
    long : length (bytes_of_words (words_of bytes)) ≡ length bytes
    long = let l = length_words_of bytes in length_bytes (words_of bytes) ∙ omega arith

    same : (j : ℕ) → j < length (bytes_of_words (words_of bytes)) → get_or (bytes_of_words (words_of bytes)) j 0 ≡ get_or bytes j 0
    same j h =
        let n : j < length bytes = rw long at h in
        let l = length_words_of bytes in
        let i = j / 4 in
        let k = j % 4 in
        let at : j ≡ 4 * i + k = omega arith in
        let inside : i < length bytes / 4 = omega arith in
        ap (λ m. get_or (bytes_of_words (words_of bytes)) m 0) at ∙
        byte_of_words (words_of bytes) i k (omega arith) (omega arith) ∙
        ap (λ w. get_or (bytes_of_word w) (0 + k) 0) (word_within bytes i inside) ∙
        byte_again bytes small (4 * i) k (omega arith) ∙
        ap (λ m. get_or bytes m 0) (sym at)

-- Entries are read back from their words, whatever stands behind those.
module _ {A : Type 0} (entry : List ℕ → ℕ → A) (width : ℕ) (own : Local entry width)
    (words : A → List ℕ) (wide : (a : A) → length (words a) ≡ width) (back : (a : A) (rest : List ℕ) → entry (words a ++ rest) 0 ≡ a) where
  entries_again : (entries : List A) (rest : List ℕ) → table entry width (flatten (map words entries) ++ rest) 0 (length entries) ≡ entries
  unfolding table flatten
  entries_again [] rest = refl
  entries_again (a ∷ entries) rest =
      let more = flatten (map words entries) ++ rest in
      let apart : words a ++ flatten (map words entries) ++ rest ≡ words a ++ more =
      append_assoc (words a) (flatten (map words entries)) rest in
      ap (λ ws. table entry width ws 0 (suc (length entries))) apart ∙
      ap₂ ◌∷◌ (back a more)
      (table_same entry width own (words a ++ more) more (0 + width) 0 (length entries) (λ k h. behind a more k) ∙
      entries_again entries rest)
    where
      behind : (a : A) (more : List ℕ) (k : ℕ) → get_or (words a ++ more) (0 + width + k) 0 ≡ get_or more (0 + k) 0
      behind a more k =
          let at : 0 + width + k ≡ length (words a) + (0 + k) = omega (arith, wide a) in
          ap (λ n. get_or (words a ++ more) n 0) at ∙ get_or-append-add (words a) more (0 + k) 0

-- Connections are read back from their words.
pub connections_again :
    (cs : List Connection) (rest : List ℕ) → table connection_at 4 (flatten (map connection_words cs) ++ rest) 0 (length cs) ≡ cs
unfolding connection_words connection_at
connections_again = entries_again connection_at 4 connection_local connection_words (λ c. refl) (λ c rest. refl)

-- Arrivals are read back from their words.
pub arrivals_again : (l : List Arrival) (rest : List ℕ) → table arrival_at 3 (flatten (map arrival_words l) ++ rest) 0 (length l) ≡ l
unfolding arrival_words arrival_at
arrivals_again = entries_again arrival_at 3 arrival_local arrival_words (λ a. refl) (λ a rest. refl)
