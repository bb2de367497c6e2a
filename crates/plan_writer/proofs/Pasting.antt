-- Laws on bytes put into a buffer: one after another, and none.
use Rattle.std.proofs.Common.{◌≡◌, ℕ, ◌+◌, ◌*◌, ◌<◌, ◌≤◌, List, [], ◌∷◌, ◌++◌, length, get_or, take, drop, sym, refl, ap, ap₂, ◌-◌, ◌∙◌, append_assoc, append-nil, add-zero, add-one, arith, length-append, take-append-drop, length-take, length-take-le, take-suc, drop-drop, take_at}
use mathlib.Core.List.{flatten}
use lib.Seq.{drop-append-add}
use borrow.Rule.Slice.PartMut.{put_mid}
use Rattle.std.specs.Int.{to_le_bytes, w32}
use Rattle.meaning.specs.Plan.{bytes_of_word}
use Rattle.plan_writer.specs.Bytes.{bytes_of_words, pasted}

-- The bytes of words joined to words are joined the same way.
pub bytes_append : (ws vs : List ℕ) → bytes_of_words (ws ++ vs) ≡ bytes_of_words ws ++ bytes_of_words vs
unfolding bytes_of_words flatten
bytes_append [] vs = refl
bytes_append (w ∷ ws) vs =
    ap (λ l. bytes_of_word w ++ l) (bytes_append ws vs) ∙ sym (append_assoc (bytes_of_word w) (bytes_of_words ws) (bytes_of_words vs))

-- A word has four bytes in the bytes of words.
pub length_bytes : (ws : List ℕ) → length (bytes_of_words ws) ≡ 4 * length ws
unfolding bytes_of_words flatten bytes_of_word
length_bytes [] = refl
length_bytes (w ∷ ws) = omega (arith, length_bytes ws)

-- A word has four bytes.
pub length_word : (w : ℕ) → length (bytes_of_word w) ≡ 4
unfolding bytes_of_word
length_word w = refl

-- The bytes of one word are its four.
bytes_one : (w : ℕ) → bytes_of_words (w ∷ []) ≡ bytes_of_word w
unfolding bytes_of_words flatten
bytes_one w = append-nil (bytes_of_word w)

-- A buffer with nothing put into it is as it was.
pub paste_none : (buf : List ℕ) (at : ℕ) → pasted buf at [] ≡ buf
unfolding pasted
paste_none buf at = rw add-zero (take-append-drop at buf)

-- What is put behind what was put is put in one.
pub paste_more :
    (buf : List ℕ) (at : ℕ) (xs ys : List ℕ) (next : ℕ) → next ≡ at + length xs → at + length xs + length ys ≤ length buf →
    pasted (pasted buf at xs) next ys ≡ pasted buf at (xs ++ ys)
unfolding pasted
paste_more buf at xs ys next e h =
    rw (front, back) (simp append_assoc)
  where
    head : List ℕ
    head = take at buf

    rest : List ℕ
    rest = drop (at + length xs) buf

    long : length (head ++ xs) ≡ next
    long = simp (length-append, length-take) (omega arith)

    apart : head ++ (xs ++ rest) ≡ head ++ xs ++ rest
    apart = sym (append_assoc head xs rest)

    front : take next (head ++ (xs ++ rest)) ≡ head ++ xs
    front = ap (take next) apart ∙ take_at (head ++ xs) rest next long

    all : at + length xs + length ys ≡ at + length (xs ++ ys)
    all = simp length-append (omega arith)

    back : drop (next + length ys) (head ++ (xs ++ rest)) ≡ drop (at + length (xs ++ ys)) buf
    back =
        ap (drop (next + length ys)) apart ∙
        ap (λ k. drop (k + length ys) (head ++ xs ++ rest)) (sym long) ∙
        drop-append-add (head ++ xs) rest (length ys) ∙
        drop-drop (length ys) (at + length xs) buf ∙
        ap (λ k. drop k buf) all

-- One word more, put behind the words before it, is put in one with them.
pub paste_word :
    (buf : List ℕ) (at : ℕ) (ws : List ℕ) (i : ℕ) → i < length ws → at + 4 * length ws ≤ length buf →
    pasted (pasted buf at (bytes_of_words (take i ws))) (at + 4 * i) (bytes_of_word (get_or ws i 0)) ≡
    pasted buf at (bytes_of_words (take (i + 1) ws))
paste_word buf at ws i h r =
    let long : length (bytes_of_words (take i ws)) ≡ 4 * i = length_bytes (take i ws) ∙ ap (λ k. 4 * k) (length-take-le i ws (omega arith)) in
    let four = length_word (get_or ws i 0) in
    paste_more buf at (bytes_of_words (take i ws)) (bytes_of_word (get_or ws i 0)) (at + 4 * i) (omega arith) (omega arith) ∙
    ap (pasted buf at) (sym one_more)
  where
    one_more : bytes_of_words (take (i + 1) ws) ≡ bytes_of_words (take i ws) ++ bytes_of_word (get_or ws i 0)
    one_more =
        ap bytes_of_words (rw add-one (take-suc ws i 0 h)) ∙
        bytes_append (take i ws) (get_or ws i 0 ∷ []) ∙
        ap (λ l. bytes_of_words (take i ws) ++ l) (bytes_one (get_or ws i 0))

-- Bytes written over a part of their number are put there.
paste_mid : (buf bytes : List ℕ) (at k : ℕ) → k ≡ length bytes → put_mid at k buf bytes ≡ pasted buf at bytes
unfolding pasted
paste_mid buf bytes at k e = ap (λ l. take at buf ++ (bytes ++ l)) (drop-drop k at buf ∙ ap (λ n. drop (at + n) buf) e)

-- A word written over its four bytes, behind the words before it, is put in one with them.
pub paste_next :
    (buf now four : List ℕ) (at : ℕ) (ws : List ℕ) (i : ℕ) → i < length ws → at + 4 * length ws ≤ length buf →
    now ≡ pasted buf at (bytes_of_words (take i ws)) → four ≡ to_le_bytes w32 (get_or ws i 0) →
    put_mid (at + 4 * i) (at + 4 * i + 4 - (at + 4 * i)) now four ≡ pasted buf at (bytes_of_words (take (i + 1) ws))
unfolding bytes_of_word
paste_next buf now four at ws i h r e f =
    paste_mid now four (at + 4 * i) (at + 4 * i + 4 - (at + 4 * i)) (omega (arith, ap length f)) ∙
    ap₂ (λ b l. pasted b (at + 4 * i) l) e f ∙
    paste_word buf at ws i h r

-- Words put behind words are put in one.
pub paste_words :
    (buf ws vs : List ℕ) (next : ℕ) → next ≡ 4 * length ws → next + 4 * length vs ≤ length buf →
    pasted (pasted buf 0 (bytes_of_words ws)) next (bytes_of_words vs) ≡
    pasted buf 0 (bytes_of_words (ws ++ vs))
paste_words buf ws vs next e h =
    let lw = length_bytes ws in
    let lv = length_bytes vs in
    paste_more buf 0 (bytes_of_words ws) (bytes_of_words vs) next (omega arith) (omega arith) ∙ ap (pasted buf 0) (sym (bytes_append ws vs))

-- Four lists of words, put one behind another, are put in one.
pub paste_four_words :
    (buf h f c a : List ℕ) (n₁ n₂ n₃ : ℕ) → n₁ ≡ 4 * length h → n₂ ≡ n₁ + 4 * length f → n₃ ≡ n₂ + 4 * length c →
    n₃ + 4 * length a ≤ length buf →
    pasted (pasted (pasted (pasted buf 0 (bytes_of_words h)) n₁ (bytes_of_words f)) n₂ (bytes_of_words c)) n₃ (bytes_of_words a) ≡
    pasted buf 0 (bytes_of_words (h ++ f ++ c ++ a))
paste_four_words buf h f c a n₁ n₂ n₃ e₁ e₂ e₃ r =
    let hf = length-append h f in
    let hfc = length-append (h ++ f) c in
    rw
    (paste_words buf h f n₁ e₁ (omega arith), paste_words buf (h ++ f) c n₂ (omega arith) (omega arith))
    (paste_words buf (h ++ f ++ c) a n₃ (omega arith) r)
