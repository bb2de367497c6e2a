-- The text of a line, as it is put: a fixed word with its space, then each number with the byte after it.
use Prim.Native.Nat.{ℕ, suc, zero, ◌+◌, ◌≤◌, ◌<◌}
use Prim.Native.String.{String}
use mathlib.Core.Path.{◌≡◌, refl, sym, ap, subst, ◌∙◌}
use mathlib.Core.Bool.{cond}
use mathlib.Core.List.{List, [], ◌∷◌, ◌++◌, append_assoc, append-nil}
use native.Mathlib.Numerals.{add-one}
use native.Mathlib.Omega.{arith}
use borrow.Author.Tests.{lt-ltb}
use lib.Dec.{leb-suc-suc}
use lib.ListN.{length, get_or, drop}
use Rattle.meaning.specs.Lines.{ascii, decimal, numbers_text, line_of, line_text}
use Rattle.meaning.specs.declared.Line.{Line}
use Rattle.lines.specs.Put.{Put, Room, field, byte_after, fields, line}

-- Numbers with the byte after each are the numbers with spaces between them and a newline at the end.
numbers_fields : (n : ℕ) (ns : List ℕ) → numbers_text (n ∷ ns) ++ ascii "\n" ≡ fields (n ∷ ns)
unfolding numbers_text ascii fields
numbers_fields n [] = refl
numbers_fields n (m ∷ ns) =
    append_assoc (decimal n ++ ascii " ") (numbers_text (m ∷ ns)) (ascii "\n") ∙ ap (λ l. field n 32 ++ l) (numbers_fields m ns)

-- The text of a line with a number is put as its word, the space, and its numbers with the byte after each.
pub line_text_lem : (word : String) (n : ℕ) (ns : List ℕ) → line_of word (n ∷ ns) ≡ line (ascii word ++ ascii " ") (n ∷ ns)
unfolding line_of
line_text_lem word n ns =
    append_assoc (ascii word ++ ascii " ") (numbers_text (n ∷ ns)) (ascii "\n") ∙
    ap (λ l. ascii word ++ ascii " " ++ l) (numbers_fields n ns)

-- A line that is put as its word and its numbers: the room for them, and the line once they are put.
module _ (word : String) (n : ℕ) (ns : List ℕ) {it case : Line} (is : it ≡ case) (text : line_text case ≡ line_of word (n ∷ ns)) where
  numbered : line_text it ≡ line (ascii word ++ ascii " ") (n ∷ ns)
  numbered = ap line_text is ∙ text ∙ line_text_lem word n ns

  pub line_room : (out : List ℕ) (at : ℕ) → Room out at (line_text it) → Room out at (line (ascii word ++ ascii " ") (n ∷ ns))
  line_room out at = subst (Room out at) numbered

  pub line_put : {before after : List ℕ} {at next : ℕ} → Put before after at (line (ascii word ++ ascii " ") (n ∷ ns)) next
      → Put before after at (line_text it) next
  line_put {before} {after} {at} {next} = subst (λ l. Put before after at l next) (sym numbered)

-- A place further on of one number more has the same byte after it.
after_suc : (i count : ℕ) → byte_after (suc i) (suc count) ≡ byte_after i count
unfolding byte_after
after_suc i count = ap (λ b. cond b 32 10) (leb-suc-suc (suc (suc i)) count)

-- The numbers from place i on: that number with the byte after it, and those from the next place on.
fields_next : (ns : List ℕ) (i : ℕ) → i < length ns
    → fields (drop i ns) ≡ field (get_or ns i 0) (byte_after i (length ns)) ++ fields (drop (suc i) ns)
fields_next [] i h = absurd (let z = h in omega arith)
fields_next (n ∷ []) zero h = unfold fields byte_after in sym (append-nil (field n 10))
fields_next (n ∷ m ∷ ns) zero h = unfold fields byte_after in rw (lt-ltb 1 (suc (suc (length ns))) (omega arith)) refl
fields_next (n ∷ ns) (suc i) h =
    fields_next ns i (omega arith) ∙
    ap (λ b. field (get_or ns i 0) b ++ fields (drop (suc i) ns)) (sym (after_suc i (length ns)))

-- The same, with the byte that is put after the number.
pub fields_from : (ns : List ℕ) (i byte : ℕ) → i < length ns → byte ≡ byte_after i (length ns)
    → fields (drop i ns) ≡ field (get_or ns i 0) byte ++ fields (drop (i + 1) ns)
fields_from ns i byte h e = rw (e, add-one i) (fields_next ns i h)

-- Past the last number there is nothing to put.
pub no_fields : (ns : List ℕ) (i : ℕ) → length ns ≤ i → fields (drop i ns) ≡ []
no_fields [] zero h = unfold fields in refl
no_fields [] (suc i) h = unfold fields in refl
no_fields (n ∷ ns) zero h = absurd (let z = h in omega arith)
no_fields (n ∷ ns) (suc i) h = no_fields ns i (omega arith)
