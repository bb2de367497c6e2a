-- The words that tell an answer, one after another, are its number and its fields.
use Prim.Native.Nat.{ℕ}
use mathlib.Core.Path.{◌≡◌, refl, sym, ap, subst, ◌∙◌}
use mathlib.Core.List.{List, [], ◌∷◌}
use lib.ListN.{get_or}
use Rattle.meaning.specs.declared.Stepped.{Stepped}
use Rattle.meaning.specs.Answers.{Answer, told, refusal, header_fields}
use Rattle.meaning.specs.Answers.{opened, admitted, offered, stepped, plan_read, plan_written, printed}
use Rattle.cabinet.specs.Told.{Told}
use Rattle.std.proofs.Common.{Result, Ok, Err}
use Rattle.meaning.specs.declared.Refusal.{Refusal}
use Rattle.meaning.specs.declared.Header.{Header}

-- What is told of a call's answer is told of what the answer is by its promise.
pub tells : {A : Type 0} (meaning : A → Answer) {answer is : A} {number : ℕ} {fields : List ℕ} →
    answer ≡ is → Told (meaning answer) number fields → Told (meaning is) number fields
tells meaning e t = (t.0 ∙ ap (λ a. (meaning a).number) e, t.1 ∙ ap (λ a. (meaning a).fields) e)

-- One word after the number.
abbrev one : List ℕ → List ℕ
one w = get_or w 1 0 ∷ []

-- The two words after the first of a list.
abbrev two : List ℕ → List ℕ
two w = get_or w 1 0 ∷ get_or w 2 0 ∷ []

-- The five words after the first of a list.
abbrev five : List ℕ → List ℕ
five w = get_or w 1 0 ∷ get_or w 2 0 ∷ get_or w 3 0 ∷ get_or w 4 0 ∷ get_or w 5 0 ∷ []

-- The eight words after the first of a list.
abbrev eight : List ℕ → List ℕ
eight w =
    get_or w 1 0 ∷ get_or w 2 0 ∷ get_or w 3 0 ∷ get_or w 4 0 ∷ get_or w 5 0 ∷ get_or w 6 0 ∷ get_or w 7 0 ∷ get_or w 8 0 ∷ []

-- Words that are told tell the answer, if the fields taken from them are all.
taken : (answer : Answer) (fields : List ℕ → List ℕ) {words : List ℕ} →
    Told answer (get_or (told answer) 0 0) (fields (told answer)) → words ≡ told answer → Told answer (get_or words 0 0) (fields words)
taken answer fields t e = subst (λ w. Told answer (get_or w 0 0) (fields w)) (sym e) t

-- Opening has no field.
none_told : (a : Result Unit Refusal) → Told (opened a) (get_or (told (opened a)) 0 0) []
unfolding told opened refusal
none_told (Ok tt) = (refl, refl)
none_told (Err why) = (refl, refl)

-- So its number tells it.
pub opened_told : (a : Result Unit Refusal) {words : List ℕ} → words ≡ told (opened a) → Told (opened a) (get_or words 0 0) []
opened_told a = taken (opened a) (λ w. []) (none_told a)

-- An admission has two fields.
two_told : (a : Result ℕ Refusal) → Told (admitted a) (get_or (told (admitted a)) 0 0) (two (told (admitted a)))
unfolding told admitted
two_told (Ok n) = (refl, refl)
two_told (Err why) = (refl, refl)

-- So its number and they tell it.
pub admitted_told : (a : Result ℕ Refusal) {words : List ℕ} → words ≡ told (admitted a) → Told (admitted a) (get_or words 0 0) (two words)
admitted_told a = taken (admitted a) two (two_told a)

-- An offer has one field.
serial_told : (a : Result ℕ Refusal) → Told (offered a) (get_or (told (offered a)) 0 0) (one (told (offered a)))
unfolding told offered refusal
serial_told (Ok serial) = (refl, refl)
serial_told (Err why) = (refl, refl)

-- So its number and it tell it.
pub offered_told : (a : Result ℕ Refusal) {words : List ℕ} → words ≡ told (offered a) → Told (offered a) (get_or words 0 0) (one words)
offered_told a = taken (offered a) one (serial_told a)

-- A step has five fields.
five_told : (a : Result Stepped Refusal) → Told (stepped a) (get_or (told (stepped a)) 0 0) (five (told (stepped a)))
unfolding told stepped refusal
five_told (Ok Stepped.Idle) = (refl, refl)
five_told (Ok (Stepped.Sending serial left)) = (refl, refl)
five_told (Ok (Stepped.Departed serial connection arrival departure)) = (refl, refl)
five_told (Err why) = (refl, refl)

-- So its number and they tell it.
pub stepped_told : (a : Result Stepped Refusal) {words : List ℕ} → words ≡ told (stepped a) → Told (stepped a) (get_or words 0 0) (five words)
stepped_told a = taken (stepped a) five (five_told a)

-- A plan that is read has eight fields.
eight_told : (a : Result Header Refusal) → Told (plan_read a) (get_or (told (plan_read a)) 0 0) (eight (told (plan_read a)))
unfolding told plan_read header_fields refusal
eight_told (Ok h) = (refl, refl)
eight_told (Err why) = (refl, refl)

-- So its number and they tell it.
pub read_told : (a : Result Header Refusal) {words : List ℕ} → words ≡ told (plan_read a) → Told (plan_read a) (get_or words 0 0) (eight words)
read_told a = taken (plan_read a) eight (eight_told a)

-- A plan that is written has one field.
size_told : (a : Result ℕ Refusal) → Told (plan_written a) (get_or (told (plan_written a)) 0 0) (one (told (plan_written a)))
unfolding told plan_written refusal
size_told (Ok n) = (refl, refl)
size_told (Err why) = (refl, refl)

-- So its number and it tell it.
pub written_told : (a : Result ℕ Refusal) {words : List ℕ} → words ≡ told (plan_written a) → Told (plan_written a) (get_or words 0 0) (one words)
written_told a = taken (plan_written a) one (size_told a)

-- So has a run that is printed.
text_told : (a : Result ℕ Refusal) → Told (printed a) (get_or (told (printed a)) 0 0) (one (told (printed a)))
unfolding told printed refusal
text_told (Ok n) = (refl, refl)
text_told (Err why) = (refl, refl)

-- So its number and it tell it.
pub printed_told : (a : Result ℕ Refusal) {words : List ℕ} → words ≡ told (printed a) → Told (printed a) (get_or words 0 0) (one words)
printed_told a = taken (printed a) one (text_told a)
