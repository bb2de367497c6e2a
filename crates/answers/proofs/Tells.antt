-- What the words of an answer say of it.
use Prim.Native.Nat.{ℕ, suc}
use mathlib.Core.Path.{◌≡◌, ap, subst}
use mathlib.Core.List.{List}
use lib.ListN.{get_or}
use mir.Syntax.{w32}
use mir.Val.{Fits}
use Rattle.meaning.specs.Answers.{Answer, told}
use Rattle.answers.specs.Fitting.{FitWords}

-- A field of an answer that is this case fits the word that it is cast to.
pub fits : {A : Type 0} (fields : A → List ℕ) {answer case : A} →
    answer ≡ case → FitWords (fields answer) → (i : ℕ) → Fits w32 (get_or (fields case) i 0)
fits fields e f i = record { fits = (subst FitWords (ap fields e) f).fits i }

-- The first of the words that tell an answer is its number.
pub told_number : (answer : Answer) {words : List ℕ} → words ≡ told answer → get_or words 0 0 ≡ answer.number
unfolding told
told_number answer e = ap (λ l. get_or l 0 0) e

-- The others are its fields.
pub told_field : (answer : Answer) {words : List ℕ} → words ≡ told answer → (i : ℕ) → get_or words (suc i) 0 ≡ get_or answer.fields i 0
unfolding told
told_field answer e i = ap (λ l. get_or l (suc i) 0) e
