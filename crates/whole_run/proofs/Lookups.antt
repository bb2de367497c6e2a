-- Places of the file and numbers of connections, as the code looks them up.
use Rattle.std.proofs.Common.{◌≡◌, ℕ, suc, ◌+◌, ◌-◌, ◌<◌, ◌≤◌, Bool, true, false, cond, eqb, List, [], ◌∷◌, length, get_or, Option, Some, nat_eq, refl, ap, ◌∙◌, ⊎_elim, add-one, arith}
use Rattle.std.specs.Option.{option_map, unwrap_or}
use Rattle.std.specs.List.{position, position_from}
use Rattle.std.proofs.lemmas.Bool.{cases_lt}
use Rattle.std.proofs.lemmas.List.{get_or_past}
use Rattle.std.proofs.lemmas.Iterator.Adapters.{position_from-zero}
use Rattle.laws.specs.Tests.{within, within_test, within_below}
use Rattle.meaning.specs.Run.{number_of, place_of}

-- Place 0 names no connection.
pub none_zero : (numbers : List ℕ) (place : ℕ) → place < 1 → 0 ≡ number_of numbers place
unfolding number_of
none_zero numbers place h = rw (within_below 1 place (length numbers) h) refl

-- Any other place has the number that stands there, 0 past the last.
pub number_there : (numbers : List ℕ) (place i : ℕ) → place ≡ i + 1 → get_or numbers i 0 ≡ number_of numbers place
unfolding number_of
number_there numbers place i e =
    let at : i ≡ place - 1 = omega arith in
    ap (λ k. get_or numbers k 0) at ∙ ⊎_elim inside past (cases_lt i (length numbers))
  where
    inside : i < length numbers → get_or numbers (place - 1) 0 ≡ cond (within 1 place (length numbers)) (get_or numbers (place - 1) 0) 0
    inside h = rw (within_test 1 place (length numbers) (omega arith) (omega arith)) refl

    past : length numbers ≤ i → get_or numbers (place - 1) 0 ≡ cond (within 1 place (length numbers)) (get_or numbers (place - 1) 0) 0
    past h = by (within 1 place (length numbers)) (get_or_past numbers (place - 1) 0 (omega arith))
      where
        by : (b : Bool) → get_or numbers (place - 1) 0 ≡ 0 → get_or numbers (place - 1) 0 ≡ cond b (get_or numbers (place - 1) 0) 0
        by true f = refl
        by false f = f

-- A number has the place behind that of the first that equals it, counted from 0, or 0 where none does.
place_from :
    (numbers : List ℕ) (n i : ℕ) →
    unwrap_or (option_map (λ k. k + 1) (position_from (λ m. nat_eq m n) i numbers)) 0 ≡ place_of (i + 1) numbers n
unfolding place_of
place_from [] n i = refl
place_from (m ∷ numbers) n i = by (eqb m n) (place_from numbers n (i + 1))
  where
    by : (b : Bool) →
        unwrap_or (option_map (λ k. k + 1) (position_from (λ m. nat_eq m n) (i + 1) numbers)) 0 ≡ place_of (i + 1 + 1) numbers n →
        unwrap_or (option_map (λ k. k + 1) (cond b (Some i) (position_from (λ m. nat_eq m n) (i + 1) numbers))) 0 ≡
        cond b (i + 1) (place_of (suc (i + 1)) numbers n)
    by true e = refl
    by false e = e ∙ ap (λ k. place_of k numbers n) (add-one (i + 1))

-- So the place is told by the first position of the number.
pub place_is :
    (numbers : List ℕ) (n : ℕ) (r : Option ℕ) → r ≡ position (λ m. nat_eq m n) numbers →
    unwrap_or (option_map (λ k. k + 1) r) 0 ≡ place_of 1 numbers n
place_is numbers n r e =
    ap (λ o. unwrap_or (option_map (λ k. k + 1) o) 0) (e ∙ position_from-zero (λ m. nat_eq m n) numbers) ∙ place_from numbers n 0
