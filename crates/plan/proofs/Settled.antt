-- Answers that satisfy one promise are the same, for each public function.
use Rattle.std.proofs.Common.{◌≡◌, ℕ, ◌+◌, ◌%◌, ◌^◌, Bool, List, map, sym, ◌∙◌, Result}
use Rattle.laws.specs.Sums.{sum_of}
use Rattle.meaning.specs.declared.Table.{Table}
use Rattle.meaning.specs.Plan.{counts_allowed, words_of, factor_at, connection_at, arrival_at, slots_wrong, reading_answer}
use Rattle.meaning.specs.declared.Connection.{Connection}
use Rattle.meaning.specs.declared.Arrival.{Arrival}
use Rattle.plan.specs.Parts.{part_of, arrivals_in, arrivals_of_words, boundary, stretch_of}
use Rattle.meaning.specs.declared.Refusal.{Refusal}
use Rattle.meaning.specs.declared.Header.{Header}

-- Two answers that equal one thing are the same.
one : {A : Type 0} {a b c : A} → a ≡ c → b ≡ c → a ≡ b
one p q = p ∙ sym q

-- Two answers of `read` on the same bytes are the same.
pub read_settled : (bytes : List ℕ) (r s : Result Header Refusal) → r ≡ reading_answer bytes → s ≡ reading_answer bytes → r ≡ s
read_settled bytes r s = one

-- Two answers of `counts_allowed` are the same.
pub counts_settled :
    (classes connections arrivals : ℕ) (r s : Bool) → r ≡ counts_allowed classes connections arrivals →
    s ≡ counts_allowed classes connections arrivals → r ≡ s
counts_settled classes connections arrivals r s = one

-- Two answers of `classes`, of `connections` or of `arrivals` are the same.
pub part_settled : (bytes : List ℕ) (t : Table) (width : ℕ) (r s : List ℕ) → r ≡ part_of bytes t width → s ≡ part_of bytes t width → r ≡ s
part_settled bytes t width r s = one

-- Two answers of `factor` are the same.
pub factor_settled : (bytes : List ℕ) (i r s : ℕ) → r ≡ factor_at (words_of bytes) i → s ≡ factor_at (words_of bytes) i → r ≡ s
factor_settled bytes i r s = one

-- Two answers of `connection` are the same.
pub connection_settled :
    (bytes : List ℕ) (i : ℕ) (r s : Connection) → r ≡ connection_at (words_of bytes) i → s ≡ connection_at (words_of bytes) i → r ≡ s
connection_settled bytes i r s = one

-- Two answers of `arrival` are the same.
pub arrival_settled :
    (bytes : List ℕ) (i : ℕ) (r s : Arrival) → r ≡ arrival_at (words_of bytes) i → s ≡ arrival_at (words_of bytes) i → r ≡ s
arrival_settled bytes i r s = one

-- Two answers of `first_from` are the same.
pub first_from_settled :
    (bytes : List ℕ) (from limit r s : ℕ) → r ≡ boundary (arrivals_in bytes) from limit → s ≡ boundary (arrivals_in bytes) from limit → r ≡ s
first_from_settled bytes from limit r s = one

-- Two answers of `stretch` are the same.
pub stretch_settled :
    (bytes : List ℕ) (from slot : ℕ) (r s : List ℕ) → r ≡ stretch_of bytes from slot → s ≡ stretch_of bytes from slot → r ≡ s
stretch_settled bytes from slot r s = one

-- Two answers of `slots_wrong` are the same.
pub slots_settled :
    {W : Type 0} (value : W → ℕ) (ws : List W) (r s : Bool) → r ≡ slots_wrong (arrivals_of_words (map value ws)) →
    s ≡ slots_wrong (arrivals_of_words (map value ws)) → r ≡ s
slots_settled value ws r s = one

-- Two answers of `sum` are the same.
pub sum_settled :
    {W : Type 0} (value : W → ℕ) (first : ℕ) (ws : List W) (r s : ℕ) → r ≡ (first + sum_of value ws) % 2 ^ 32 →
    s ≡ (first + sum_of value ws) % 2 ^ 32 → r ≡ s
sum_settled value first ws r s = one
