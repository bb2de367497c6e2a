-- The text of a run is never longer than `text_most` bytes, so a buffer of that size holds the text of every plan.
use Prim.Native.Nat.{ℕ, zero, suc, ◌*◌, ◌/◌, ◌%◌, ◌^◌, ◌≤◌, ◌<◌}
use mathlib.Core.Path.{refl}
use mathlib.Core.List.{List, [], ◌∷◌, map, flatten, Memᴰ}
use native.Mathlib.Decide.{dec_lt}
use native.Mathlib.Omega.{arith}
use lib.ListN.{length, length-append}
use Rattle.meaning.specs.Lines.{ascii, digit, decimal, numbers_text, line_of, line_text, text_of}
use Rattle.meaning.proofs.Decimal.{decimal_small, decimal_large}
use Rattle.meaning.specs.declared.Line.{Line}

-- A number below ten to the k has at most k digits.
digits_most : (k n : ℕ) → n < 10 ^ suc k → length (decimal n) ≤ suc k
digits_most zero n h = rw (decimal_small n (omega arith)) (omega arith)
digits_most (suc k) n h =
    elim (dec_lt n 10) [
      | yes l ↦ rw (decimal_small n l) (omega arith)
      | no m ↦
          let t : n / 10 < 10 ^ suc k = omega arith in
          let i = digits_most k (n / 10) t in
          rw (decimal_large n (omega arith), length-append (decimal (n / 10)) (digit (n % 10) ∷ [])) (omega arith)
    ]

-- A number that is printed: below 10,000,000,000.
abbrev pub Printed : ℕ → Type 0
Printed n = n < 10000000000

-- A printed number has at most ten digits.
printed_most : (n : ℕ) → Printed n → length (decimal n) ≤ 10
printed_most n h = digits_most 9 n h

-- A line whose numbers are printed numbers.
abbrev pub PrintedLine : Line → Type 0
PrintedLine (Line.Admit a b c) = Printed a × Printed b × Printed c
PrintedLine (Line.Offer a b c) = Printed a × Printed b × Printed c
PrintedLine (Line.Depart a b c d) = Printed a × Printed b × Printed c × Printed d
PrintedLine (Line.End a b c) = Printed a × Printed b × Printed c
PrintedLine (Line.Refused a) = Printed a
PrintedLine (Line.Stop a) = Printed a

-- A line whose numbers are printed numbers has at most 51 bytes.
line_most : (l : Line) → PrintedLine l → length (line_text l) ≤ 51
unfolding line_text line_of numbers_text ascii
line_most (Line.Admit a b c) p = simp length-append (omega (arith, printed_most a p.0, printed_most b p.1, printed_most c p.2))
line_most (Line.Offer a b c) p = simp length-append (omega (arith, printed_most a p.0, printed_most b p.1, printed_most c p.2))
line_most (Line.Depart a b c d) p =
    simp length-append (omega (arith, printed_most a p.0, printed_most b p.1, printed_most c p.2, printed_most d p.3))
line_most (Line.End a b c) p = simp length-append (omega (arith, printed_most a p.0, printed_most b p.1, printed_most c p.2))
line_most (Line.Refused a) p = simp length-append (omega (arith, printed_most a p))
line_most (Line.Stop a) p = simp length-append (omega (arith, printed_most a p))

-- Lines whose numbers are printed numbers.
abbrev pub AllPrinted : List Line → Type 0
AllPrinted ls = (l : Line) → Memᴰ l ls → PrintedLine l

-- They have at most 51 bytes each.
pub text_most_lem : (ls : List Line) → AllPrinted ls → length (text_of ls) ≤ 51 * length ls
unfolding text_of flatten
text_most_lem [] p = omega arith
text_most_lem (l ∷ ls) p =
    let a = line_most l (p l (Memᴰ.head refl)) in
    let b = text_most_lem ls (λ k m. p k (Memᴰ.tail m)) in
    rw (length-append (line_text l) (flatten (map line_text ls))) (omega arith)
