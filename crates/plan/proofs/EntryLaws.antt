-- Laws on entries that depend on their own words alone: the same words give the same table; a table without its first entries.
use Rattle.std.proofs.Common.{◌≡◌, ℕ, zero, suc, ◌+◌, ◌-◌, ◌*◌, ◌<◌, List, ◌∷◌, get_or, drop, refl, ap, ◌∙◌, ap₂, mul-zero, mul-suc, arith}
use Rattle.meaning.specs.Plan.{table, words_of, factor_at, connection_at, arrival_at}
use Rattle.plan.proofs.WordLaws.{word_of_rest}

-- An entry that depends on its own words alone.
abbrev pub Local : {A : Type 0} → (List ℕ → ℕ → A) → ℕ → Type 0
Local entry width =
    (ws vs : List ℕ) (i j : ℕ) → ((k : ℕ) → k < width → get_or ws (i + k) 0 ≡ get_or vs (j + k) 0) → entry ws i ≡ entry vs j

-- Entries whose first words are the same, counted from their own places, have the same word there.
first_word : (ws vs : List ℕ) (i j : ℕ) → get_or ws (i + 0) 0 ≡ get_or vs (j + 0) 0 → get_or ws i 0 ≡ get_or vs j 0
first_word ws vs i j e = ap (λ k. get_or ws k 0) (omega arith) ∙ e ∙ ap (λ k. get_or vs k 0) (omega arith)

-- A factor depends on its one word.
pub factor_local : Local factor_at 1
unfolding factor_at
factor_local ws vs i j e = first_word ws vs i j (e 0 (omega arith))

-- A connection depends on its four words.
pub connection_local : Local connection_at 4
unfolding connection_at
connection_local ws vs i j e =
    rw (first_word ws vs i j (e 0 (omega arith)), e 1 (omega arith), e 2 (omega arith), e 3 (omega arith))

-- An arrival depends on its three words.
pub arrival_local : Local arrival_at 3
unfolding arrival_at
arrival_local ws vs i j e = rw (first_word ws vs i j (e 0 (omega arith)), e 1 (omega arith), e 2 (omega arith))

module _ {A : Type 0} (entry : List ℕ → ℕ → A) (width : ℕ) where
  -- The same words give the same table.
  pub table_same :
      Local entry width →
      (ws vs : List ℕ) (i j n : ℕ) → ((k : ℕ) → k < width * n → get_or ws (i + k) 0 ≡ get_or vs (j + k) 0) → table entry width ws i n ≡
      table entry width vs j n
  unfolding table
  table_same own ws vs i j zero e = refl
  table_same own ws vs i j (suc n) e =
      ap₂ ◌∷◌ (own ws vs i j (λ k h. e k (omega (arith, mul-suc width n))))
      (table_same own ws vs (i + width) (j + width) n (λ k h.
      ap (λ m. get_or ws m 0) (omega arith) ∙
      e (width + k) (omega (arith, mul-suc width n)) ∙
      ap (λ m. get_or vs m 0) (omega arith)))

  -- The first entry of the rest is the entry of the whole at the word where the rest starts.
  pub entry_of_rest : Local entry width → (bytes : List ℕ) (a : ℕ) → entry (words_of (drop (4 * a) bytes)) 0 ≡ entry (words_of bytes) a
  entry_of_rest own bytes a =
      own (words_of (drop (4 * a) bytes)) (words_of bytes) 0 a (λ k h.
      ap (λ m. get_or (words_of (drop (4 * a) bytes)) m 0) (omega arith) ∙ word_of_rest bytes a k)

  -- A table without its first m entries starts m entries further on.
  pub drop_table : (ws : List ℕ) (i n m : ℕ) → drop m (table entry width ws i n) ≡ table entry width ws (i + width * m) (n - m)
  unfolding table
  drop_table ws i n zero =
      let at : i ≡ i + width * 0 = omega (arith, mul-zero width) in
      let all : n ≡ n - 0 = omega arith in
      ap₂ (table entry width ws) at all
  drop_table ws i zero (suc m) =
      let none : 0 ≡ 0 - suc m = omega arith in
      ap (table entry width ws (i + width * suc m)) none
  drop_table ws i (suc n) (suc m) =
      let at : i + width + width * m ≡ i + width * suc m = omega (arith, mul-suc width m) in
      let left : n - m ≡ suc n - suc m = omega arith in
      drop_table ws (i + width) n m ∙ ap₂ (table entry width ws) at left
