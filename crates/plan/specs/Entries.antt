-- Tables of entries: their length, an entry by its number, and the first entries of a table.
use Rattle.std.specs.Prelude.{◌≡◌, ℕ, zero, suc, ◌+◌, ◌*◌, ◌<◌, ◌≤◌, List, ◌∷◌, length, take, slice_index_or}
use Rattle.std.proofs.Math.Path.{refl, ap}
use Rattle.std.proofs.Common.{◌∙◌, arith, not-suc-le-zero}
use Rattle.std.proofs.Math.Nat.{mul-suc}
use Rattle.meaning.specs.Plan.{table}

module _ {A : Type 0} (entry : List ℕ → ℕ → A) (width : ℕ) where
  -- A table has as many entries as it is read with.
  pub length_table : (ws : List ℕ) (i n : ℕ) → length (table entry width ws i n) ≡ n
  unfolding table
  length_table ws i zero = refl
  length_table ws i (suc n) = ap suc (length_table ws (i + width) n)

  -- An entry by its number stands so many widths behind the start of the table.
  pub get_or_table : (ws : List ℕ) (i n k : ℕ) (d : A) → k < n → slice_index_or (table entry width ws i n) k d ≡ entry ws (i + width * k)
  unfolding table
  get_or_table ws i zero k d h = absurd (not-suc-le-zero h)
  get_or_table ws i (suc n) zero d h = ap (entry ws) (omega arith)
  get_or_table ws i (suc n) (suc k) d h =
      get_or_table ws (i + width) n k d (omega arith) ∙ ap (entry ws) (omega (arith, mul-suc width k))

  -- The first entries of a table are the table of so many entries.
  pub take_table : (ws : List ℕ) (i n m : ℕ) → m ≤ n → take m (table entry width ws i n) ≡ table entry width ws i m
  unfolding table
  take_table ws i n zero h = refl
  take_table ws i zero (suc m) h = absurd (not-suc-le-zero h)
  take_table ws i (suc n) (suc m) h = ap (λ l. entry ws i ∷ l) (take_table ws (i + width) n m (omega arith))
