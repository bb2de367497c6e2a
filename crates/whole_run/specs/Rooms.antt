-- Room that a program lends.
use Rattle.std.specs.Prelude.{ℕ, ◌<◌, ◌≡◌, List, length, slice_index_or}

-- So many zeros, each a default of its type, told element by element: no proof that lends them computes the list.
pub record Zeros {A : Type 0} (is_default : A → Type 0) (n : ℕ) (l : List A) : Type 0 where
  pub size : n ≡ length l
  pub each : (i : ℕ) (d : A) → i < n → is_default (slice_index_or l i d)
