-- Fields that fit words: those of an answer that are counted in bytes or entries are no words yet.
use Rattle.std.specs.Prelude.{ℕ, ◌^◌, ◌<◌, List, get_or}

-- Each of these fields fits the word that it is written into.
pub record FitWords (fields : List ℕ) : Type 0 where
  pub fits : (i : ℕ) → get_or fields i 0 < 2 ^ 32
