-- Words that move four places within the words.
use Rattle.std.proofs.Common.{◌≡◌, ℕ, ◌+◌, ◌-◌, ◌<◌, ◌≤◌, ◌∙◌, ap, List, length, arith}
use Rattle.std.specs.List.{CopiedTo, SameBelow, SameFrom}
use Rattle.words.specs.Places.{word}

-- Words from `from` on have moved four places up, as far as `to`; what lies between stays open.
pub record MovedUp (ws after : List ℕ) (from to : ℕ) : Type 0 where
  pub same_length : length after ≡ length ws
  pub below : (i : ℕ) → i < from → word after i ≡ word ws i
  pub moved : (i : ℕ) → from ≤ i → i < to → word after (i + 4) ≡ word ws i
  pub above : (i : ℕ) → to + 4 ≤ i → word after i ≡ word ws i

-- Words before `to` have moved four places down, as far as `from`.
pub record MovedDown (ws after : List ℕ) (from to : ℕ) : Type 0 where
  pub same_length : length after ≡ length ws
  pub below : (i : ℕ) → i < from → word after i ≡ word ws i
  pub moved : (i : ℕ) → from ≤ i → i + 4 < to → word after i ≡ word ws (i + 4)
  pub above : (i : ℕ) → from ≤ i → to ≤ i + 4 → word after i ≡ word ws i

-- Words copied four places up have moved up.
pub moved_up : (ws after : List ℕ) (from to : ℕ) → from ≤ to → length after ≡ length ws
    → CopiedTo ws after from (from + 4) (to - from) × SameBelow ws after (from + 4) × SameFrom ws after (from + 4 + (to - from))
    → MovedUp ws after from to
moved_up ws after from to h l c =
    record {
      same_length = l;
      below = λ i b. c.1 i 0 (omega arith);
      moved = λ i a b. c.0 (i + 4) 0 (omega arith) (omega arith) ∙ (let e : from + (i + 4 - (from + 4)) ≡ i = omega arith in ap (word ws) e);
      above = λ i a. c.2 i 0 (omega arith);
    }

-- Words copied four places down have moved down.
pub moved_down : (ws after : List ℕ) (from to : ℕ) → from + 4 ≤ to → length after ≡ length ws
    → CopiedTo ws after (from + 4) from (to - (from + 4)) × SameBelow ws after from × SameFrom ws after (from + (to - (from + 4)))
    → MovedDown ws after from to
moved_down ws after from to h l c =
    record {
      same_length = l;
      below = λ i b. c.1 i 0 b;
      moved = λ i a b. c.0 i 0 a (omega arith) ∙ (let e : from + 4 + (i - from) ≡ i + 4 = omega arith in ap (word ws) e);
      above = λ i a b. c.2 i 0 (omega arith);
    }
