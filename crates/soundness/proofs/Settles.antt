-- "answers satisfying one promise are proved the same": two results that satisfy the promise of `is_sound` at the same entry are the same.
use Prim.Native.Nat.{ℕ}
use mathlib.Core.Path.{◌≡◌, sym, ◌∙◌}
use mathlib.Core.Bool.{Bool}
use mathlib.Core.List.{List}
use Rattle.words.specs.Sound.{SoundPromise}

-- `soundness::testing::is_sound`, which is lent its words to read only.
pub is_sound_settles : (entry : List ℕ) (r s : Bool) → SoundPromise entry r → SoundPromise entry s → r ≡ s
is_sound_settles entry r s p q = p ∙ sym q
