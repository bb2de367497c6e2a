-- Places and tags of the queues: each is the other's inverse, and a turn moves no place.
use Prim.Native.Nat.{ℕ, suc, ◌+◌, ◌*◌, ◌-◌, ◌/◌, ◌%◌, ◌<◌}
use mathlib.Core.Path.{◌≡◌, ap, ◌∙◌}
use native.Mathlib.Omega.{arith}
use native.Mathlib.Nat.{mod-lt, mod-eq_of_lt, mod-add-mod, add-mod-mod, add-mod_right, add-mul-mod_self_right, div-add-mod'}
use Rattle.words.specs.Places.{place_of, tag_of}

-- A place is below 64.
pub place_below : (turns k : ℕ) → place_of turns k < 64
unfolding place_of
place_below turns k = mod-lt (turns + k) (omega arith)

-- The number of a place's tag is below 64.
pub tag_below : (turns p : ℕ) → tag_of turns p < 64
unfolding tag_of
tag_below turns p = mod-lt (p + (64 - turns % 64)) (omega arith)

-- The turns and what they lack of the next multiple of 64 add a whole multiple of 64.
whole : (turns k : ℕ) → turns + k + (64 - turns % 64) ≡ k + (turns / 64 + 1) * 64
whole turns k =
    (let e : turns / 64 * 64 + turns % 64 ≡ turns = div-add-mod' turns 64 in
    let l : turns % 64 < 64 = mod-lt turns (omega arith) in
    omega arith)

-- The place of a tag has that tag.
pub tag_of_place : (turns k : ℕ) → k < 64 → tag_of turns (place_of turns k) ≡ k
unfolding place_of tag_of
tag_of_place turns k h =
    mod-add-mod (turns + k) 64 (64 - turns % 64) ∙ ap (λ n. n % 64) (whole turns k) ∙ add-mul-mod_self_right k (turns / 64 + 1) 64 ∙
    mod-eq_of_lt h

-- The tag of a place has that place.
pub place_of_tag : (turns p : ℕ) → p < 64 → place_of turns (tag_of turns p) ≡ p
unfolding place_of tag_of
place_of_tag turns p h =
    (let e : turns + (p + (64 - turns % 64)) ≡ turns + p + (64 - turns % 64) = omega arith in
    add-mod-mod turns (p + (64 - turns % 64)) 64 ∙ ap (λ n. n % 64) (e ∙ whole turns p) ∙
    add-mul-mod_self_right p (turns / 64 + 1) 64 ∙ mod-eq_of_lt h)

-- At a turn every tag falls by one and no place moves.
pub place_turned : (turns k : ℕ) → place_of (suc turns) k ≡ place_of turns (suc k)
unfolding place_of
place_turned turns k = (let e : suc turns + k ≡ turns + suc k = omega arith in ap (λ n. n % 64) e)

-- After 64 tags the places come round.
pub place_whole : (turns : ℕ) → place_of turns 64 ≡ place_of turns 0
unfolding place_of
place_whole turns = (let e : turns ≡ turns + 0 = omega arith in add-mod_right turns 64 ∙ ap (λ n. n % 64) e)
