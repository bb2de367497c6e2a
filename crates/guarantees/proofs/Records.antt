-- The allowance records after a call: an accepted packet charges its own connection's, a newcomer's is fresh, and all others stay.
use Prim.Native.Nat.{ℕ, suc, ◌-◌, ◌≤◌}
use mathlib.Core.Path.{◌≡◌}
use mathlib.Core.List.{[], ◌∷◌, ◌++◌, map, map-append}
use lib.ListN.{length, length-map, get_or-append}
use lib.Seq.{get_or-set_same, get_or-set_other}
use native.Mathlib.Omega.{arith}
use Rattle.laws.specs.Places.{map_set, last_at}
use Rattle.meaning.specs.Envelope.{full, charged}
use Rattle.meaning.specs.declared.Standing.{Standing}
use Rattle.meaning.specs.Box.{Box, connections, connection, no_connection}
use Rattle.meaning.specs.Calls.{with_standing, allowance, after_offer, charged_at}
use Rattle.guarantees.proofs.Moves.{accepting}

-- The allowance of the connection that an accepted packet charges, and of the others.
pub charged_mine : (box : Box) (n units : ℕ) → 1 ≤ n → n ≤ length box.standing →
    allowance (accepting box n units) n ≡ charged (connection box n) (allowance box n) box.counter
unfolding allowance after_offer charged_at
charged_mine box n units h l =
    rw (map_set (λ (s : Standing). s.allowance) box.standing (n - 1) _)
    (get_or-set_same (map (λ (s : Standing). s.allowance) box.standing) (n - 1) _ (full no_connection) (rw length-map (omega arith)))

-- The records of the others stay.
pub charged_other : (box : Box) (n units j : ℕ) → 1 ≤ n → 1 ≤ j → (n ≡ j → ⊥) →
    allowance (accepting box n units) j ≡ allowance box j
unfolding allowance after_offer charged_at
charged_other box n units j h k ne =
    rw (map_set (λ (s : Standing). s.allowance) box.standing (n - 1) _)
    (get_or-set_other (map (λ (s : Standing). s.allowance) box.standing) (n - 1) (j - 1) _ (full no_connection) (λ e. ne (omega arith)))

-- The allowances that stand are not changed by one who joins; the newcomer's is fresh.
pub joined_other : (box : Box) (row : Standing) (j : ℕ) → 1 ≤ j → j ≤ length box.standing →
    allowance (with_standing box (box.standing ++ (row ∷ []))) j ≡ allowance box j
unfolding allowance with_standing
joined_other box row j h l =
    rw map-append (get_or-append (map (λ (s : Standing). s.allowance) box.standing) (row.allowance ∷ []) (full no_connection) (j - 1)
    (rw length-map (omega arith)))

-- The newcomer's record is fresh.
pub joined_allowance : (box : Box) (row : Standing)
    → allowance (with_standing box (box.standing ++ (row ∷ []))) (suc (length box.standing)) ≡ row.allowance
unfolding allowance with_standing
joined_allowance box row =
    let e : suc (length box.standing) - 1 ≡ length (map (λ (s : Standing). s.allowance) box.standing) =
    rw length-map (omega arith) in
    rw (map-append, e) (last_at (map (λ (s : Standing). s.allowance) box.standing) row.allowance (full no_connection))

-- The newcomer's contract is what it asked for.
pub joined_connection : (box : Box) (row : Standing)
    → connection (with_standing box (box.standing ++ (row ∷ []))) (suc (length box.standing)) ≡ row.asked
unfolding connection connections with_standing
joined_connection box row =
    let e : suc (length box.standing) - 1 ≡ length (map (λ (s : Standing). s.asked) box.standing) = rw length-map (omega arith) in
    rw (map-append, e) (last_at (map (λ (s : Standing). s.asked) box.standing) row.asked no_connection)
