-- The lengths of the queues, as the sum of a stretch of words.
use Rattle.std.proofs.Common.{◌≡◌, ◌<◌, ◌≤◌, ◌+◌, ◌*◌, ℕ, zero, suc, List, length, take, drop, get_or, sum, Fits, w32, refl, arith, add-one, length-drop, get_or-drop}
use Rattle.std.proofs.lemmas.List.Sums.{sum_by_more}
use Rattle.words.specs.Places.{lengths_below, lengths_at}

-- The lengths of the queues at the places below p are the sum of their words.
pub lengths_sum : (ws : List ℕ) (p : ℕ) → lengths_at + p ≤ length ws → sum (take p (drop lengths_at ws)) ≡ lengths_below ws p
unfolding lengths_below
lengths_sum ws zero h = refl
lengths_sum ws (suc p) h =
    let within : p < length (drop lengths_at ws) = rw (length-drop lengths_at ws) (omega arith) in
    rw (← (add-one p), sum_by_more (λ x. x) (drop lengths_at ws) p 0 within, lengths_sum ws p (omega arith), get_or-drop lengths_at ws p 0)

-- Each length is a word, so that those below p sum to at most p times 2^32.
pub lengths_bound : (ws : List ℕ) (p : ℕ) → ((i : ℕ) → Fits w32 (get_or ws i 0)) → lengths_below ws p ≤ p * 4294967296
unfolding lengths_below
lengths_bound ws zero h = omega arith
lengths_bound ws (suc p) h = omega (arith, lengths_bound ws p h, (h (lengths_at + p)).fits)
