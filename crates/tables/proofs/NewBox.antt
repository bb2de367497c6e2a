-- The words of a new box: the settings, then zeros.
use Prim.Native.Nat.{ℕ, zero, suc, ◌+◌, ◌*◌, ◌-◌, ◌≤◌}
use mathlib.Core.Path.{◌≡◌, refl, sym, ap, ◌∙◌}
use mathlib.Core.List.{List, [], ◌∷◌, ◌++◌, map, flatten, append_assoc, append-nil}
use native.Mathlib.Omega.{arith}
use lib.ListN.{length, get_or, drop, set, replicate, length-append, length-replicate, replicate-append-replicate}
use lib.Seq.{drop-append-le, drop-drop}
use Rattle.std.proofs.lemmas.List.{drop-replicate}
use Rattle.laws.specs.Series.{series, series_same, append_same}
use Rattle.meaning.specs.Numbers.{Settings, largest_factor}
use Rattle.meaning.specs.Queues.{empty_queues}
use Rattle.meaning.specs.declared.Packet.{Packet}
use Rattle.meaning.specs.Calls.{new_box}
use Rattle.words.specs.Places.{tag_of, interval_at, cycle_at, classes_at, factors_at, row_count_at, packets_at}
use Rattle.words.specs.Contents.{padded, packet_words, link_words, turns_of, by_place, laid, tables, image, put}
use Rattle.words.proofs.Laid.{total, Empty, laid_zeros}
use Rattle.tables.specs.Opening.{asked, factors_put}

-- Among empty queues every queue is empty, at any place.
get_d_empty : (n k : ℕ) → get_or (replicate {A = List Packet} n []) k [] ≡ []
get_d_empty zero k = refl
get_d_empty (suc n) zero = refl
get_d_empty (suc n) (suc k) = get_d_empty n k

-- At every place of a new box the queue is empty.
places_new : (opening : Settings) → by_place (new_box opening) ≡ series (λ _. []) 1 0 64
unfolding by_place new_box empty_queues
places_new opening =
    (let n = suc (largest_factor opening) in
    let q : List (List Packet) = replicate n [] in
    series_same (λ p. get_or q (tag_of (turns_of (new_box opening)) p) []) (λ _. []) 1 0 0 64
    (λ i h. get_d_empty n (tag_of (turns_of (new_box opening)) (0 + 1 * i))))

-- The lengths of 64 empty queues are 64 zeros.
no_lengths : map (length {A = Packet}) (series (λ _. []) 1 0 64) ≡ replicate 64 0
unfolding series
no_lengths = refl

-- Empty queues take no words.
no_words : flatten (map packet_words (flatten (series (λ _. []) 1 0 64))) ≡ []
unfolding series flatten
no_words = refl

-- A new box has 64 lengths, all 0.
lengths_new : (opening : Settings) → map length (by_place (new_box opening)) ≡ replicate 64 0
lengths_new opening = ap (map length) (places_new opening) ∙ no_lengths

-- The tables of a new box after those of the settings hold zeros alone.
empty_tables : (opening : Settings) → Empty (drop 2 (tables (new_box opening)))
unfolding Empty tables new_box link_words flatten
empty_tables opening =
    (let a = lengths_new opening in
    let n : length (map length (by_place (new_box opening))) ≡ 64 = ap length a ∙ length-replicate {A = ℕ} 64 0 in (
      (refl, omega arith),
      (
        (refl, omega arith),
        ((refl, omega arith), ((refl, omega arith), ((a ∙ ap (λ m. replicate m 0) (sym n), omega arith), tt))),
      ),
    ))

-- They take the words from the number of rows on.
zeros_new : (opening : Settings) → laid (drop 2 (tables (new_box opening))) ≡ replicate (packets_at - row_count_at) 0
unfolding tables total
zeros_new opening = laid_zeros (drop 2 (tables (new_box opening))) (empty_tables opening)

-- The factors, the zeros of their table and those of the later tables.
factors_filled : (fs : List ℕ) → length fs ≤ 8
    → padded (row_count_at - factors_at) fs ++ replicate (packets_at - row_count_at) 0 ≡ fs ++ replicate (packets_at - factors_at - length fs) 0
unfolding padded
factors_filled fs h =
    (let k = row_count_at - factors_at - length fs in
    let e : k + (packets_at - row_count_at) ≡ packets_at - factors_at - length fs = omega arith in
    append_assoc fs (replicate k 0) (replicate (packets_at - row_count_at) 0) ∙
    ap (λ l. fs ++ l) (replicate-append-replicate {A = ℕ} k (packets_at - row_count_at) 0 ∙ ap (λ n. replicate n 0) e))

-- A new box has no packets.
packets_new : (opening : Settings) → flatten (map packet_words (flatten (by_place (new_box opening)))) ≡ []
packets_new opening = ap (λ qs. flatten (map packet_words (flatten qs))) (places_new opening) ∙ no_words

-- The first two tables of a new box, and the later ones.
tables_new : (D M : ℕ) (fs : List ℕ)
    → laid (tables (new_box (asked D M fs)))
    ≡ (D ∷ M ∷ length fs ∷ []) ++ (padded (row_count_at - factors_at) fs ++ laid (drop 2 (tables (new_box (asked D M fs)))))
unfolding laid tables new_box padded
tables_new D M fs = refl

-- The words of a new box are its settings, then zeros.
image_new : (D M : ℕ) (fs : List ℕ) → length fs ≤ 8
    → image (new_box (asked D M fs)) ≡ (D ∷ M ∷ length fs ∷ []) ++ (fs ++ replicate (packets_at - factors_at - length fs) 0)
unfolding image
image_new D M fs h =
    (let opening = asked D M fs in
    ap (λ p. laid (tables (new_box opening)) ++ p) (packets_new opening) ∙ append-nil (laid (tables (new_box opening))) ∙ tables_new D M fs ∙
    ap (λ l. D ∷ M ∷ length fs ∷ l) (ap (λ l. padded (row_count_at - factors_at) fs ++ l) (zeros_new opening) ∙ factors_filled fs h))

-- What opening writes is a new box put into the words: the settings over zeros, and the factors after them.
pub opening_writes : (D M : ℕ) (fs ws cleared : List ℕ) → length fs ≤ 8 → cleared ≡ replicate packets_at 0
    → factors_put fs (set (set (set (cleared ++ drop packets_at ws) interval_at D) cycle_at M) classes_at (length fs))
    ≡ put (new_box (asked D M fs)) ws
unfolding put
opening_writes D M fs ws cleared h e =
    (let k = length fs in
    let R = drop packets_at ws in
    let z : List ℕ = replicate (packets_at - factors_at) 0 in
    let d : drop (factors_at + k) (D ∷ M ∷ k ∷ (z ++ R)) ≡ replicate (packets_at - factors_at - k) 0 ++ R =
    sym (drop-drop k factors_at (D ∷ M ∷ k ∷ (z ++ R))) ∙
    drop-append-le k z R (rw (length-replicate {A = ℕ} (packets_at - factors_at) 0) (omega arith)) ∙
    ap (λ t. t ++ R) (drop-replicate k (packets_at - factors_at) 0) in
    let i = image_new D M fs h in
    let size : length (image (new_box (asked D M fs))) ≡ packets_at =
    rw (i, length-append fs (replicate (packets_at - factors_at - k) 0), length-replicate {A = ℕ} (packets_at - factors_at - k) 0)
    (omega arith) in
    rw e (ap (λ t. (D ∷ M ∷ k ∷ []) ++ fs ++ t) d ∙ append_assoc (D ∷ M ∷ k ∷ []) fs (replicate (packets_at - factors_at - k) 0 ++ R) ∙
    ap (λ t. (D ∷ M ∷ k ∷ []) ++ t) (sym (append_assoc fs (replicate (packets_at - factors_at - k) 0) R)) ∙
    append_same (sym i) (ap (λ m. drop m ws) (sym size))))
