-- Well-formed words are those that their own contents put: `put_contents`.
use Prim.Native.Nat.{ℕ, zero, suc, ◌+◌, ◌*◌, ◌-◌, ◌≤◌, ◌<◌}
use mathlib.Core.Path.{◌≡◌, refl, sym, ap, ◌∙◌}
use mathlib.Core.Bool.{true, cond}
use mathlib.Core.List.{List, [], ◌∷◌, ◌++◌, map, flatten, append-nil}
use native.Mathlib.Omega.{arith}
use native.Mathlib.Decide.{dec_le}
use lib.ListN.{length, get_or, drop, replicate, take-append-drop, get_or-replicate, get_or-eq_default}
use borrow.Author.Tests.{eq-eqb}
use Rattle.laws.specs.Series.{series, length_series, get_or_series, series_append, series_last, series_same, series_take, series_zeros, map_series, map-append, flatten_append, chunks_words, append_same}
use Rattle.meaning.specs.Numbers.{largest_factor}
use Rattle.meaning.specs.declared.Packet.{Packet}
use Rattle.meaning.specs.Box.{Box}
use Rattle.words.specs.Places.{word, start_of, lengths_below, place_of, tag_of, interval_at, cycle_at, classes_at, factors_at, row_count_at, rows_at, counter_at, accepted_at, left_at, link_at, lengths_at, packets_at}
use Rattle.words.specs.Contents.{contents, settings_at, standing_at, standings, packet_at, link_of, turns_at, queue_at, queues_at, padded, standing_words, packet_words, link_words, turns_of, by_place, tables, image, put}
use Rattle.words.specs.Sound.{zeros, link_clear, empty_from, untagged_empty, Fitting}
use Rattle.words.proofs.Laid.{padded_series, Reads, laid_series}
use Rattle.words.proofs.ContentsPut.{tables_total}
use Rattle.words.proofs.Rotation.{tag_below, place_of_tag}

-- The words of the row that is read at a word are the six words from there.
pub standing_words_lem : (ws : List ℕ) (i : ℕ) → standing_words (standing_at ws i) ≡ series (λ j. word ws j) 1 i 6
unfolding standing_words standing_at series
standing_words_lem ws i =
    (let a : i + 1 + 1 ≡ i + 2 = omega arith in
    let b : i + 2 + 1 ≡ i + 3 = omega arith in
    let c : i + 3 + 1 ≡ i + 4 = omega arith in
    let d : i + 4 + 1 ≡ i + 5 = omega arith in
    rw (a, b, c, d))

-- The words of the packet that is read at a word are the four words from there.
pub packet_words_lem : (ws : List ℕ) (i : ℕ) → packet_words (packet_at ws i) ≡ series (λ j. word ws j) 1 i 4
unfolding packet_words packet_at series
packet_words_lem ws i =
    (let a : i + 1 + 1 ≡ i + 2 = omega arith in
    let b : i + 2 + 1 ≡ i + 3 = omega arith in
    rw (a, b))

-- The words of a link with n units left are the five words at its place, if those of a free link's packet are 0.
link_words_of : (ws : List ℕ) (n : ℕ) → word ws left_at ≡ n → (n ≡ 0 → zeros ws link_at (lengths_at - link_at) ≡ true)
    → link_words (link_of n (packet_at ws link_at)) ≡ series (λ j. word ws j) 1 left_at (lengths_at - left_at)
unfolding link_words link_of series zeros
link_words_of ws zero q z = rw q (ap (λ l. 0 ∷ l) (sym (series_zeros (λ j. word ws j) 1 link_at 4 (z refl))))
link_words_of ws (suc n) q z = rw q (ap (λ l. suc n ∷ l) (packet_words_lem ws link_at))

-- The words of the link that is read are those at its place, where a free link has zeros.
pub link_words_lem : (ws : List ℕ) → link_clear ws ≡ true
    → link_words (link_of (word ws left_at) (packet_at ws link_at)) ≡ series (λ j. word ws j) 1 left_at (lengths_at - left_at)
unfolding link_clear
link_words_lem ws e =
    link_words_of ws (word ws left_at) refl (λ q. sym (ap (λ b. cond b (zeros ws link_at (lengths_at - link_at)) true)
    (eq-eqb (word ws left_at) 0 q)) ∙ e)

-- The queue at a place with the length 0 is empty.
pub queue_untagged : (ws : List ℕ) (p : ℕ) → word ws (lengths_at + p) ≡ 0 → queue_at ws p ≡ []
unfolding queue_at series
queue_untagged ws p e = rw e

-- The words of the packets below a place end where its queue starts.
start_at : (ws : List ℕ) (p : ℕ) → packets_at + 1 * (4 * lengths_below ws p) ≡ start_of ws p
unfolding start_of
start_at ws p = omega arith

-- The words of the queue at a place are the stretch from its start, four for each packet.
queue_words : (ws : List ℕ) (p : ℕ) → flatten (map packet_words (queue_at ws p))
    ≡ series (λ j. word ws j) 1 (start_of ws p) (4 * word ws (lengths_at + p))
unfolding queue_at
queue_words ws p = chunks_words (packet_at ws) packet_words (λ j. word ws j) 4 (packet_words_lem ws) (start_of ws p) (word ws (lengths_at + p))

-- If the queues below place p are the stretch from the first packet on, so are those below place p + 1.
queues_next : (ws : List ℕ) (p : ℕ)
    → flatten (map packet_words (flatten (series (queue_at ws) 1 0 p))) ≡ series (λ j. word ws j) 1 packets_at (4 * lengths_below ws p)
    → flatten (map packet_words (flatten (series (queue_at ws) 1 0 (suc p))))
    ≡ series (λ j. word ws j) 1 packets_at (4 * (lengths_below ws p + word ws (lengths_at + p)))
unfolding flatten
queues_next ws p h =
    (let w : ℕ → ℕ = λ j. word ws j in
    let qs = series (queue_at ws) 1 0 p in
    let e : 0 + 1 * p ≡ p = omega arith in
    let n = lengths_below ws p in
    let m = word ws (lengths_at + p) in
    let k : 4 * n + 4 * m ≡ 4 * (n + m) = omega arith in
    rw (
      series_last (queue_at ws) 1 0 p,
      e,
      flatten_append qs (queue_at ws p ∷ []),
      append-nil (queue_at ws p),
      map-append packet_words (flatten qs) (queue_at ws p),
      flatten_append (map packet_words (flatten qs)) (map packet_words (queue_at ws p)),
      h,
      queue_words ws p,
    )
    (sym (sym (ap (λ x. series w 1 packets_at x) k) ∙ series_append w 1 packets_at (4 * n) (4 * m) ∙
    ap (λ x. series w 1 packets_at (4 * n) ++ series w 1 x (4 * m)) (start_at ws p))))

-- The words of the queues at the places below p are the stretch from the first packet on.
pub queues_words : (ws : List ℕ) (p : ℕ)
    → flatten (map packet_words (flatten (series (queue_at ws) 1 0 p))) ≡ series (λ j. word ws j) 1 packets_at (4 * lengths_below ws p)
unfolding series lengths_below flatten
queues_words ws zero = refl
queues_words ws (suc p) = queues_next ws p (queues_words ws p)

-- The length at the place of a number that is no tag is 0.
pub untagged_zero : (ws : List ℕ) → untagged_empty ws ≡ true → (k : ℕ) → largest_factor (settings_at ws) < k → k < 64
    → word ws (lengths_at + place_of (turns_at ws) k) ≡ 0
unfolding untagged_empty empty_from
untagged_zero ws e k h l =
    (let f : ℕ → ℕ = λ k. word ws (lengths_at + place_of (turns_at ws) k) in
    let r = largest_factor (settings_at ws) in
    let q : suc r + 1 * (k - suc r) ≡ k = omega arith in
    sym (ap f q) ∙ sym (get_or_series f 1 (suc r) (63 - r) (k - suc r) 0 (omega arith)) ∙
    ap (λ l. get_or l (k - suc r) 0) (series_zeros f 1 (suc r) (63 - r) e) ∙ get_or-replicate (63 - r) (k - suc r) 0 0 (omega arith))

-- The queue that the contents have for the tag of a place is the queue at that place.
queue_tagged : (ws : List ℕ) → untagged_empty ws ≡ true → largest_factor (settings_at ws) ≤ 63
    → (p : ℕ) → p < 64 → get_or (queues_at ws) (tag_of (turns_at ws) p) [] ≡ queue_at ws p
unfolding queues_at
queue_tagged ws e h p l =
    (let t = tag_of (turns_at ws) p in
    let r = largest_factor (settings_at ws) in
    let f : ℕ → List Packet = λ k. queue_at ws (place_of (turns_at ws) k) in
    let q : 0 + 1 * t ≡ t = omega arith in
    elim (dec_le t r) [
      | yes k ↦
          get_or_series f 1 0 (suc r) t [] (omega arith) ∙ ap f q ∙ ap (queue_at ws) (place_of_tag (turns_at ws) p l)
      | no k ↦
          get_or-eq_default (series f 1 0 (suc r)) [] (rw (length_series f 1 0 (suc r)) (omega arith)) ∙
          sym (queue_untagged ws p
          (sym (ap (λ x. word ws (lengths_at + x)) (place_of_tag (turns_at ws) p l)) ∙
          untagged_zero ws e t (omega arith) (tag_below (turns_at ws) p)))
    ])

-- The queues of the contents by their places are those in the words.
pub by_place_lem : (ws : List ℕ) → untagged_empty ws ≡ true → largest_factor (settings_at ws) ≤ 63
    → by_place (contents ws) ≡ series (queue_at ws) 1 0 64
unfolding by_place contents turns_of turns_at settings_at
by_place_lem ws e h =
    series_same (λ p. get_or (queues_at ws) (tag_of (turns_at ws) p) []) (queue_at ws) 1 0 0 64
    (λ i l. queue_tagged ws e h (0 + 1 * i) (omega arith))

-- The lengths of the queues at the 64 places are the words of their table.
lengths_words : (ws : List ℕ) → map length (series (queue_at ws) 1 0 64) ≡ series (λ j. word ws j) 1 lengths_at (packets_at - lengths_at)
unfolding queue_at
lengths_words ws =
    map_series length (queue_at ws) 1 0 64 ∙
    series_same (λ p. length (queue_at ws p)) (λ j. word ws j) 1 0 lengths_at 64 (λ i l.
    (let e : lengths_at + (0 + 1 * i) ≡ lengths_at + 1 * i = omega arith in
    length_series (packet_at ws) 4 (start_of ws (0 + 1 * i)) (word ws (lengths_at + (0 + 1 * i))) ∙ ap (λ x. word ws x) e))

-- The words of the rows with their zeros are the table of rows.
rows_words : (ws : List ℕ) → Fitting ws
    → padded (counter_at - rows_at) (flatten (map standing_words (standings ws))) ≡ series (λ j. word ws j) 1 rows_at (counter_at - rows_at)
unfolding standings
rows_words ws k =
    rw (chunks_words (standing_at ws) standing_words (λ j. word ws j) 6 (standing_words_lem ws) rows_at (word ws row_count_at))
    (padded_series ws rows_at (6 * word ws row_count_at) counter_at (omega (arith, k.rows)) k.rows_clear)

-- The factors with their zeros are the table of factors.
factors_words : (ws : List ℕ) → Fitting ws
    → padded (row_count_at - factors_at) (settings_at ws).factors ≡ series (λ j. word ws j) 1 factors_at (row_count_at - factors_at)
unfolding settings_at
factors_words ws k = padded_series ws factors_at (word ws classes_at) row_count_at (omega (arith, k.classes)) k.factors_clear

-- There are as many factors as the word for the number of classes says.
pub class_count_lem : (ws : List ℕ) → length (settings_at ws).factors ≡ word ws classes_at
unfolding settings_at
class_count_lem ws = length_series (λ i. word ws i) 1 factors_at (word ws classes_at)

-- As many rows stand as the word at their count says.
pub row_count : (ws : List ℕ) → length (standings ws) ≡ word ws row_count_at
unfolding standings
row_count ws = length_series (standing_at ws) 6 rows_at (word ws row_count_at)

-- The first table: D, M and P.
first_words : (ws : List ℕ)
    → padded (factors_at - interval_at) ((settings_at ws).interval ∷ (settings_at ws).cycle ∷ length (settings_at ws).factors ∷ [])
    ≡ series (λ j. word ws j) 1 interval_at (factors_at - interval_at)
unfolding settings_at padded series
first_words ws = ap (λ n. word ws interval_at ∷ word ws cycle_at ∷ n ∷ []) (class_count_lem ws)

-- The number of rows is the word at its place.
row_count_words : (ws : List ℕ)
    → padded (rows_at - row_count_at) (length (standings ws) ∷ []) ≡ series (λ j. word ws j) 1 row_count_at (rows_at - row_count_at)
unfolding padded series
row_count_words ws = ap (λ n. n ∷ []) (row_count ws)

-- The counter and the count of accepted packets.
count_words : (ws : List ℕ)
    → padded (left_at - counter_at) (word ws counter_at ∷ word ws accepted_at ∷ []) ≡ series (λ j. word ws j) 1 counter_at (left_at - counter_at)
unfolding padded series
count_words ws = refl

-- A list that has the size of its table needs no zeros.
padded_whole : (n : ℕ) (l : List ℕ) → length l ≡ n → padded n l ≡ l
unfolding padded
padded_whole n l e = (let z : n - length l ≡ 0 = omega arith in ap (λ m. l ++ replicate m 0) z ∙ append-nil l)

-- The tables of the contents are those in the words.
tables_read : (ws : List ℕ) → Fitting ws → Reads (λ j. word ws j) 0 (tables (contents ws))
unfolding Reads tables contents
tables_read ws k =
    (let places = by_place_lem ws k.untagged k.largest in
    let link = link_words_lem ws k.link_clear_lem in
    let lengths = ap (map length) places ∙ lengths_words ws in (
      first_words ws,
      (
        factors_words ws k,
        (
          row_count_words ws,
          (
            rows_words ws k,
            (
              count_words ws,
              (
                padded_whole (lengths_at - left_at) _ (ap length link ∙ length_series (λ j. word ws j) 1 left_at (lengths_at - left_at)) ∙ link,
                (
                  padded_whole (packets_at - lengths_at) _
                      (ap length lengths ∙ length_series (λ j. word ws j) 1 lengths_at (packets_at - lengths_at)) ∙ lengths,
                  tt,
                ),
              ),
            ),
          ),
        ),
      ),
    ))

-- The words of the contents are the first words, up to the last waiting packet.
pub image_contents : (ws : List ℕ) → Fitting ws → image (contents ws) ≡ series (λ j. word ws j) 1 0 (packets_at + 4 * lengths_below ws 64)
unfolding image
image_contents ws k =
    (let w : ℕ → ℕ = λ j. word ws j in
    let places = by_place_lem ws k.untagged k.largest in
    append_same (laid_series w (tables (contents ws)) 0 (tables_read ws k) ∙ ap (λ n. series w 1 0 n) (tables_total (contents ws)))
    (ap (λ qs. flatten (map packet_words (flatten qs))) places ∙ queues_words ws 64) ∙
    sym (series_append w 1 0 packets_at (4 * lengths_below ws 64)))

-- The contents of fitting words take the tables and four words for each waiting packet.
pub length_image : (ws : List ℕ) → Fitting ws → length (image (contents ws)) ≡ packets_at + 4 * lengths_below ws 64
length_image ws k = ap length (image_contents ws k) ∙ length_series (λ j. word ws j) 1 0 (packets_at + 4 * lengths_below ws 64)

-- Fitting words are those that their own contents put.
pub put_contents : (ws : List ℕ) → Fitting ws → put (contents ws) ws ≡ ws
unfolding put
put_contents ws k =
    (let n = packets_at + 4 * lengths_below ws 64 in
    append_same (image_contents ws k ∙ series_take ws 0 n (omega (arith, k.total, k.enough))) (ap (λ m. drop m ws) (length_image ws k)) ∙
    take-append-drop n ws)

-- Words that stand for these contents and keep the rest are those that the contents put.
pub put_from : (ws other : List ℕ) (box : Box) → Fitting other → contents other ≡ box
    → drop (packets_at + 4 * lengths_below other 64) other ≡ drop (packets_at + 4 * lengths_below other 64) ws → other ≡ put box ws
unfolding put
put_from ws other box k c e =
    (let n = packets_at + 4 * lengths_below other 64 in
    let l : length (image box) ≡ n = ap (λ b. length (image b)) (sym c) ∙ length_image other k in
    sym (put_contents other k) ∙
    append_same (ap image c) (ap (λ m. drop m other) (length_image other k) ∙ e ∙ ap (λ m. drop m ws) (sym l)))
