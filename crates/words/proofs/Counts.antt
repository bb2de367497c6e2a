-- How many packets wait: by the lengths in the words, by tags and by places it is the same number.
use Prim.Native.Nat.{ℕ, zero, suc, ◌+◌, ◌*◌, ◌-◌, ◌%◌, ◌≤◌}
use mathlib.Core.Path.{◌≡◌, refl, sym, ap, ◌∙◌}
use mathlib.Core.Bool.{true, ◌&&◌, and-eq-true_iff}
use mathlib.Core.List.{List, [], ◌++◌, flatten}
use native.Mathlib.Omega.{arith}
use native.Mathlib.Nat.{add_comm}
use lib.ListN.{length, get_or, drop, length-append, length-drop, get_or-eq_default}
use lib.Seq.{drop-append-add, drop-drop}
use lib.Dec.{leb}
use borrow.Author.Tests.{leb-true, le-leb}
use Rattle.laws.specs.Series.{series_self, length_flatten, sum_below, sum_below_same, sum_below_zeros, sum_below_turned, length_chunks}
use Rattle.meaning.specs.Numbers.{largest_factor, class_count}
use Rattle.meaning.specs.Box.{Box, waiting, sound}
use Rattle.meaning.proofs.Facts.{sound_facts, settings_facts}
use Rattle.words.specs.Places.{box_words, word, lengths_below, place_of, tag_of, classes_at, factors_at, row_count_at, rows_at, lengths_at, packets_at, counter_at}
use Rattle.words.specs.Contents.{contents, settings_at, turns_at, queue_at, queues_at, packet_words, turns_of, by_place, tables, image, put}
use Rattle.words.specs.Sound.{zeros, unused_clear, link_clear, untagged_empty, well_formed, sound_words, Fitting}
use Rattle.words.proofs.Laid.{length_laid}
use Rattle.words.proofs.PutContents.{put_contents, class_count_lem, row_count, untagged_zero}
use Rattle.words.proofs.TableReads.{interval_at_lem, classes_at_lem}
use Rattle.words.proofs.ContentsPut.{Puttable, sound_puttable, length_queue, packet_size, tables_total, tables_fit, contents_put, put_unused, put_link, put_untagged}

-- The waiting packets below a place are the sum of the lengths there.
pub lengths_sum : (ws : List ℕ) (p : ℕ) → lengths_below ws p ≡ sum_below (λ i. word ws (lengths_at + i)) p
unfolding lengths_below sum_below
lengths_sum ws zero = refl
lengths_sum ws (suc p) = rw (lengths_sum ws p)

-- The lengths at all places sum to the packets that wait.
pub waiting_count : (ws : List ℕ) → untagged_empty ws ≡ true → largest_factor (settings_at ws) ≤ 63
    → lengths_below ws 64 ≡ length (waiting (contents ws))
unfolding waiting contents queues_at place_of
waiting_count ws e h =
    (let t = turns_at ws in
    let r = largest_factor (settings_at ws) in
    let f : ℕ → ℕ = λ i. word ws (lengths_at + i) in
    let g : ℕ → ℕ = λ k. f (place_of t k) in
    let n : suc r + (63 - r) ≡ 64 = omega arith in
    lengths_sum ws 64 ∙ sym (sum_below_turned f 64 t (omega arith)) ∙ ap (sum_below g) (sym n) ∙
    sum_below_zeros g (suc r) (63 - r) (λ k a b. untagged_zero ws e k a (omega arith)) ∙
    sum_below_same g (λ k. length (queue_at ws (place_of t k))) (suc r) (λ k l. sym (length_queue ws (place_of t k))) ∙
    sym (length_flatten (λ k. queue_at ws (place_of t k)) (suc r)))

-- The packets at all places are as many as those that wait.
pub places_count : (box : Box) → length box.queues ≤ 64 → length (flatten (by_place box)) ≡ length (waiting box)
unfolding waiting by_place tag_of
places_count box h =
    (let qs = box.queues in
    let t = 64 - turns_of box % 64 in
    let f : ℕ → ℕ = λ k. length (get_or qs k []) in
    let n : length qs + (64 - length qs) ≡ 64 = omega arith in
    length_flatten (λ p. get_or qs (tag_of (turns_of box) p) []) 64 ∙
    sum_below_same (λ p. f (tag_of (turns_of box) p)) (λ p. f ((t + p) % 64)) 64 (λ p l. ap (λ m. f (m % 64)) (add_comm p t)) ∙
    sum_below_turned f 64 t (omega arith) ∙ ap (sum_below f) (sym n) ∙
    sum_below_zeros f (length qs) (64 - length qs) (λ k a b. ap length (get_or-eq_default qs [] {n = k} a)) ∙
    sym (length_flatten (λ k. get_or qs k []) (length qs)) ∙ ap (λ l. length (flatten l)) (series_self qs []))

-- Contents take the words of the tables and four for each packet that waits.
pub image_size : (box : Box) → Puttable box → length (image box) ≡ packets_at + 4 * length (waiting box)
unfolding image
image_size box k =
    (let fixed = length_laid (tables box) (tables_fit box k) ∙ tables_total box in
    let packets = length_chunks packet_words 4 packet_size (flatten (by_place box)) in
    let w = places_count box (omega (arith, k.tags, k.largest)) in
    simp (length-append, fixed, packets, w) (omega arith))

-- Words with contents put into them are as many as before.
pub length_put : (box : Box) (ws : List ℕ) → Puttable box → length (waiting box) ≤ 1024 → box_words ≤ length ws
    → length (put box ws) ≡ length ws
unfolding put
length_put box ws k w h =
    (let n = image_size box k in
    rw (length-append (image box) (drop (length (image box)) ws), length-drop (length (image box)) ws) (omega arith))

-- Sound contents put into enough words make sound words.
pub sound_put : (box : Box) (ws : List ℕ) → sound box ≡ true → box_words ≤ length ws → sound_words (put box ws) ≡ true
unfolding sound_words well_formed
sound_put box ws e h =
    (let k = sound_puttable box e in
    let f = sound_facts box e in
    let v = put box ws in
    let n : box_words ≤ length v = omega (arith, length_put box ws k f.waiting_most h) in
    let u = unused_clear v in
    let l = link_clear v in
    (and-eq-true_iff (leb box_words (length v) && u && l && untagged_empty v) (sound (contents v))).1 (
      (and-eq-true_iff (leb box_words (length v) && u && l) (untagged_empty v)).1 (
        (and-eq-true_iff (leb box_words (length v) && u) l).1
            ((and-eq-true_iff (leb box_words (length v)) u).1 (le-leb _ _ n, put_unused box ws k), put_link box ws k),
        put_untagged box ws k,
      ),
      ap sound (contents_put box ws k) ∙ e,
    ))

-- Sound words are fitting.
pub sound_fitting : (ws : List ℕ) → sound_words ws ≡ true → Fitting ws
unfolding sound_words well_formed unused_clear contents class_count
sound_fitting ws e =
    (let a = (and-eq-true_iff (leb box_words (length ws) && unused_clear ws && link_clear ws && untagged_empty ws) (sound (contents ws))).0 e in
    let b = (and-eq-true_iff (leb box_words (length ws) && unused_clear ws && link_clear ws) (untagged_empty ws)).0 a.0 in
    let c = (and-eq-true_iff (leb box_words (length ws) && unused_clear ws) (link_clear ws)).0 b.0 in
    let d = (and-eq-true_iff (leb box_words (length ws)) (unused_clear ws)).0 c.0 in
    let z = (and-eq-true_iff (zeros ws (factors_at + word ws classes_at) (row_count_at - (factors_at + word ws classes_at)))
    (zeros ws (rows_at + 6 * word ws row_count_at) (counter_at - (rows_at + 6 * word ws row_count_at)))).0 d.1 in
    let f = sound_facts (contents ws) a.1 in
    let s = settings_facts (settings_at ws) f.settings_allowed_lem in
    record {
      enough = leb-true box_words (length ws) d.0;
      interval = interval_at_lem ws s.interval_least;
      classes_least = classes_at_lem ws s.classes_least;
      classes = omega (arith, s.classes_most, class_count_lem ws);
      factors_clear = z.0;
      rows = omega (arith, f.connections_most, row_count ws);
      rows_clear = z.1;
      link_clear_lem = c.1;
      largest = s.factor_most;
      untagged = b.1;
      total = omega (arith, f.waiting_most, waiting_count ws b.1 s.factor_most);
    })

-- Contents put over others that take no more words are put over the words as they were.
pub put_put : (box other : Box) (ws : List ℕ) → length (image other) ≤ length (image box) → put box (put other ws) ≡ put box ws
unfolding put
put_put box other ws h =
    (let n = length (image box) in
    let m = length (image other) in
    let e : n ≡ m + (n - m) = omega arith in
    let d : drop n (image other ++ drop m ws) ≡ drop n ws =
    ap (λ k. drop k (image other ++ drop m ws)) e ∙ drop-append-add (image other) (drop m ws) (n - m) ∙ drop-drop (n - m) m ws ∙
    ap (λ k. drop k ws) (sym e) in
    ap (λ l. image box ++ l) d)

-- Sound words are those that their own contents put.
pub sound_put_contents : (ws : List ℕ) → sound_words ws ≡ true → put (contents ws) ws ≡ ws
sound_put_contents ws e = put_contents ws (sound_fitting ws e)

-- Sound contents put into words are read again.
pub sound_contents_put : (box : Box) (ws : List ℕ) → sound box ≡ true → contents (put box ws) ≡ box
sound_contents_put box ws e = contents_put box ws (sound_puttable box e)
