-- Contents that are put are read again: `contents_put`; and the words are then well formed.
use Prim.Native.Nat.{ℕ, zero, suc, ◌+◌, ◌*◌, ◌-◌, ◌≤◌, ◌<◌}
use mathlib.Core.Path.{◌≡◌, refl, sym, ap, ◌∙◌}
use mathlib.Core.Bool.{true, cond, and-eq-true_iff}
use mathlib.Core.List.{List, [], ◌∷◌, ◌++◌, map, flatten, append_assoc, append-nil}
use native.Mathlib.Omega.{arith}
use lib.ListN.{length, get_or, take, drop, replicate, length-append, get_or-eq_default, get_or-append, get_or-map, length-map}
use lib.Seq.{take-suc, split_at, get_or-drop}
use lib.Dec.{eqb}
use borrow.Author.Tests.{ne_eqb}
use Rattle.laws.specs.Series.{series, length_series, get_or_series, series_same, series_read, series_self, map-append, flatten_append, chunks_read, length_chunks, every_zeros}
use Rattle.laws.specs.Tests.{every, within_facts}
use Rattle.meaning.specs.Numbers.{largest_factor, class_count}
use Rattle.meaning.specs.declared.Packet.{Packet}
use Rattle.meaning.specs.declared.Standing.{Standing}
use Rattle.meaning.specs.Box.{Box, link_kept, sound}
use Rattle.meaning.proofs.Facts.{sound_facts, settings_facts}
use Rattle.words.specs.Places.{word, start_of, lengths_below, place_of, tag_of, interval_at, factors_at, row_count_at, rows_at, counter_at, left_at, link_at, lengths_at, packets_at}
use Rattle.words.specs.Contents.{contents, settings_at, standing_at, standings, packet_at, link_of, turns_at, queue_at, queues_at, padded, standing_words, packet_words, link_words, turns_of, by_place, laid, tables, image, put}
use Rattle.words.specs.Sound.{zeros, unused_clear, link_clear, empty_from, untagged_empty}
use Rattle.words.proofs.Laid.{after_part, zeros_read, entries_found, rest_clear, total, Fit, Found, after_laid, laid_found}
use Rattle.words.proofs.Rotation.{place_below, tag_of_place}
use Rattle.meaning.specs.declared.Link.{Link}

-- What contents must keep to be read again from their words.
pub record Puttable (box : Box) : Type 0 where
  pub classes : length box.settings.factors ≤ 8
  pub rows : length box.standing ≤ 32
  pub link : link_kept box.link ≡ true
  pub largest : largest_factor box.settings ≤ 63
  pub tags : length box.queues ≡ suc (largest_factor box.settings)

-- Sound contents can be put.
pub sound_puttable : (box : Box) → sound box ≡ true → Puttable box
unfolding class_count
sound_puttable box e =
    (let f = sound_facts box e in
    let s = settings_facts box.settings f.settings_allowed_lem in
    record { classes = s.classes_most; rows = f.connections_most; link = f.link_kept_lem; largest = s.factor_most; tags = f.queue_count })

-- The word j places after place i is entry j of the words from i on.
word_at : (ws : List ℕ) (x : ℕ) (t : List ℕ) (i j : ℕ) → drop i ws ≡ t → get_or t j 0 ≡ x → word ws (i + j) ≡ x
word_at ws x t i j e q = sym (get_or-drop i ws j 0) ∙ ap (λ l. get_or l j 0) e ∙ q

-- Where the words of a row stand, that row is read.
standing_read : (ws : List ℕ) (s : Standing) (r : List ℕ) (i : ℕ) → drop i ws ≡ standing_words s ++ r → standing_at ws i ≡ s
unfolding standing_words standing_at
standing_read ws s r i e =
    (let z : i + 0 ≡ i = omega arith in
    let a = sym (ap (λ j. word ws j) z) ∙ word_at ws s.asked.class (standing_words s ++ r) i 0 e refl in
    let b = word_at ws s.asked.longest (standing_words s ++ r) i 1 e refl in
    let c = word_at ws s.asked.burst (standing_words s ++ r) i 2 e refl in
    let d = word_at ws s.asked.period (standing_words s ++ r) i 3 e refl in
    let f = word_at ws s.allowance.next (standing_words s ++ r) i 4 e refl in
    let g = word_at ws s.allowance.credit (standing_words s ++ r) i 5 e refl in
    rw (a, b, c, d, f, g))

-- Where the words of a packet stand, that packet is read.
packet_read : (ws : List ℕ) (p : Packet) (r : List ℕ) (i : ℕ) → drop i ws ≡ packet_words p ++ r → packet_at ws i ≡ p
unfolding packet_words packet_at
packet_read ws p r i e =
    (let z : i + 0 ≡ i = omega arith in
    let a = sym (ap (λ j. word ws j) z) ∙ word_at ws p.serial (packet_words p ++ r) i 0 e refl in
    let b = word_at ws p.connection (packet_words p ++ r) i 1 e refl in
    let c = word_at ws p.units (packet_words p ++ r) i 2 e refl in
    let d = word_at ws p.arrival (packet_words p ++ r) i 3 e refl in
    rw (a, b, c, d))

-- A row takes six words.
pub standing_size : (s : Standing) → length (standing_words s) ≡ 6
unfolding standing_words
standing_size s = refl

-- A packet takes four words.
pub packet_size : (p : Packet) → length (packet_words p) ≡ 4
unfolding packet_words
packet_size p = refl

-- The link takes five words.
pub link_size : (l : Link) → length (link_words l) ≡ 5
unfolding link_words packet_words
link_size Link.Free = refl
link_size (Link.Carries p left) = refl

-- The parts of words that contents put: every table where it stands, and the packets after them.
record Parts (box : Box) (ws : List ℕ) : Type 0 where
  rest : List ℕ
  settings_part : ws ≡ padded (factors_at - interval_at)
      (box.settings.interval ∷ box.settings.cycle ∷ length box.settings.factors ∷ []) ++ drop factors_at ws
  factors_part : drop factors_at ws ≡ padded (row_count_at - factors_at) box.settings.factors ++ drop row_count_at ws
  row_count_part : drop row_count_at ws ≡ padded (rows_at - row_count_at) (length box.standing ∷ []) ++ drop rows_at ws
  rows_part : drop rows_at ws ≡ padded (counter_at - rows_at) (flatten (map standing_words box.standing)) ++ drop counter_at ws
  counts_part : drop counter_at ws ≡ padded (left_at - counter_at) (box.counter ∷ box.accepted ∷ []) ++ drop left_at ws
  link_part : drop left_at ws ≡ padded (lengths_at - left_at) (link_words box.link) ++ drop lengths_at ws
  lengths_part : drop lengths_at ws ≡ padded (packets_at - lengths_at) (map length (by_place box)) ++ drop packets_at ws
  packets_part : drop packets_at ws ≡ flatten (map packet_words (flatten (by_place box))) ++ rest

-- There are 64 places.
pub length_places : (box : Box) → length (by_place box) ≡ 64
unfolding by_place
length_places box = length_series (λ p. get_or box.queues (tag_of (turns_of box) p) []) 1 0 64

-- The tables take the words before the packets.
pub tables_total : (box : Box) → total (tables box) ≡ packets_at
unfolding total tables
tables_total box = refl

-- The words of every table of contents that can be put fit into it.
pub tables_fit : (box : Box) → Puttable box → Fit (tables box)
unfolding Fit tables
tables_fit box k =
    (let rows = length_chunks standing_words 6 standing_size box.standing in
    let lengths : length (map (length {A = Packet}) (by_place box)) ≡ 64 = length-map (by_place box) length ∙ length_places box in (
      omega arith,
      (
        omega (arith, k.classes),
        (
          omega arith,
          (omega (arith, rows, k.rows), (omega arith, (omega (arith, link_size box.link), (omega arith, tt)))),
        ),
      ),
    ))

-- Contents that are put have their parts in the words.
put_parts : (box : Box) (ws : List ℕ) → Puttable box → Parts box (put box ws)
unfolding put image Found tables
put_parts box ws k =
    (let after = put box ws in
    let R = drop (length (image box)) ws in
    let packets = flatten (map packet_words (flatten (by_place box))) in
    let fit = tables_fit box k in
    let e : after ≡ laid (tables box) ++ (packets ++ R) = append_assoc (laid (tables box)) packets R in
    let f = laid_found (tables box) after (packets ++ R) 0 fit e in
    record {
      rest = R;
      settings_part = f.0;
      factors_part = f.1.0;
      row_count_part = f.1.1.0;
      rows_part = f.1.1.1.0;
      counts_part = f.1.1.1.1.0;
      link_part = f.1.1.1.1.1.0;
      lengths_part = f.1.1.1.1.1.1.0;
      packets_part = ap (λ n. drop (0 + n) after) (sym (tables_total box)) ∙ after_laid (tables box) after (packets ++ R) 0 fit e;
    })

-- The queue at a place has as many packets as the word for its length says.
pub length_queue : (ws : List ℕ) (p : ℕ) → length (queue_at ws p) ≡ word ws (lengths_at + p)
unfolding queue_at
length_queue ws p = length_series (packet_at ws) 4 (start_of ws p) (word ws (lengths_at + p))

-- A series of zeros is zeros repeated.
zeros_series : (start n : ℕ) → series {A = ℕ} (λ _. 0) 1 start n ≡ replicate n 0
unfolding series
zeros_series start zero = refl
zeros_series start (suc n) = ap (λ l. 0 ∷ l) (zeros_series (start + 1) n)

-- The length of every queue stands in the word of its place.
length_read : (box : Box) (ws : List ℕ) → Parts box ws → (p : ℕ) → p < 64 → word ws (lengths_at + p) ≡ length (get_or (by_place box) p [])
length_read box ws k p h =
    word_at ws (length (get_or (by_place box) p [])) _ lengths_at p
    (entries_found ws (map length (by_place box)) (drop packets_at ws) lengths_at (packets_at - lengths_at) k.lengths_part)
    (get_or-append (map length (by_place box)) _ 0 p
    (let l : length (map (length {A = Packet}) (by_place box)) ≡ 64 = length-map (by_place box) length ∙ length_places box in omega arith) ∙
    get_or-map length (by_place box) p [])

-- The lengths at the places below p sum to the packets of the queues at those places.
below_read : (box : Box) (ws : List ℕ) → Parts box ws → (p : ℕ) → p ≤ 64 → lengths_below ws p ≡ length (flatten (take p (by_place box)))
unfolding lengths_below flatten
below_read box ws k zero h = refl
below_read box ws k (suc p) h =
    (let q = get_or (by_place box) p [] in
    let l : p < length (by_place box) = omega (arith, length_places box) in
    rw (
      take-suc (by_place box) p [] l,
      flatten_append (take p (by_place box)) (q ∷ []),
      append-nil q,
      length-append (flatten (take p (by_place box))) q,
      length_read box ws k p h,
      below_read box ws k p (omega arith),
    ))

-- The words of some queues, one after another.
flat : List (List Packet) → List ℕ
flat qs = flatten (map packet_words (flatten qs))

-- The words of some queues are those before one of them, its own and those after it.
flat_split : (a : List (List Packet)) (q : List Packet) (r : List (List Packet))
    → flat (a ++ q ∷ r) ≡ flat a ++ (flatten (map packet_words q) ++ flat r)
unfolding flatten flat
flat_split a q r =
    ap (λ l. flatten (map packet_words l)) (flatten_append a (q ∷ r)) ∙ ap flatten (map-append packet_words (flatten a) (q ++ flatten r)) ∙
    flatten_append (map packet_words (flatten a)) (map packet_words (q ++ flatten r)) ∙
    ap (λ l. flatten (map packet_words (flatten a)) ++ l)
    (ap flatten (map-append packet_words q (flatten r)) ∙ flatten_append (map packet_words q) (map packet_words (flatten r)))

-- The words of a queue stand at its start, and those of the later places follow.
queue_found : (box : Box) (ws : List ℕ) (k : Parts box ws) (p : ℕ) → p < 64
    → drop (start_of ws p) ws ≡ flatten (map packet_words (get_or (by_place box) p [])) ++ (flat (drop (suc p) (by_place box)) ++ k.rest)
unfolding start_of flat
queue_found box ws k p h =
    (let places = by_place box in
    let a = take p places in
    let q = get_or places p [] in
    let r = drop (suc p) places in
    let Q = flatten (map packet_words q) in
    let l : p < length places = omega (arith, length_places box) in
    let e : drop packets_at ws ≡ flat a ++ (Q ++ (flat r ++ k.rest)) =
    k.packets_part ∙ ap (λ t. flat t ++ k.rest) (split_at places p [] l) ∙ ap (λ t. t ++ k.rest) (flat_split a q r) ∙
    append_assoc (flat a) (Q ++ flat r) k.rest ∙ ap (λ t. flat a ++ t) (append_assoc Q (flat r) k.rest) in
    after_part ws (flat a) (Q ++ (flat r ++ k.rest)) packets_at (4 * lengths_below ws p) e
    (length_chunks packet_words 4 packet_size (flatten a) ∙ ap (λ n. 4 * n) (sym (below_read box ws k p (omega arith)))))

-- The queue that is read at a place is the one that was put there.
queue_read : (box : Box) (ws : List ℕ) → Parts box ws → (p : ℕ) → p < 64 → queue_at ws p ≡ get_or (by_place box) p []
unfolding queue_at
queue_read box ws k p h =
    rw (length_read box ws k p h)
    (chunks_read (packet_at ws) packet_words 4 ws packet_size (packet_read ws) (get_or (by_place box) p [])
    (flat (drop (suc p) (by_place box)) ++ k.rest) (start_of ws p) (queue_found box ws k p h))

-- The queue tagged k is read at its place.
tag_read : (box : Box) (ws : List ℕ) → Parts box ws → (k : ℕ) → k < 64 → queue_at ws (place_of (turns_of box) k) ≡ get_or box.queues k []
unfolding by_place
tag_read box ws parts k h =
    (let t = turns_of box in
    let p = place_of t k in
    let f : ℕ → List Packet = λ p. get_or box.queues (tag_of t p) [] in
    let e : 0 + 1 * p ≡ p = omega arith in
    queue_read box ws parts p (place_below t k) ∙ get_or_series f 1 0 64 p [] (place_below t k) ∙ ap f e ∙
    ap (λ n. get_or box.queues n []) (tag_of_place t k h))

-- The entries of the first table: D, M and P.
settings_found : (box : Box) (ws : List ℕ) → Parts box ws
    → drop interval_at ws ≡ (box.settings.interval ∷ box.settings.cycle ∷ length box.settings.factors ∷ []) ++
    (replicate (factors_at - interval_at - 3) 0 ++ drop factors_at ws)
settings_found box ws k =
    entries_found ws (box.settings.interval ∷ box.settings.cycle ∷ length box.settings.factors ∷ []) (drop factors_at ws) interval_at
    (factors_at - interval_at) k.settings_part

-- The number of rows is read.
row_count_read : (box : Box) (ws : List ℕ) → Parts box ws → word ws row_count_at ≡ length box.standing
row_count_read box ws k =
    word_at ws (length box.standing) _ row_count_at 0
    (entries_found ws (length box.standing ∷ []) (drop rows_at ws) row_count_at (rows_at - row_count_at) k.row_count_part) refl

-- The entries of the table of counts.
counts_found : (box : Box) (ws : List ℕ) → Parts box ws
    → drop counter_at ws ≡ (box.counter ∷ box.accepted ∷ []) ++ (replicate (left_at - counter_at - 2) 0 ++ drop left_at ws)
counts_found box ws k = entries_found ws (box.counter ∷ box.accepted ∷ []) (drop left_at ws) counter_at (left_at - counter_at)
    k.counts_part

-- The entries of the table of the link.
link_found : (box : Box) (ws : List ℕ) → Parts box ws
    → drop left_at ws ≡ link_words box.link ++ (replicate (lengths_at - left_at - length (link_words box.link)) 0 ++ drop lengths_at ws)
link_found box ws k = entries_found ws (link_words box.link) (drop lengths_at ws) left_at (lengths_at - left_at) k.link_part

-- The settings are read.
settings_read : (box : Box) (ws : List ℕ) → Parts box ws → settings_at ws ≡ box.settings
unfolding settings_at
settings_read box ws k =
    (let fs = box.settings.factors in
    let first = settings_found box ws k in
    let d = word_at ws box.settings.interval _ interval_at 0 first refl in
    let m = word_at ws box.settings.cycle _ interval_at 1 first refl in
    let n = word_at ws (length fs) _ interval_at 2 first refl in
    rw (
      d,
      m,
      n,
      series_read ws fs _ factors_at (entries_found ws fs (drop row_count_at ws) factors_at (row_count_at - factors_at)
          k.factors_part),
    ))

-- The rows that stand are read.
standings_read : (box : Box) (ws : List ℕ) → Parts box ws → standings ws ≡ box.standing
unfolding standings
standings_read box ws k =
    (let rows = flatten (map standing_words box.standing) in
    rw (row_count_read box ws k)
    (chunks_read (standing_at ws) standing_words 6 ws standing_size (standing_read ws) box.standing _ rows_at
    (entries_found ws rows (drop counter_at ws) rows_at (counter_at - rows_at) k.rows_part)))

-- A link with units left carries its packet.
pub link_carries : (left : ℕ) (p : Packet) → 1 ≤ left → link_of left p ≡ Link.Carries p left
unfolding link_of
link_carries zero p h = absurd (omega arith)
link_carries (suc n) p h = refl

-- Where the words of a link stand, that link is read.
link_read : (l : Link) (ws r : List ℕ) → link_kept l ≡ true → drop left_at ws ≡ link_words l ++ r
    → link_of (word ws left_at) (packet_at ws link_at) ≡ l
unfolding link_words link_of link_kept
link_read Link.Free ws r k e = rw (word_at ws 0 (link_words Link.Free ++ r) left_at 0 e refl)
link_read (Link.Carries p left) ws r k e =
    (let a : word ws left_at ≡ left = word_at ws left (link_words (Link.Carries p left) ++ r) left_at 0 e refl in
    let b : packet_at ws link_at ≡ p = packet_read ws p r link_at (after_part ws (left ∷ []) (packet_words p ++ r) left_at 1 e refl) in
    let h : 1 ≤ left = (within_facts 1 left (p.units - 1) k).0 in
    let c : link_of left p ≡ Link.Carries p left = link_carries left p h in
    ap (λ n. link_of n (packet_at ws link_at)) a ∙ ap (link_of left) b ∙ c)

-- The number of turns that is read is that of the contents.
turns_read : (box : Box) (ws : List ℕ) → Parts box ws → turns_at ws ≡ turns_of box
unfolding turns_at turns_of
turns_read box ws k =
    (let d = word_at ws box.settings.interval _ interval_at 0 (settings_found box ws k) refl in
    let n = word_at ws box.counter _ counter_at 0 (counts_found box ws k) refl in
    rw (d, n))

-- The queues are read by their tags.
queues_read : (box : Box) (ws : List ℕ) → Puttable box → Parts box ws → queues_at ws ≡ box.queues
unfolding queues_at
queues_read box ws kept k =
    (let n = suc (largest_factor box.settings) in
    rw (turns_read box ws k, settings_read box ws k)
    (series_same (λ t. queue_at ws (place_of (turns_of box) t)) (λ i. get_or box.queues i []) 1 0 0 n
    (λ i h. tag_read box ws k (0 + 1 * i) (omega (arith, kept.largest))) ∙
    ap (λ m. series (λ i. get_or box.queues i []) 1 0 m) (sym kept.tags) ∙ series_self box.queues []))

-- Words with these parts stand for these contents.
parts_contents : (box : Box) (ws : List ℕ) → Puttable box → Parts box ws → contents ws ≡ box
unfolding contents
parts_contents box ws kept k =
    (let n = word_at ws box.counter _ counter_at 0 (counts_found box ws k) refl in
    let a = word_at ws box.accepted _ counter_at 1 (counts_found box ws k) refl in
    rw (
      settings_read box ws k,
      standings_read box ws k,
      n,
      a,
      link_read box.link ws _ kept.link (link_found box ws k),
      queues_read box ws kept k,
    ))

-- Contents that are put are read again.
pub contents_put : (box : Box) (ws : List ℕ) → Puttable box → contents (put box ws) ≡ box
contents_put box ws k = parts_contents box (put box ws) k (put_parts box ws k)

-- What the tables of factors and rows do not use is 0.
unused_put : (box : Box) (ws : List ℕ) → Parts box ws → unused_clear ws ≡ true
unfolding unused_clear
unused_put box ws k =
    (let fs = box.settings.factors in
    let rows = flatten (map standing_words box.standing) in
    let p = word_at ws (length fs) _ interval_at 2 (settings_found box ws k) refl in
    let m : length rows ≡ 6 * length box.standing = length_chunks standing_words 6 standing_size box.standing in
    rw (p, row_count_read box ws k, ← m)
    ((and-eq-true_iff (zeros ws (factors_at + length fs) (row_count_at - (factors_at + length fs)))
    (zeros ws (rows_at + length rows) (counter_at - (rows_at + length rows)))).1 (
      rest_clear ws fs (drop row_count_at ws) factors_at row_count_at k.factors_part,
      rest_clear ws rows (drop counter_at ws) rows_at counter_at k.rows_part,
    )))

-- Where the words of a link stand, its packet's words are 0 if no units are left.
link_put : (l : Link) (ws r : List ℕ) → link_kept l ≡ true → drop left_at ws ≡ link_words l ++ r → link_clear ws ≡ true
unfolding link_words link_clear link_kept
link_put Link.Free ws r k e =
    rw (word_at ws 0 (link_words Link.Free ++ r) left_at 0 e refl)
    (zeros_read ws r link_at (lengths_at - link_at) (after_part ws (0 ∷ []) (0 ∷ 0 ∷ 0 ∷ 0 ∷ r) left_at 1 e refl))
link_put (Link.Carries p left) ws r k e =
    (let a : word ws left_at ≡ left = word_at ws left (link_words (Link.Carries p left) ++ r) left_at 0 e refl in
    let h : 1 ≤ left = (within_facts 1 left (p.units - 1) k).0 in
    ap (λ b. cond b (zeros ws link_at (lengths_at - link_at)) true) (ne_eqb (word ws left_at) 0 (omega arith)))

-- The places of no tag have no packet, in words with these parts.
untagged_put : (box : Box) (ws : List ℕ) → Puttable box → Parts box ws → untagged_empty ws ≡ true
unfolding untagged_empty empty_from
untagged_put box ws kept k =
    (let r = largest_factor box.settings in
    let f : ℕ → ℕ = λ t. word ws (lengths_at + place_of (turns_of box) t) in
    rw (settings_read box ws k, turns_read box ws k)
    (ap (every (λ w. eqb w 0)) (series_same f (λ _. 0) 1 (suc r) 0 (63 - r) (λ i h.
    (let t = suc r + 1 * i in
    sym (length_queue ws (place_of (turns_of box) t)) ∙ ap length (tag_read box ws k t (omega (arith, kept.largest))) ∙
    ap length (get_or-eq_default box.queues [] {n = t} (omega (arith, kept.tags)))))) ∙
    ap (every (λ w. eqb w 0)) (zeros_series 0 (63 - r)) ∙ every_zeros (63 - r)))

-- Contents that are put leave 0 in the places of factors and rows that are not used.
pub put_unused : (box : Box) (ws : List ℕ) → Puttable box → unused_clear (put box ws) ≡ true
put_unused box ws k = unused_put box (put box ws) (put_parts box ws k)

-- Contents that are put leave 0 in the packet's words of a free link.
pub put_link : (box : Box) (ws : List ℕ) → Puttable box → link_clear (put box ws) ≡ true
put_link box ws k = link_put box.link (put box ws) _ k.link (link_found box (put box ws) (put_parts box ws k))

-- Contents that are put leave no packet at a place of no tag.
pub put_untagged : (box : Box) (ws : List ℕ) → Puttable box → untagged_empty (put box ws) ≡ true
put_untagged box ws k = untagged_put box (put box ws) k (put_parts box ws k)
