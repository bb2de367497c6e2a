-- What the writers of rows write stands for the changed connections.
use Prim.Native.Nat.{ℕ, suc, ◌+◌, ◌*◌, ◌-◌, ◌≤◌, ◌<◌}
use mathlib.Core.Path.{◌≡◌, refl, sym, ap, ◌∙◌}
use mathlib.Core.Bool.{true}
use mathlib.Core.List.{List, [], ◌∷◌, ◌++◌}
use native.Mathlib.Omega.{arith}
use native.Mathlib.Decide.{dec_le}
use lib.ListN.{length, set, length-set}
use lib.Dec.{eqb}
use borrow.Rule.Slice.PartMut.{put_mid}
use Rattle.std.proofs.Common.{add-zero}
use Rattle.laws.specs.Series.{series, series_same, series_last, series_set, series_unit, every_index, every_all}
use Rattle.meaning.specs.declared.Standing.{Standing}
use Rattle.meaning.specs.Box.{connection}
use Rattle.meaning.specs.Calls.{with_standing}
use Rattle.words.specs.Places.{word, row_count_at, rows_at, counter_at, accepted_at}
use Rattle.words.specs.Contents.{contents, standings, standing_at}
use Rattle.words.specs.Sound.{zeros, Fitting}
use Rattle.words.specs.Changes.{Become}
use Rattle.tables.specs.TableChanges.{RowPut}
use Rattle.words.proofs.TableReads.{connection_at_lem}
use Rattle.words.proofs.Storing.{word_other, word_same, length_written, word_written, word_below, word_above}
use Rattle.words.proofs.Same.{standing_same, zeros_same}
use Rattle.words.proofs.Readings.{counter_word, accepted_word}
use Rattle.words.proofs.TableChange.{Only, link_stays, link_stays_clear, queues_stay, untagged_stays, table_become}

-- Rows that change alone become the connections that they are then read as.
pub rows_become : (ws after : List ℕ) → Fitting ws → length after ≡ length ws
    → ((i : ℕ) → i < row_count_at → word after i ≡ word ws i) → ((i : ℕ) → counter_at ≤ i → word after i ≡ word ws i)
    → word after row_count_at ≤ 32 → zeros after (rows_at + 6 * word after row_count_at) (counter_at - (rows_at + 6 * word after row_count_at))
    ≡ true
    → Become ws after (with_standing (contents ws) (standings after))
unfolding with_standing
rows_become ws after k l near far n z =
    (let o : Only ws after row_count_at counter_at = record { same_length = l; kept = λ i h. split i h } in
    let c = far counter_at (omega arith) in
    table_become ws after row_count_at counter_at k o (standings after) (contents ws).counter (contents ws).accepted (contents ws).link
    (contents ws).queues
    (omega arith) (omega arith) (n, z) (link_stays_clear ws after row_count_at counter_at k o (omega arith))
    (untagged_stays ws after row_count_at counter_at k o (omega arith) (omega arith) c) refl (c ∙ sym (counter_word ws))
    (far accepted_at (omega arith) ∙ sym (accepted_word ws)) (link_stays ws after row_count_at counter_at k o (omega arith))
    (queues_stay ws after row_count_at counter_at k o (omega arith) (omega arith) c))
  where
    split : (i : ℕ) → (row_count_at ≤ i → i < counter_at → ⊥) → word after i ≡ word ws i
    split i h =
        elim (dec_le row_count_at i) [
          | yes a ↦ elim (dec_le counter_at i) [ yes b ↦ far i b | no b ↦ absurd (h a (omega arith)) ]
          | no a ↦ near i (omega arith)
        ]

-- A row whose last two words alone change is read with the same request and the new allowance.
row_is : (ws after : List ℕ) (n next credit : ℕ) → 1 ≤ n → n ≤ word ws row_count_at
    → word after (rows_at - 6 + 6 * n) ≡ word ws (rows_at - 6 + 6 * n)
    → word after ((rows_at - 6 + 6 * n) + 1) ≡ word ws ((rows_at - 6 + 6 * n) + 1)
    → word after ((rows_at - 6 + 6 * n) + 2) ≡ word ws ((rows_at - 6 + 6 * n) + 2)
    → word after ((rows_at - 6 + 6 * n) + 3) ≡ word ws ((rows_at - 6 + 6 * n) + 3)
    → word after ((rows_at - 6 + 6 * n) + 4) ≡ next → word after ((rows_at - 6 + 6 * n) + 5) ≡ credit
    → standing_at after (rows_at - 6 + 6 * n) ≡ record {
      asked = connection (contents ws) n;
      allowance = record { next = next; credit = credit };
    }
unfolding standing_at
row_is ws after n next credit h l a b c d e f = rw (a, b, c, d, e, f, connection_at_lem ws n h l)

-- Where the last two words of one row alone change, one connection has a new allowance and the others stay.
one_row : (ws after : List ℕ) (n next credit : ℕ) → 1 ≤ n → n ≤ word ws row_count_at → word after row_count_at ≡ word ws row_count_at
    → word after (rows_at - 6 + 6 * n) ≡ word ws (rows_at - 6 + 6 * n)
    → word after ((rows_at - 6 + 6 * n) + 1) ≡ word ws ((rows_at - 6 + 6 * n) + 1)
    → word after ((rows_at - 6 + 6 * n) + 2) ≡ word ws ((rows_at - 6 + 6 * n) + 2)
    → word after ((rows_at - 6 + 6 * n) + 3) ≡ word ws ((rows_at - 6 + 6 * n) + 3)
    → word after ((rows_at - 6 + 6 * n) + 4) ≡ next → word after ((rows_at - 6 + 6 * n) + 5) ≡ credit
    → ((i : ℕ) → i < (rows_at - 6 + 6 * n) → word after i ≡ word ws i) → ((i : ℕ) → (rows_at - 6 + 6 * n) + 6 ≤ i → word after i ≡ word ws i)
    → standings after ≡ set (contents ws).standing (n - 1)
    (record { asked = connection (contents ws) n; allowance = record { next = next; credit = credit } })
unfolding standings contents
one_row ws after n next credit h l m a b c d e f below above =
    (let z = standing_at ws 0 in
    let F : ℕ → Standing = λ i. standing_at ws (rows_at + 6 * i) in
    let G : ℕ → Standing = λ i. standing_at after (rows_at + 6 * i) in
    let q : rows_at + 6 * (n - 1) ≡ (rows_at - 6 + 6 * n) = omega arith in
    ap (λ x. series (standing_at after) 6 rows_at x) m ∙ series_unit (standing_at after) 6 rows_at (word ws row_count_at) z ∙
    series_set F G (word ws row_count_at) (n - 1) z (omega arith) (λ i g x.
    elim (dec_le i (n - 1)) [
      | yes w ↦ standing_same ws after (rows_at + 6 * i) (λ j u v. below j (omega arith))
      | no w ↦ standing_same ws after (rows_at + 6 * i) (λ j u v. above j (omega arith))
    ]) ∙
    ap (λ s. set (series F 1 0 (word ws row_count_at)) (n - 1) s) (ap (standing_at after) q ∙ row_is ws after n next credit h l a b c d e f) ∙
    ap (λ s. set s (n - 1) (record { asked = connection (contents ws) n; allowance = record { next = next; credit = credit } }))
    (sym (series_unit (standing_at ws) 6 rows_at (word ws row_count_at) z)))

-- Storing next and credit in a row makes the words those of the box with that allowance.
pub allowance_become : (ws : List ℕ) (n next credit : ℕ) → Fitting ws → 1 ≤ n → n ≤ word ws row_count_at
    → Become ws (set (set ws ((rows_at - 6 + 6 * n) + 4) next) ((rows_at - 6 + 6 * n) + 5) credit)
    (with_standing (contents ws) (set (contents ws).standing (n - 1)
    (record { asked = connection (contents ws) n; allowance = record { next = next; credit = credit } })))
allowance_become ws n next credit k h l =
    (let at = (rows_at - 6 + 6 * n) in
    let mid = set ws (at + 4) next in
    let after = set mid (at + 5) credit in
    let lm : length mid ≡ length ws = length-set ws (at + 4) next in
    let la : length after ≡ length ws = length-set mid (at + 5) credit ∙ lm in
    let e : (i : ℕ) → (i ≡ at + 4 → ⊥) → (i ≡ at + 5 → ⊥) → word after i ≡ word ws i =
    λ i a b. word_other mid (at + 5) credit i b ∙ word_other ws (at + 4) next i a in
    let c = e row_count_at (λ q. omega arith) (λ q. omega arith) in
    let w4 : word after (at + 4) ≡ next = word_other mid (at + 5) credit (at + 4) (λ q. omega arith) ∙
    word_same ws (at + 4) next (at + 4) (omega (arith, k.enough, k.rows)) refl in
    let w5 : word after (at + 5) ≡ credit = word_same mid (at + 5) credit (at + 5) (omega (arith, k.enough, k.rows)) refl in
    let b = rows_become ws after k la (λ i g. e i (λ q. omega arith) (λ q. omega arith))
    (λ i g. e i (λ q. omega (arith, k.rows)) (λ q. omega (arith, k.rows)))
    (omega (arith, k.rows)) (rw c (zeros_same ws after (rows_at + 6 * word ws row_count_at) (counter_at - (rows_at + 6 * word ws row_count_at))
    (λ i x y. e i (λ q. omega arith) (λ q. omega arith)) ∙ k.rows_clear)) in
    rw (← (one_row ws after n next credit h l c (e at (λ q. omega arith) (λ q. omega arith))
    (e (at + 1) (λ q. omega arith) (λ q. omega arith))
    (e (at + 2) (λ q. omega arith) (λ q. omega arith)) (e (at + 3) (λ q. omega arith) (λ q. omega arith)) w4 w5
    (λ i x. e i (λ q. omega arith) (λ q. omega arith)) (λ i x. e i (λ q. omega arith) (λ q. omega arith)))) b)

-- Six words written at once are a row.
pub row_stored : (ws : List ℕ) (at : ℕ) (row : Standing) {l : List ℕ} → at + 6 ≤ length ws → l ≡ row.asked.class ∷ row.asked.longest ∷
    row.asked.burst ∷ row.asked.period ∷ row.allowance.next ∷ row.allowance.credit ∷ []
    → RowPut ws (put_mid at (at + 6 - at) ws l) at row
unfolding standing_at
row_stored ws at row h e =
    let k : at + 6 - at ≡ 6 = omega arith in
    let l = row.asked.class ∷ row.asked.longest ∷ row.asked.burst ∷ row.asked.period ∷ row.allowance.next ∷ row.allowance.credit ∷ [] in
    let w = word_written ws l at 6 h refl in
    let first : word (put_mid at 6 ws l) at ≡ row.asked.class = ap (λ i. word (put_mid at 6 ws l) i) (sym (add-zero at)) ∙ w 0 (omega arith) in
    rw (k, e) (record {
      same_length = length_written ws l at 6 h refl;
      row = rw (first, w 1 (omega arith), w 2 (omega arith), w 3 (omega arith), w 4 (omega arith), w 5 (omega arith));
      below = word_below ws l at 6 h refl;
      above = word_above ws l at 6 h refl;
    })

-- A stretch of zeros has zeros from any later word of it on.
zeros_later : (ws : List ℕ) (start skip n : ℕ) → zeros ws start (skip + n) ≡ true → zeros ws (start + skip) n ≡ true
unfolding zeros
zeros_later ws start skip n e =
    every_all (λ w. eqb w 0) (λ i. word ws i) 1 (start + skip) n (λ i h.
    (let q : start + skip + 1 * i ≡ start + 1 * (skip + i) = omega arith in
    ap (λ x. eqb (word ws x) 0) q ∙ every_index (λ w. eqb w 0) (λ i. word ws i) 1 start (skip + n) e (skip + i) (omega arith)))

-- With a row written after the last and a count of one more, the connections are those before and the new one.
more_rows : (ws after : List ℕ) (s : Standing) → word after row_count_at ≡ suc (word ws row_count_at)
    → ((i : ℕ) → rows_at ≤ i → i < rows_at + 6 * word ws row_count_at → word after i ≡ word ws i)
    → standing_at after (rows_at + 6 * word ws row_count_at) ≡ s
    → standings after ≡ (contents ws).standing ++ (s ∷ [])
unfolding standings contents
more_rows ws after s n e r =
    ap (λ x. series (standing_at after) 6 rows_at x) n ∙ series_last (standing_at after) 6 rows_at (word ws row_count_at) ∙
    ap (λ l. l ++ (standing_at after (rows_at + 6 * word ws row_count_at) ∷ []))
    (series_same (standing_at after) (standing_at ws) 6 rows_at rows_at (word ws row_count_at)
    (λ i h. standing_same ws after (rows_at + 6 * i) (λ j a b. e j (omega arith) (omega arith)))) ∙
    ap (λ x. series (standing_at ws) 6 rows_at (word ws row_count_at) ++ (x ∷ [])) r

-- A row put after the last, and a count of one more, make the words those of the box with one connection more.
pub append_become : (ws mid : List ℕ) (s : Standing) (at v : ℕ) → Fitting ws → word ws row_count_at < 32
    → at ≡ rows_at + 6 * word ws row_count_at → v ≡ suc (word ws row_count_at)
    → RowPut ws mid at s → Become ws (set mid row_count_at v) (with_standing (contents ws) ((contents ws).standing ++ (s ∷ [])))
append_become ws mid s at v k l a q w =
    (let after = set mid row_count_at v in
    let n = word ws row_count_at in
    let e : (i : ℕ) → (i ≡ row_count_at → ⊥) → word after i ≡ word mid i = λ i h. word_other mid row_count_at v i h in
    let c : word after row_count_at ≡ suc n = word_same mid row_count_at v row_count_at (omega (arith, k.enough, w.same_length)) refl ∙ q in
    let z0 : 6 + (counter_at - (rows_at + 6 * suc n)) ≡ counter_at - (rows_at + 6 * n) = omega arith in
    let z1 : rows_at + 6 * n + 6 ≡ rows_at + 6 * suc n = omega arith in
    let z : zeros ws (rows_at + 6 * suc n) (counter_at - (rows_at + 6 * suc n)) ≡ true =
    sym (ap (λ x. zeros ws x (counter_at - (rows_at + 6 * suc n))) z1) ∙
    zeros_later ws (rows_at + 6 * n) 6 (counter_at - (rows_at + 6 * suc n)) (ap (zeros ws (rows_at + 6 * n)) z0 ∙ k.rows_clear) in
    let b = rows_become ws after k (length-set mid row_count_at v ∙ w.same_length) (λ i h. e i (λ x. omega arith) ∙ w.below i (omega arith))
    (λ i h. e i (λ x. omega arith) ∙ w.above i (omega arith)) (omega arith)
    (rw c (zeros_same ws after (rows_at + 6 * suc n) (counter_at - (rows_at + 6 * suc n))
    (λ i x y. e i (λ u. omega arith) ∙ w.above i (omega arith)) ∙ z)) in
    let r : standing_at after (rows_at + 6 * n) ≡ s =
    standing_same mid after (rows_at + 6 * n) (λ j x y. e j (λ u. omega arith)) ∙ ap (standing_at mid) (sym a) ∙ w.row in
    rw (more_rows ws after s c (λ i x y. e i (λ u. omega arith) ∙ w.below i (omega arith)) r) at b)
