-- Tables laid one after another: what is laid is found table by table, and what is read table by table is what is laid. One law each, over
-- any list of tables, so that a table more or a larger one changes no proof here.
use Prim.Native.Nat.{ℕ, ◌+◌, ◌*◌, ◌-◌, ◌≤◌}
use mathlib.Core.Path.{◌≡◌, refl, sym, ap, ◌∙◌}
use mathlib.Core.Bool.{true}
use mathlib.Core.List.{List, [], ◌∷◌, ◌++◌, append_assoc}
use native.Mathlib.Omega.{arith}
use lib.ListN.{length, drop, replicate, length-append, length-replicate, replicate-append-replicate}
use lib.Dec.{eqb}
use lib.Seq.{drop_at, drop-drop}
use Rattle.laws.specs.Series.{series, length_series, series_append, series_read, series_zeros, every_zeros, append_same}
use Rattle.laws.specs.Tests.{every}
use Rattle.words.specs.Places.{word}
use Rattle.words.specs.Contents.{Table, padded, laid}
use Rattle.words.specs.Sound.{zeros}

-- A list with its zeros has the size that it is filled up to.
pub length_padded : (n : ℕ) (l : List ℕ) → length l ≤ n → length (padded n l) ≡ n
unfolding padded
length_padded n l h = rw (length-append l (replicate (n - length l) 0), length-replicate {A = ℕ} (n - length l) 0) (omega arith)

-- After a part of n words stand the words that follow it.
pub after_part : (ws a b : List ℕ) (i n : ℕ) → drop i ws ≡ a ++ b → length a ≡ n → drop (i + n) ws ≡ b
after_part ws a b i n e l = sym (drop-drop n i ws) ∙ ap (drop n) e ∙ drop_at a b n l

-- A list that is read, with the zeros after it, is the whole stretch up to the end of its table.
pub padded_series : (ws : List ℕ) (start n end : ℕ) → start + n ≤ end → zeros ws (start + n) (end - (start + n)) ≡ true
    → padded (end - start) (series (λ i. word ws i) 1 start n) ≡ series (λ i. word ws i) 1 start (end - start)
unfolding padded zeros
padded_series ws start n end h z =
    (let w : ℕ → ℕ = λ i. word ws i in
    let left : end - start - n ≡ end - (start + n) = omega arith in
    let e : n + (end - (start + n)) ≡ end - start = omega arith in
    let k : start + 1 * n ≡ start + n = omega arith in
    rw (length_series w 1 start n, left)
    (ap (λ l. series w 1 start n ++ l) (sym (series_zeros w 1 (start + n) (end - (start + n)) z)) ∙
    sym (sym (ap (λ m. series w 1 start m) e) ∙ series_append w 1 start n (end - (start + n)) ∙
    ap (λ m. series w 1 start n ++ series w 1 m (end - (start + n))) k)))

-- Zeros that stand at a place are read there.
pub zeros_read : (ws r : List ℕ) (start n : ℕ) → drop start ws ≡ replicate n 0 ++ r → zeros ws start n ≡ true
unfolding zeros
zeros_read ws r start n e =
    (let z : List ℕ = replicate n 0 in
    ap (λ m. every (λ w. eqb w 0) (series (λ i. word ws i) 1 start m)) (sym (length-replicate {A = ℕ} n 0)) ∙
    ap (every (λ w. eqb w 0)) (series_read ws z r start e) ∙ every_zeros n)

-- The entries of a table stand at its place, and zeros follow them.
pub entries_found : (ws l r : List ℕ) (at size : ℕ) → drop at ws ≡ padded size l ++ r
    → drop at ws ≡ l ++ (replicate (size - length l) 0 ++ r)
unfolding padded
entries_found ws l r at size e = e ∙ append_assoc l (replicate (size - length l) 0) r

-- From the last entry of a table to its end the words are 0.
pub rest_clear : (ws l r : List ℕ) (at end : ℕ) → drop at ws ≡ padded (end - at) l ++ r
    → zeros ws (at + length l) (end - (at + length l)) ≡ true
rest_clear ws l r at end e =
    (let n : end - at - length l ≡ end - (at + length l) = omega arith in
    let z = entries_found ws l r at (end - at) e in
    let d = after_part ws l (replicate (end - at - length l) 0 ++ r) at (length l) z refl in
    sym (ap (zeros ws (at + length l)) n) ∙ zeros_read ws r (at + length l) (end - at - length l) d)

-- The words that tables take.
unfoldable pub total : List Table → ℕ
total [] = 0
total (t ∷ ts) = t.size + total ts

-- The words of every table fit into it.
unfoldable pub Fit : List Table → Type 0
Fit [] = Unit {0}
Fit (t ∷ ts) = (length t.entries ≤ t.size) × Fit ts

-- Tables take their sizes.
pub length_laid : (ts : List Table) → Fit ts → length (laid ts) ≡ total ts
unfolding laid total Fit
length_laid [] k = refl
length_laid (t ∷ ts) k =
    rw (length-append (padded t.size t.entries) (laid ts), length_padded t.size t.entries k.0, length_laid ts k.1)

-- Every table stands in the words, the first at `at`, each followed by the next.
unfoldable pub Found : List ℕ → ℕ → List Table → Type 0
Found ws at [] = Unit {0}
Found ws at (t ∷ ts) = (drop at ws ≡ padded t.size t.entries ++ drop (at + t.size) ws) × Found ws (at + t.size) ts

-- The words after tables that were laid.
pub after_laid : (ts : List Table) (ws r : List ℕ) (at : ℕ) → Fit ts → drop at ws ≡ laid ts ++ r → drop (at + total ts) ws ≡ r
after_laid ts ws r at k e = after_part ws (laid ts) r at (total ts) e (length_laid ts k)

-- The words after the first of them.
after_first : (t : Table) (ts : List Table) (ws r : List ℕ) (at : ℕ) → length t.entries ≤ t.size → drop at ws ≡ laid (t ∷ ts) ++ r
    → drop (at + t.size) ws ≡ laid ts ++ r
unfolding laid
after_first t ts ws r at k e =
    after_part ws (padded t.size t.entries) (laid ts ++ r) at t.size (e ∙ append_assoc (padded t.size t.entries) (laid ts) r)
    (length_padded t.size t.entries k)

-- Tables that were laid are found.
pub laid_found : (ts : List Table) (ws r : List ℕ) (at : ℕ) → Fit ts → drop at ws ≡ laid ts ++ r → Found ws at ts
unfolding laid Fit Found
laid_found [] ws r at k e = tt
laid_found (t ∷ ts) ws r at k e =
    (let next = after_first t ts ws r at k.0 e in (
      e ∙ append_assoc (padded t.size t.entries) (laid ts) r ∙ ap (λ l. padded t.size t.entries ++ l) (sym next),
      laid_found ts ws r (at + t.size) k.1 next,
    ))

-- Every table is the stretch of words at its place, the first at `at`.
unfoldable pub Reads : (ℕ → ℕ) → ℕ → List Table → Type 0
Reads f at [] = Unit {0}
Reads f at (t ∷ ts) = (padded t.size t.entries ≡ series f 1 at t.size) × Reads f (at + t.size) ts

-- Tables that are read one after another are the whole stretch.
pub laid_series : (f : ℕ → ℕ) (ts : List Table) (at : ℕ) → Reads f at ts → laid ts ≡ series f 1 at (total ts)
unfolding laid total Reads series
laid_series f [] at k = refl
laid_series f (t ∷ ts) at k =
    (let e : at + 1 * t.size ≡ at + t.size = omega arith in
    append_same k.0 (laid_series f ts (at + t.size) k.1 ∙ ap (λ n. series f 1 n (total ts)) (sym e)) ∙
    sym (series_append f 1 at t.size (total ts)))

-- Every table holds zeros alone.
unfoldable pub Empty : List Table → Type 0
Empty [] = Unit {0}
Empty (t ∷ ts) = ((t.entries ≡ replicate (length t.entries) 0) × (length t.entries ≤ t.size)) × Empty ts

-- Zeros filled up are zeros.
padded_zeros : (n : ℕ) (l : List ℕ) → l ≡ replicate (length l) 0 → length l ≤ n → padded n l ≡ replicate n 0
unfolding padded
padded_zeros n l e h =
    (let k : length l + (n - length l) ≡ n = omega arith in
    ap (λ x. x ++ replicate (n - length l) 0) e ∙ replicate-append-replicate {A = ℕ} (length l) (n - length l) 0 ∙
    ap (λ m. replicate m 0) k)

-- Tables that hold zeros alone are laid as zeros.
pub laid_zeros : (ts : List Table) → Empty ts → laid ts ≡ replicate (total ts) 0
unfolding laid total Empty
laid_zeros [] k = refl
laid_zeros (t ∷ ts) k =
    append_same (padded_zeros t.size t.entries k.0.0 k.0.1) (laid_zeros ts k.1) ∙
    replicate-append-replicate {A = ℕ} t.size (total ts) 0
