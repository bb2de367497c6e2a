-- A plan that is laid out right: what the test says, and the tables as parts of the plan.
use Rattle.std.proofs.Common.{◌≡◌, ℕ, ◌+◌, ◌-◌, ◌*◌, ◌/◌, ◌≤◌, Bool, true, false, ◌&&◌, List, length, get_or, take, drop, ap, ◌∙◌, ap₂, arith, length-drop, length-take, eq-eqb, eqb-true, le-leb, leb-true}
use mathlib.Core.Bool.{and-eq-true_iff}
use borrow.Author.Tests.{not-false}
use Rattle.meaning.specs.declared.Header.{Header}
use Rattle.meaning.specs.Plan.{words_of, table, arrival_at, layout_wrong, counts_allowed}
use Rattle.plan.proofs.WordLaws.{word_of_part}
use Rattle.plan.proofs.EntryLaws.{Local, table_same, arrival_local}
use Rattle.plan.specs.Parts.{arrivals_in}
use Rattle.plan.specs.Readable.{Layout}

-- A conjunction that holds has two parts that hold.
pub both : (a b : Bool) → (a && b) ≡ true → (a ≡ true) × (b ≡ true)
both a b e = (and-eq-true_iff a b).0 e

-- Counts that are allowed are at most 8, 32 and 4,096.
pub counts_few : (f c a : ℕ) → counts_allowed f c a ≡ true → (f ≤ 8) × (c ≤ 32) × (a ≤ 4096)
unfolding counts_allowed
counts_few f c a e =
    let p = both _ _ e in
    let q = both _ _ p.0 in
    (leb-true _ _ q.0, leb-true _ _ q.1, leb-true _ _ p.1)

-- What passes the test of the layout is laid out right, count by count and offset by offset.
pub layout_facts : (size : ℕ) (h : Header) → layout_wrong size h ≡ false → Layout size h
unfolding layout_wrong
layout_facts size h e =
    let p = both _ _ (not-false _ e) in
    let q = both _ _ p.0 in
    let r = both _ _ q.0 in
    let s = both _ _ r.0 in
    let few = counts_few _ _ _ s.0 in
    record {
      classes_few = few.0;
      connections_few = few.1;
      arrivals_few = few.2;
      classes_at_lem = eqb-true _ _ s.1;
      connections_at = eqb-true _ _ r.1;
      arrivals_at = eqb-true _ _ q.1;
      ends = eqb-true _ _ p.1;
    }

-- What is laid out right passes the test of the layout.
pub layout_right : (size : ℕ) (h : Header) → Layout size h → layout_wrong size h ≡ false
unfolding layout_wrong counts_allowed
layout_right size h l =
    rw (
      le-leb _ _ l.classes_few,
      le-leb _ _ l.connections_few,
      le-leb _ _ l.arrivals_few,
      eq-eqb _ _ l.classes_at_lem,
      eq-eqb _ _ l.connections_at,
      eq-eqb _ _ l.arrivals_at,
      eq-eqb _ _ l.ends,
    )

-- A table in a part of the bytes is the table in the whole, from the word on at which the part starts.
pub part_table :
    {A : Type 0} (entry : List ℕ → ℕ → A) (width : ℕ) → Local entry width →
    (bytes : List ℕ) (a n : ℕ) → 4 * a + 4 * (width * n) ≤ length bytes →
    table entry width (words_of (take (4 * (width * n)) (drop (4 * a) bytes))) 0 n ≡ table entry width (words_of bytes) a n
part_table entry width own bytes a n h =
    table_same entry width own (words_of (take (4 * (width * n)) (drop (4 * a) bytes))) (words_of bytes) 0 a n (λ k l.
    ap (λ i. get_or (words_of (take (4 * (width * n)) (drop (4 * a) bytes))) i 0) (omega arith) ∙ word_of_part bytes a (width * n) k h l)

-- The arrivals in the end of a plan are those of its arrival table.
pub arrivals_of_rest :
    (bytes : List ℕ) (h : Header) → Layout (length bytes) h →
    arrivals_in (take (length bytes - h.arrivals.start) (drop h.arrivals.start bytes)) ≡
    table arrival_at 3 (words_of bytes) (h.arrivals.start / 4) h.arrivals.count
unfolding arrivals_in
arrivals_of_rest bytes h l =
    let a = h.arrivals.start / 4 in
    let n = h.arrivals.count in
    let start : h.arrivals.start ≡ 4 * a = omega arith in
    let size : length bytes - h.arrivals.start ≡ 4 * (3 * n) = omega arith in
    let long : length (take (length bytes - h.arrivals.start) (drop h.arrivals.start bytes)) / 12 ≡ n =
    simp (length-take, length-drop) (omega arith) in
    ap (λ m. table arrival_at 3 (words_of (take (length bytes - h.arrivals.start) (drop h.arrivals.start bytes))) 0 m) long ∙
    ap₂ (λ x y. table arrival_at 3 (words_of (take x (drop y bytes))) 0 n) size start ∙
    part_table arrival_at 3 arrival_local bytes a n (omega arith)
