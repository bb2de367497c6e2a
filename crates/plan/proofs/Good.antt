-- What is known of a plan that was read: each table is a part of its bytes, and its entries are the contents.
use Rattle.std.proofs.Common.{◌≡◌, ℕ, ◌+◌, ◌*◌, ◌/◌, ◌<◌, ◌≤◌, Bool, true, false, List, length, get_or, take, drop, sym, refl, ap, ◌∙◌, ap₂, ⊎_elim, true≢false, mul_assoc, arith, length-drop, length-take, le-leb, Result, Ok, Err}
use mathlib.Core.Bool.{and-eq-true_iff}
use borrow.Author.Tests.{not-false}
use Rattle.laws.specs.Tests.{bool_cases}
use Rattle.meaning.specs.declared.Connection.{Connection}
use Rattle.meaning.specs.declared.Header.{Header}
use Rattle.meaning.specs.declared.Table.{Table}
use Rattle.meaning.specs.declared.Refusal.{Refusal}
use Rattle.meaning.specs.declared.Arrival.{Arrival}
use Rattle.meaning.specs.Plan.{words_of, header_of, contents_of, size_wrong, sum_wrong, layout_wrong, slots_wrong, never_falling_from, reading_answer}
use Rattle.meaning.specs.Plan.{table, factor_at, connection_at, arrival_at}
use Rattle.plan.proofs.EntryLaws.{Local, factor_local, connection_local, arrival_local}
use Rattle.plan.specs.Entries.{get_or_table}
use Rattle.plan.specs.Parts.{part_of, arrivals_in}
use Rattle.plan.proofs.LaidOut.{layout_facts, layout_right, part_table}
use Rattle.plan.proofs.Answers.{answer_13, answer_14, answer_15, answer_16, answer_0}
use Rattle.plan.specs.Readable.{slots_wrong_in, Readable}

-- An answer that refuses.
abbrev refuses : Result Header Refusal → Bool
refuses (Ok h) = false
refuses (Err why) = true

-- A plan whose header was answered passed every test.
pub read_facts : (bytes : List ℕ) (h : Header) → reading_answer bytes ≡ Ok h → Readable bytes h
unfolding slots_wrong_in
read_facts bytes h good =
    ⊎_elim (λ a. other (Err Refusal.WrongSize) refl (answer_13 bytes a))
    (λ a.
    ⊎_elim (λ b. other (Err Refusal.WrongSum) refl (answer_14 bytes a b))
    (λ b.
    let k = header_of (words_of bytes) in
    ⊎_elim (λ c. other (Err Refusal.WrongLayout) refl (answer_15 bytes k refl a b c))
    (λ c.
    ⊎_elim (λ d. other (Err Refusal.WrongSlots) refl (answer_16 bytes k refl a b c d)) (λ d. found a b c d)
    (bool_cases (slots_wrong_in bytes k)))
    (bool_cases (layout_wrong (length bytes) k)))
    (bool_cases (sum_wrong (words_of bytes))))
    (bool_cases (size_wrong bytes))
  where
    other : (r : Result Header Refusal) → refuses r ≡ true → r ≡ reading_answer bytes → Readable bytes h
    other r t e = absurd (true≢false (sym t ∙ ap refuses (e ∙ good)))

    found :
        size_wrong bytes ≡ false → sum_wrong (words_of bytes) ≡ false →
        layout_wrong (length bytes) (header_of (words_of bytes)) ≡ false →
        slots_wrong_in bytes (header_of (words_of bytes)) ≡ false → Readable bytes h
    found a b c d =
        let k = header_of (words_of bytes) in
        let same : Ok k ≡ Ok h = answer_0 bytes k refl a b c d ∙ good in
        let e : h ≡ k = cc in
        record {
          header = e;
          sized = a;
          summed = b;
          laid = rw e (layout_facts (length bytes) k c);
          slots = rw e d;
        }

-- A plan that passes every test has its header answered.
pub read_back : (bytes : List ℕ) (h : Header) → Readable bytes h → reading_answer bytes ≡ Ok h
unfolding slots_wrong_in
read_back bytes h r =
    sym (answer_0 bytes h r.header r.sized r.summed (layout_right (length bytes) h r.laid) r.slots)

-- The slots of arrivals that pass the test never fall.
pub rising : (l : List Arrival) → slots_wrong l ≡ false → never_falling_from 0 l ≡ true
unfolding slots_wrong
rising l e = ((and-eq-true_iff (never_falling_from 0 l) _).0 (not-false _ e)).0

-- "Then the tables without gaps": each table is the part of the plan from its offset on, and its entries are the contents.
module _ (bytes : List ℕ) (h : Header) (r : Readable bytes h) where
  -- A part that lies in the plan is the bytes from its offset on.
  part_is :
      (t : Table) (width : ℕ) → t.start + width * t.count ≤ length bytes →
      part_of bytes t width ≡ take (width * t.count) (drop t.start bytes)
  unfolding part_of
  part_is t width l = rw (le-leb _ _ l)

  -- The entries in the part of a table are those that stand in the plan.
  part_holds :
      {A : Type 0} (entry : List ℕ → ℕ → A) (width : ℕ) → Local entry width →
      (t : Table) (a : ℕ) → t.start ≡ 4 * a → t.start + 4 * width * t.count ≤ length bytes →
      table entry width (words_of (part_of bytes t (4 * width))) 0 t.count ≡ table entry width (words_of bytes) (t.start / 4) t.count
  part_holds entry width own t a e l =
      let n : 4 * width * t.count ≡ 4 * (width * t.count) = mul_assoc 4 width t.count in
      let at : a ≡ t.start / 4 = omega arith in
      ap (λ p. table entry width (words_of p) 0 t.count) (part_is t (4 * width) l) ∙
      ap₂ (λ x y. table entry width (words_of (take x (drop y bytes))) 0 t.count) n e ∙
      part_table entry width own bytes a t.count (omega (arith, n)) ∙
      ap (λ i. table entry width (words_of bytes) i t.count) at

  -- The part of the class table holds the factors of the contents.
  pub classes_hold :
      table factor_at 1 (words_of (part_of bytes h.classes 4)) 0 h.classes.count ≡ (contents_of (words_of bytes) h).settings.factors
  unfolding contents_of
  classes_hold = let l = r.laid in part_holds factor_at 1 factor_local h.classes 10 (omega arith) (omega arith)

  -- The part of the connection table holds the connections of the contents.
  pub connections_hold :
      table connection_at 4 (words_of (part_of bytes h.connections 16)) 0 h.connections.count ≡
      (contents_of (words_of bytes) h).connections
  unfolding contents_of
  connections_hold =
      let l = r.laid in
      part_holds connection_at 4 connection_local h.connections (10 + h.classes.count) (omega arith) (omega arith)

  -- The part of the arrival table holds the arrivals of the contents.
  pub arrivals_hold : arrivals_in (part_of bytes h.arrivals 12) ≡ (contents_of (words_of bytes) h).arrivals
  unfolding contents_of arrivals_in
  arrivals_hold =
      let l = r.laid in
      let fits : h.arrivals.start + 12 * h.arrivals.count ≤ length bytes = omega arith in
      let long : length (part_of bytes h.arrivals 12) / 12 ≡ h.arrivals.count =
      ap (λ p. length p / 12) (part_is h.arrivals 12 fits) ∙ counted fits in
      ap (table arrival_at 3 (words_of (part_of bytes h.arrivals 12)) 0) long ∙
      part_holds arrival_at 3 arrival_local h.arrivals (10 + h.classes.count + 4 * h.connections.count) (omega arith) fits
    where
      counted :
          h.arrivals.start + 12 * h.arrivals.count ≤ length bytes →
          length (take (12 * h.arrivals.count) (drop h.arrivals.start bytes)) / 12 ≡ h.arrivals.count
      counted l = simp (length-take, length-drop) (omega arith)

  -- The slots of the arrival table never fall, and none exceeds the largest.
  pub never_falling : never_falling_from 0 (arrivals_in (part_of bytes h.arrivals 12)) ≡ true
  never_falling = ap (never_falling_from 0) arrivals_hold ∙ rising (contents_of (words_of bytes) h).arrivals r.slots

  -- An entry by its number, counted from 0, is that entry of the contents.
  entry_holds :
      {A : Type 0} (entry : List ℕ → ℕ → A) (width : ℕ) (part : List ℕ) (n i : ℕ) (l : List A) (d : A) →
      i < n → table entry width (words_of part) 0 n ≡ l → entry (words_of part) (width * i) ≡ get_or l i d
  entry_holds entry width part n i l d below e =
      let at : width * i ≡ 0 + width * i = omega arith in
      ap (entry (words_of part)) at ∙
      sym (get_or_table entry width (words_of part) 0 n i d below) ∙
      ap (λ m. get_or m i d) e

  -- A factor by its number, in the part of the class table, is that factor of the contents.
  pub factor_holds :
      (i : ℕ) → i < h.classes.count →
      factor_at (words_of (part_of bytes h.classes 4)) i ≡ get_or (contents_of (words_of bytes) h).settings.factors i 0
  factor_holds i below =
      let at : i ≡ 1 * i = omega arith in
      let part = part_of bytes h.classes 4 in
      ap (factor_at (words_of part)) at ∙
      entry_holds factor_at 1 part h.classes.count i (contents_of (words_of bytes) h).settings.factors 0 below classes_hold

  -- A connection by its number, in the part of the connection table, is that connection of the contents.
  pub connection_holds :
      (i : ℕ) (d : Connection) → i < h.connections.count →
      connection_at (words_of (part_of bytes h.connections 16)) (4 * i) ≡ get_or (contents_of (words_of bytes) h).connections i d
  connection_holds i d below =
      let part = part_of bytes h.connections 16 in
      entry_holds connection_at 4 part h.connections.count i (contents_of (words_of bytes) h).connections d below connections_hold
