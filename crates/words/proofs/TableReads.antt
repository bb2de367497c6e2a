-- The rows and the packets in words, as the tests of document 01 read them.
use Prim.Native.Nat.{ℕ, zero, suc, ◌+◌, ◌*◌, ◌-◌, ◌%◌, ◌≤◌, ◌<◌}
use mathlib.Core.Path.{◌≡◌, sym, ap, ◌∙◌}
use mathlib.Core.Bool.{true, ◌&&◌, and-eq-true_iff, and_assoc}
use mathlib.Core.List.{List}
use native.Mathlib.Omega.{arith}
use native.Mathlib.Decide.{dec_le}
use lib.ListN.{length, get_or}
use lib.Dec.{leb, eqb}
use borrow.Author.Tests.{leb-true}
use Rattle.laws.specs.Series.{length_series, get_or_series, map_series, every_index}
use Rattle.laws.specs.Tests.{within, every}
use Rattle.meaning.specs.declared.Connection.{Connection}
use Rattle.meaning.specs.Numbers.{settings_allowed, class_count, factor, largest_factor, connection_allowed, class_allowed, longest_allowed, burst_allowed, period_allowed}
use Rattle.meaning.specs.declared.Allowance.{Allowance}
use Rattle.meaning.specs.declared.Packet.{Packet}
use Rattle.meaning.specs.Envelope.{full, allowance_kept}
use Rattle.meaning.specs.Calls.{allowance}
use Rattle.meaning.specs.Box.{connections, connection, no_connection, stands, packet_kept}
use Rattle.meaning.proofs.Facts.{settings_facts, connection_facts, packet_facts}
use Rattle.words.specs.Places.{word, lengths_below, interval_at, cycle_at, classes_at, factors_at, row_count_at, rows_at, counter_at, accepted_at, lengths_at, box_words}
use Rattle.words.specs.Contents.{contents, settings_at, standing_at, standings}
use Rattle.words.specs.Sound.{zeros, Tables}
use Rattle.words.specs.Tested.{row_kept, settings_tested, rows_tested}
use Rattle.words.proofs.PutContents.{class_count_lem, row_count}

-- A connection is allowed exactly if its four numbers pass their tests, one after another.
pub connection_parts : (ws : List ℕ) (c : Connection)
    → connection_allowed (contents ws).settings c ≡ (within 1 c.class (word ws classes_at) && within 1 c.longest 64 && within 1 c.burst 64 &&
    within 1 c.period (word ws cycle_at) && eqb (word ws cycle_at % c.period) 0)
unfolding connection_allowed class_allowed longest_allowed burst_allowed period_allowed contents settings_at class_count
connection_parts ws c = simp (length_series, and_assoc)

-- What the connection of a number asked for stands in its row.
pub connection_at_lem : (ws : List ℕ) (n : ℕ) → 1 ≤ n → n ≤ word ws row_count_at
    → connection (contents ws) n ≡ (standing_at ws (rows_at - 6 + 6 * n)).asked
unfolding connection connections contents standings
connection_at_lem ws n h k =
    (let f : ℕ → Connection = λ i. (standing_at ws i).asked in
    let e : rows_at + 6 * (n - 1) ≡ (rows_at - 6 + 6 * n) = omega arith in
    ap (λ l. get_or l (n - 1) no_connection) (map_series (λ s. s.asked) (standing_at ws) 6 rows_at (word ws row_count_at)) ∙
    get_or_series f 6 rows_at (word ws row_count_at) (n - 1) no_connection (omega arith) ∙ ap f e)

-- A packet is kept exactly if its four numbers pass their tests, one after another.
pub packet_parts : (ws : List ℕ) (p : Packet)
    → packet_kept (contents ws) p ≡ (within 1 p.serial (word ws accepted_at) && within 1 p.connection (word ws row_count_at) &&
    within 1 p.units (connection (contents ws) p.connection).longest && leb p.arrival (word ws counter_at))
unfolding packet_kept stands contents standings
packet_parts ws p = simp length_series

-- The factor of a class stands in the table of factors.
pub factor_at_lem : (ws : List ℕ) (p : ℕ) → 1 ≤ p → p ≤ word ws classes_at → factor (settings_at ws) p ≡ word ws (factors_at - 1 + p)
unfolding factor settings_at
factor_at_lem ws p h k =
    (let f : ℕ → ℕ = λ i. word ws i in
    let e : factors_at + 1 * (p - 1) ≡ factors_at - 1 + p = omega arith in
    get_or_series f 1 factors_at (word ws classes_at) (p - 1) 0 (omega arith) ∙ ap f e)

-- The largest factor is the last one in the table of factors.
pub largest_at : (ws : List ℕ) → 1 ≤ word ws classes_at → largest_factor (settings_at ws) ≡ word ws (factors_at - 1 + word ws classes_at)
unfolding largest_factor class_count
largest_at ws h = ap (factor (settings_at ws)) (class_count_lem ws) ∙ factor_at_lem ws (word ws classes_at) h (omega arith)

-- The class of a connection that stands is one of the classes.
pub class_in_range : (ws : List ℕ) (n : ℕ) → Tables ws → 1 ≤ n → n ≤ word ws row_count_at
    → (1 ≤ (connection (contents ws) n).class) × ((connection (contents ws) n).class ≤ word ws classes_at)
unfolding standing_at
class_in_range ws n k h l =
    (let e : rows_at + 6 * (n - 1) ≡ rows_at - 6 + 6 * n = omega arith in
    let c : (connection (contents ws) n).class ≡ word ws (rows_at + 6 * (n - 1)) =
    ap (λ c. c.class) (connection_at_lem ws n h l) ∙ ap (word ws) (sym e) in
    rw c (k.class_least (n - 1) (omega arith), k.class_most (n - 1) (omega arith)))

-- A packet that is kept has a connection that stands.
pub kept_connection : (ws : List ℕ) (p : Packet) → packet_kept (contents ws) p ≡ true
    → (1 ≤ p.connection) × (p.connection ≤ word ws row_count_at)
unfolding contents
kept_connection ws p e =
    let f = packet_facts (contents ws) p e in (f.connection_least, rw (row_count ws) at f.connection_most)

-- Where D is at least 1, so is its word.
pub interval_at_lem : (ws : List ℕ) → 1 ≤ (settings_at ws).interval → 1 ≤ word ws interval_at
unfolding settings_at
interval_at_lem ws h = h

-- Where there is a class, the word for their number is at least 1.
pub classes_at_lem : (ws : List ℕ) → 1 ≤ class_count (settings_at ws) → 1 ≤ word ws classes_at
unfolding class_count
classes_at_lem ws h = rw (class_count_lem ws) at h

-- The class of a row that is kept is one of the classes.
row_class : (ws : List ℕ) (at : ℕ) → row_kept ws (standing_at ws at) ≡ true → (1 ≤ word ws at) × (word ws at ≤ word ws classes_at)
unfolding row_kept standing_at class_count
row_class ws at e =
    (let s = standing_at ws at in
    let f = connection_facts (settings_at ws) s.asked
    ((and-eq-true_iff (connection_allowed (settings_at ws) s.asked) (allowance_kept s.asked (word ws counter_at) s.allowance)).0 e).0 in
    (f.class_least, rw class_count_lem at f.class_most))

-- Tested settings and rows are tables from which packets can be tested.
pub tables_tested : (ws : List ℕ) → box_words ≤ length ws → settings_tested ws ≡ true → rows_tested ws ≡ true → Tables ws
unfolding settings_tested rows_tested standings
tables_tested ws h s r =
    (let a = (and-eq-true_iff (leb (word ws classes_at) 8 && settings_allowed (settings_at ws))
    (zeros ws (factors_at + word ws classes_at) (row_count_at - (factors_at + word ws classes_at)))).0 s in
    let b = (and-eq-true_iff (leb (word ws classes_at) 8) (settings_allowed (settings_at ws))).0 a.0 in
    let f = settings_facts (settings_at ws) b.1 in
    let c = (and-eq-true_iff (leb (word ws row_count_at) 32 && every (row_kept ws) (standings ws))
    (zeros ws (rows_at + 6 * word ws row_count_at) (counter_at - (rows_at + 6 * word ws row_count_at)))).0 r in
    let d = (and-eq-true_iff (leb (word ws row_count_at) 32) (every (row_kept ws) (standings ws))).0 c.0 in
    let rows = every_index (row_kept ws) (standing_at ws) 6 rows_at (word ws row_count_at) d.1 in
    record {
      enough = h;
      interval = interval_at_lem ws f.interval_least;
      classes_least = classes_at_lem ws f.classes_least;
      classes = leb-true (word ws classes_at) 8 b.0;
      rows = leb-true (word ws row_count_at) 32 d.0;
      class_least = λ i l. (row_class ws (rows_at + 6 * i) (rows i l)).0;
      class_most = λ i l. (row_class ws (rows_at + 6 * i) (rows i l)).1;
    })

-- The queue at a place ends where the packets of a higher place start, or before.
pub lengths_most : (ws : List ℕ) (p n : ℕ) → p < n → lengths_below ws p + word ws (lengths_at + p) ≤ lengths_below ws n
unfolding lengths_below
lengths_most ws p zero h = absurd (omega arith)
lengths_most ws p (suc n) h = elim (dec_le n p) [ yes k ↦ last (omega arith) | no k ↦ omega (arith, lengths_most ws p n (omega arith)) ]
  where
    last : p ≡ n → lengths_below ws p + word ws (lengths_at + p) ≤ lengths_below ws n + word ws (lengths_at + n)
    last e = rw e (omega arith)

-- The allowance of a connection stands in its row.
pub allowance_at : (ws : List ℕ) (n : ℕ) → 1 ≤ n → n ≤ word ws row_count_at
    → allowance (contents ws) n ≡ (standing_at ws (rows_at - 6 + 6 * n)).allowance
unfolding allowance contents standings
allowance_at ws n h k =
    (let f : ℕ → Allowance = λ i. (standing_at ws i).allowance in
    let e : rows_at + 6 * (n - 1) ≡ (rows_at - 6 + 6 * n) = omega arith in
    ap (λ l. get_or l (n - 1) (full no_connection)) (map_series (λ s. s.allowance) (standing_at ws) 6 rows_at (word ws row_count_at)) ∙
    get_or_series f 6 rows_at (word ws row_count_at) (n - 1) (full no_connection) (omega arith) ∙ ap f e)
