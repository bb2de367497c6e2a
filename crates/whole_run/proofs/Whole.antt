-- A plan that reads well, in a box that is open: its tables, its admissions and the rest of its run.
use Prim.Native.Nat.{ℕ, ◌+◌, ◌*◌, ◌/◌, ◌≤◌}
use mathlib.Core.Path.{◌≡◌, sym, ap, ap₂, ◌∙◌, subst}
use mathlib.Core.Bool.{true, false, and-eq-true_iff}
use mathlib.Core.List.{List, ◌++◌}
use native.Mathlib.Omega.{arith}
use lib.ListN.{length, take, length-take, length-drop}
use lib.Dec.{leb}
use borrow.Author.Tests.{le-leb, not-false}
use Rattle.laws.specs.Tests.{every}
use Rattle.laws.specs.Lists.{placed_from}
use Rattle.meaning.specs.declared.Header.{Header}
use Rattle.meaning.specs.declared.Table.{Table}
use Rattle.meaning.specs.Box.{Box}
use Rattle.meaning.specs.Calls.{new_box}
use Rattle.meaning.specs.declared.Arrival.{Arrival}
use Rattle.meaning.specs.Plan.{Plan, words_of, contents_of, table, factor_at, connection_at, never_falling_from, last_arrival_slot, slots_wrong}
use Rattle.meaning.specs.Run.{AfterAdmissions, admit_all, open_run}
use Rattle.meaning.specs.Lines.{text_of}
use Rattle.meaning.specs.Rest.{rest_of}
use Rattle.meaning.proofs.SlotsEnough.{admissions_weight}
use Rattle.meaning.proofs.RestOfRun.{open_run_lem}
use Rattle.words.specs.Contents.{contents}
use Rattle.tables.specs.Opening.{asked}
use Rattle.plan.specs.Entries.{take_table}
use Rattle.plan.specs.Parts.{part_of, arrivals_in}
use Rattle.plan.specs.Readable.{Readable}
use Rattle.plan.proofs.Good.{classes_hold, connections_hold, arrivals_hold, never_falling}
use Rattle.lines.specs.Put.{Room, Put}
use Rattle.whole_run.specs.Parts.{Admits, Sorted, admissions_of, connections_in, rest_of_run}
use Rattle.lines.proofs.Reached.{Reached, reached_start, reached_as, reached_room, reached_next, reached_on, reached_last, text_append}

-- How long the part of a table is.
part_length : (bytes : List ℕ) (t : Table) (width : ℕ) → t.start + width * t.count ≤ length bytes
    → length (part_of bytes t width) ≡ width * t.count
unfolding part_of
part_length bytes t width h = rw (le-leb _ _ h, length-take, length-drop) (omega arith)

-- Slots that pass the test do not exceed 1,000,000.
none_wrong : (l : List Arrival) → slots_wrong l ≡ false → every (λ a. leb a.slot last_arrival_slot) l ≡ true
unfolding slots_wrong
none_wrong l e = ((and-eq-true_iff (never_falling_from 0 l) (every (λ a. leb a.slot last_arrival_slot) l)).0 (not-false _ e)).1

module _ (bytes : List ℕ) (h : Header) (r : Readable bytes h) where
  -- The contents of the plan.
  abbrev plan : Plan
  plan = contents_of (words_of bytes) h

  -- The class table has as many entries as the header says.
  class_count_lem : length (part_of bytes h.classes 4) / 4 ≡ h.classes.count
  class_count_lem = let l = r.laid in let n = part_length bytes h.classes 4 (omega arith) in omega (arith, n)

  module _ (classes : List ℕ) (is : classes ≡ part_of bytes h.classes 4) where
    -- The class table has at most 8 entries.
    pub classes_few : length classes / 4 ≤ 8
    classes_few = let l = r.laid in subst (λ p. length p / 4 ≤ 8) (sym is) (omega (arith, class_count_lem, l.classes_few))

    -- D, M and the factors copied from the class table are the plan's settings.
    pub factors_are : (factors : List ℕ) → factors ≡ table factor_at 1 (words_of classes) 0 8
        → asked h.interval h.cycle (take (length classes / 4) factors) ≡ (contents_of (words_of bytes) h).settings
    unfolding contents_of
    factors_are factors e =
        let n : length classes / 4 ≡ h.classes.count = ap (λ p. length p / 4) is ∙ class_count_lem in
        ap (asked h.interval h.cycle)
        (ap (take (length classes / 4)) e ∙
        take_table factor_at 1 (words_of classes) 0 8 (length classes / 4) classes_few ∙
        ap₂ (λ p k. table factor_at 1 (words_of p) 0 k) is n ∙
        classes_hold bytes h r)

  -- The connection table has as many entries as the header says.
  connection_count : length (part_of bytes h.connections 16) / 16 ≡ h.connections.count
  connection_count = let l = r.laid in let n = part_length bytes h.connections 16 (omega arith) in omega (arith, n)

  module _ (conns : List ℕ) (is : conns ≡ part_of bytes h.connections 16) where
    -- The connection table has at most 32 entries.
    pub connections_few : length conns / 16 ≤ 32
    connections_few = let l = r.laid in subst (λ p. length p / 16 ≤ 32) (sym is) (omega (arith, connection_count, l.connections_few))

    -- The connections of the table are those of the plan.
    connections_are : connections_in conns ≡ (contents_of (words_of bytes) h).connections
    unfolding connections_in
    connections_are =
        ap connections_in is ∙ ap (table connection_at 4 (words_of (part_of bytes h.connections 16)) 0) connection_count ∙
        connections_hold bytes h r

  -- the arrival table
  module _ (arrivals : List ℕ) (is : arrivals ≡ part_of bytes h.arrivals 12) where
    -- The slots of the arrival table never fall, none exceeds 1,000,000, and it is no longer than a plan's.
    pub sorted : Sorted arrivals
    sorted =
        let l = r.laid in
        let n = part_length bytes h.arrivals 12 (omega arith) in
        subst Sorted (sym is)
        (record {
          never_falling = never_falling bytes h r;
          none_exceeds =
              ap (every (λ (a : Arrival). leb a.slot last_arrival_slot)) (arrivals_hold bytes h r) ∙
              none_wrong (contents_of (words_of bytes) h).arrivals r.slots;
          entries_most = omega (arith, n, l.arrivals_few);
        })

    -- The arrivals of the table are those of the plan.
    arrivals_are : arrivals_in arrivals ≡ (contents_of (words_of bytes) h).arrivals
    arrivals_are = ap arrivals_in is ∙ arrivals_hold bytes h r

  -- the run in a new box: the admissions, and the rest
  module _ (ws : List ℕ) (new : contents ws ≡ new_box (contents_of (words_of bytes) h).settings) (conns : List ℕ)
      (is : conns ≡ part_of bytes h.connections 16) (out : List ℕ)
      (room : Room out 0 (text_of (open_run (contents_of (words_of bytes) h))))
    where
      -- The admissions of the connection table from the box in the words.
      abbrev admissions : AfterAdmissions
      admissions = admissions_of conns (contents ws)

      -- These admissions are those of the plan from a new box.
      admissions_same : admissions ≡ admit_all 1 (contents_of (words_of bytes) h).connections
          (new_box (contents_of (words_of bytes) h).settings)
      admissions_same = ap₂ (admit_all 1) (connections_are conns is) new

      -- The text of the run is that of the admissions and that of the rest.
      whole : text_of (open_run (contents_of (words_of bytes) h)) ≡
          text_of admissions.lines ++ text_of
          (rest_of (placed_from 1 (contents_of (words_of bytes) h).arrivals) admissions.numbers admissions.box 0)
      whole =
          ap text_of
          (open_run_lem plan ∙
          sym (ap (λ (a : AfterAdmissions). a.lines ++ rest_of (placed_from 1 plan.arrivals) a.numbers a.box 0) admissions_same)) ∙
          text_append admissions.lines (rest_of (placed_from 1 plan.arrivals) admissions.numbers admissions.box 0)

      -- At the start the text of the admissions and that of the rest are still to come.
      started : Reached out out 0 (text_of (open_run (contents_of (words_of bytes) h)))
          (text_of admissions.lines ++
          text_of (rest_of (placed_from 1 (contents_of (words_of bytes) h).arrivals) admissions.numbers admissions.box 0)) 0
      started = reached_as _ whole (reached_start out 0 (text_of (open_run plan)))

      -- There is room for the text of the admissions.
      pub admissions_room : Room out 0 (text_of (admissions_of conns (contents ws)).lines)
      admissions_room =
          reached_next (text_of admissions.lines)
          (text_of (rest_of (placed_from 1 plan.arrivals) admissions.numbers admissions.box 0)) room started

      module _ {left numbers printed : List ℕ} {at : ℕ}
          (a : Admits (admissions_of conns (contents ws)) (length conns / 16) left numbers out printed at)
        where
          -- After the admissions the counter is still 0.
          pub counter_zero : (contents left).counter ≡ 0
          unfolding new_box
          counter_zero =
              ap (λ (b : Box). b.counter) a.stand_for ∙ (admissions_weight 1 (connections_in conns) (contents ws)).0 ∙
              ap (λ (b : Box). b.counter) new

          module _ (arrivals : List ℕ) (arrivals_is : arrivals ≡ part_of bytes h.arrivals 12) where
            -- After the admissions the text of the rest of the run is still to come.
            rest_reached : Reached out printed 0 (text_of (open_run (contents_of (words_of bytes) h)))
                (text_of (rest_of_run (take (length conns / 16) numbers) arrivals (contents left))) at
            rest_reached =
                reached_as _
                (ap text_of
                (ap (λ l. rest_of (placed_from 1 l) admissions.numbers admissions.box 0) (sym (arrivals_are arrivals arrivals_is)) ∙
                ap₂ (λ n (b : Box). rest_of (placed_from 1 (arrivals_in arrivals)) n b 0) (sym a.numbers_are) (sym a.stand_for)))
                (reached_on (text_of admissions.lines)
                (text_of (rest_of (placed_from 1 plan.arrivals) admissions.numbers admissions.box 0)) room started a.text)

            -- There is room for the text of the rest of the run.
            pub rest_room : Room printed at (text_of (rest_of_run (take (length conns / 16) numbers) arrivals (contents left)))
            rest_room = reached_room room rest_reached

            -- With the rest of the run put, the whole text is put.
            pub rest_put :
                {last : List ℕ} {next : ℕ}
                → Put printed last at (text_of (rest_of_run (take (length conns / 16) numbers) arrivals (contents left))) next
                → Put out last 0 (text_of (open_run (contents_of (words_of bytes) h))) next
            rest_put p = reached_last room rest_reached p
