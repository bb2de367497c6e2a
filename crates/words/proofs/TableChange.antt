-- The one law of a change of the tables: a stretch of words between the number of rows and the lengths of the queues changes and nothing
-- else. What is read of other words is as it was, and the words become those of the box with the changed part.
use Prim.Native.Nat.{ℕ, ◌+◌, ◌*◌, ◌-◌, ◌≤◌, ◌<◌}
use mathlib.Core.Path.{◌≡◌, ap, ◌∙◌}
use mathlib.Core.Bool.{true}
use mathlib.Core.List.{List}
use native.Mathlib.Omega.{arith}
use lib.ListN.{length, set, length-set}
use Rattle.meaning.specs.declared.Packet.{Packet}
use Rattle.meaning.specs.declared.Standing.{Standing}
use Rattle.words.specs.Places.{word, interval_at, classes_at, factors_at, row_count_at, rows_at, counter_at, accepted_at, left_at, link_at, lengths_at}
use Rattle.words.specs.Contents.{contents, settings_at, standings, packet_at, link_of, queues_at}
use Rattle.words.specs.Sound.{zeros, link_clear, untagged_empty, Fitting}
use Rattle.words.specs.Changes.{Become}
use Rattle.words.proofs.Storing.{word_other}
use Rattle.words.proofs.Same.{settings_same, standings_same, packet_same, zeros_same, turns_same, link_clear_same, lengths_same, queues_same, untagged_same}
use Rattle.meaning.specs.declared.Link.{Link}

-- Words from `from` up to, not including, `to` change, and no others.
pub record Only (ws after : List ℕ) (from to : ℕ) : Type 0 where
  pub same_length : length after ≡ length ws
  pub kept : (i : ℕ) → (from ≤ i → i < to → ⊥) → word after i ≡ word ws i

-- A store changes one word.
pub stored_only : (ws : List ℕ) (at v : ℕ) → Only ws (set ws at v) at (at + 1)
stored_only ws at v =
    record { same_length = length-set ws at v; kept = λ i h. word_other ws at v i (λ q. h (omega arith) (omega arith)) }

module _ (ws after : List ℕ) (from to : ℕ) (k : Fitting ws) (o : Only ws after from to) where
  -- The settings stay where the change comes after them.
  pub settings_stay : row_count_at ≤ from → settings_at after ≡ (contents ws).settings
  unfolding contents
  settings_stay f = settings_same ws after k.classes (λ i h. o.kept i (λ p q. omega arith))

  -- The rows stay where the change comes after them.
  pub rows_stay : counter_at ≤ from → standings after ≡ (contents ws).standing
  unfolding contents
  rows_stay f = standings_same ws after k.rows (λ i a b. o.kept i (λ p q. omega arith))

  -- The counter and the count of accepted packets stay where the change comes after them.
  pub counter_stays : left_at ≤ from → word after counter_at ≡ (contents ws).counter
  unfolding contents
  counter_stays f = o.kept counter_at (λ p q. omega arith)

  -- The link stays where the change comes before it.
  pub link_stays : to ≤ left_at → link_of (word after left_at) (packet_at after link_at) ≡ (contents ws).link
  unfolding contents
  link_stays t =
      ap (λ n. link_of n (packet_at after link_at)) (o.kept left_at (λ p q. omega arith)) ∙
      ap (link_of (word ws left_at)) (packet_same ws after link_at link_at (λ j h. o.kept (link_at + j) (λ p q. omega arith)))

  -- It is then clear as before.
  pub link_stays_clear : to ≤ left_at → link_clear after ≡ true
  link_stays_clear t = link_clear_same ws after (λ i a b. o.kept i (λ p q. omega arith)) ∙ k.link_clear_lem

  -- The words of the queues stay where the change comes before them.
  pub far : to ≤ lengths_at → (i : ℕ) → lengths_at ≤ i → word after i ≡ word ws i
  far t i h = o.kept i (λ p q. omega arith)

  -- Where D and the counter stay too, so do the queues.
  pub queues_stay : row_count_at ≤ from → to ≤ lengths_at → word after counter_at ≡ word ws counter_at → queues_at after ≡ (contents ws).queues
  unfolding contents
  queues_stay f t c =
      queues_same ws after (far t) (settings_same ws after k.classes (λ i h. o.kept i (λ p q. omega arith)))
      (turns_same ws after (o.kept interval_at (λ p q. omega arith)) c)

  -- Where D and the counter stay too, the places of no tag stay empty.
  pub untagged_stays : row_count_at ≤ from → to ≤ lengths_at → word after counter_at ≡ word ws counter_at → untagged_empty after ≡ true
  untagged_stays f t c =
      untagged_same ws after (far t) (settings_same ws after k.classes (λ i h. o.kept i (λ p q. omega arith)))
      (turns_same ws after (o.kept interval_at (λ p q. omega arith)) c) ∙
      k.untagged

  -- The rows that are not used stay 0 where the change comes after them.
  pub rows_stay_clear : counter_at ≤ from
      → (word after row_count_at ≤ 32) × (zeros after (rows_at + 6 * word after row_count_at) (counter_at - (rows_at + 6 * word after row_count_at))
      ≡ true)
  rows_stay_clear f =
      let n : word after row_count_at ≡ word ws row_count_at = o.kept row_count_at (λ p q. omega arith) in (
        omega (arith, k.rows),
        rw n (zeros_same ws after (rows_at + 6 * word ws row_count_at) (counter_at - (rows_at + 6 * word ws row_count_at))
            (λ i a b. o.kept i (λ p q. omega (arith, k.rows))) ∙ k.rows_clear),
      )

  -- The words are fitting again where rows, link and queues are.
  fitting_stays : row_count_at ≤ from → to ≤ lengths_at
      → (word after row_count_at ≤ 32) × (zeros after (rows_at + 6 * word after row_count_at) (counter_at - (rows_at + 6 * word after row_count_at))
      ≡ true)
      → link_clear after ≡ true → untagged_empty after ≡ true → Fitting after
  fitting_stays f t r c u =
      let p : word after classes_at ≡ word ws classes_at = o.kept classes_at (λ x y. omega arith) in
      let d : word after interval_at ≡ word ws interval_at = o.kept interval_at (λ x y. omega arith) in
      let s = settings_same ws after k.classes (λ i h. o.kept i (λ x y. omega arith)) in
      let n = lengths_same ws after (far t) 64 in
      record {
        enough = omega (arith, k.enough, o.same_length);
        interval = omega (arith, k.interval);
        classes_least = omega (arith, k.classes_least);
        classes = omega (arith, k.classes);
        factors_clear =
            rw p (zeros_same ws after (factors_at + word ws classes_at) (row_count_at - (factors_at + word ws classes_at))
            (λ i a b. o.kept i (λ x y. omega (arith, k.classes))) ∙ k.factors_clear);
        rows = r.0;
        rows_clear = r.1;
        link_clear_lem = c;
        largest = rw s k.largest;
        untagged = u;
        total = omega (arith, k.total);
      }

  -- The words become those of the box whose rows, counter, count, link and queues they are then read as.
  pub table_become : (rows : List Standing) (counter accepted : ℕ) (link : Link) (queues : List (List Packet)) → row_count_at ≤ from
      → to ≤ lengths_at
      → (word after row_count_at ≤ 32) × (zeros after (rows_at + 6 * word after row_count_at) (counter_at - (rows_at + 6 * word after row_count_at))
      ≡ true)
      → link_clear after ≡ true → untagged_empty after ≡ true
      → standings after ≡ rows → word after counter_at ≡ counter → word after accepted_at ≡ accepted
      → link_of (word after left_at) (packet_at after link_at) ≡ link → queues_at after ≡ queues
      → Become ws after
      (record { settings = (contents ws).settings; standing = rows; counter = counter; accepted = accepted; link = link; queues = queues })
  unfolding contents
  table_become rows counter accepted link queues f t r c u er ec ea el eq =
      record {
        fitting = fitting_stays f t r c u;
        stands_for = rw (settings_stay f, er, ec, ea, el, eq);
        same_length = o.same_length;
        beyond = λ i h. far t i (omega arith);
      }
