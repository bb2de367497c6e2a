-- A plan that reads well: its header, laid out right, and what every test of reading found.
use Rattle.std.specs.Prelude.{◌≡◌, ℕ, ◌≤◌, Bool, false, List, length}
use Rattle.meaning.specs.declared.Header.{Header}
use Rattle.meaning.specs.Plan.{words_of, classes_start, connections_start, arrivals_start, plan_size, header_of, contents_of, size_wrong, sum_wrong}
use Rattle.meaning.specs.Plan.{slots_wrong}

-- Counts that are allowed and offsets that leave no gap, in a plan of this size.
pub record Layout (size : ℕ) (h : Header) : Type 0 where
  pub classes_few : h.classes.count ≤ 8
  pub connections_few : h.connections.count ≤ 32
  pub arrivals_few : h.arrivals.count ≤ 4096
  pub classes_at_lem : h.classes.start ≡ classes_start
  pub connections_at : h.connections.start ≡ connections_start h.classes.count
  pub arrivals_at : h.arrivals.start ≡ arrivals_start h.classes.count h.connections.count
  pub ends : size ≡ plan_size h.classes.count h.connections.count h.arrivals.count

-- The test of the slots, of the arrivals that a plan's header and words tell.
unfoldable pub slots_wrong_in : List ℕ → Header → Bool
slots_wrong_in bytes h = slots_wrong (contents_of (words_of bytes) h).arrivals

-- Bytes that are a plan with this header: what every test found.
pub record Readable (bytes : List ℕ) (h : Header) : Type 0 where
  pub header : h ≡ header_of (words_of bytes)
  pub sized : size_wrong bytes ≡ false
  pub summed : sum_wrong (words_of bytes) ≡ false
  pub laid : Layout (length bytes) h
  pub slots : slots_wrong (contents_of (words_of bytes) h).arrivals ≡ false
