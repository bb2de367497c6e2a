-- Document 01, "Plan file": the contents of a plan and its bytes, reading, writing, and the arrivals of a slot.
use Rattle.std.specs.Prelude.{ℕ, zero, suc, ◌+◌, ◌*◌, ◌-◌, ◌/◌, ◌%◌, ◌^◌, Bool, true, cond, not, ◌&&◌, ◌||◌, length, get_or, leb, ltb, eqb, Result, Ok, Err}
use mathlib.Core.List.{List, [], ◌∷◌, ◌++◌, map, flatten}
use Rattle.laws.specs.Tests.{every}
use Rattle.laws.specs.Lists.{keep}
use Rattle.laws.specs.Sums.{sum_of}
use Rattle.meaning.specs.declared.Header.{Header}
use Rattle.meaning.specs.declared.Refusal.{Refusal}
use Rattle.meaning.specs.declared.Connection.{Connection}
use Rattle.meaning.specs.declared.Arrival.{Arrival}
use Rattle.meaning.specs.Numbers.{Settings}

-- The contents of a plan: D, M and the factors, the connections and the arrivals.
pub record Plan : Type 0 where
  pub settings : Settings
  pub connections : List Connection
  pub arrivals : List Arrival

-- "Little-endian 32-bit words": the word whose first byte stands at `at`.
unfoldable pub word_at : List ℕ → ℕ → ℕ
word_at bytes at = get_or bytes at 0 + 256 * get_or bytes (at + 1) 0 + 65536 * get_or bytes (at + 2) 0 + 16777216 * get_or bytes (at + 3) 0

-- So many words, from the byte `at` on.
unfoldable pub words_from : List ℕ → ℕ → ℕ → List ℕ
words_from bytes at zero = []
words_from bytes at (suc n) = word_at bytes at ∷ words_from bytes (at + 4) n

-- All whole words of the bytes.
unfoldable pub words_of : List ℕ → List ℕ
words_of bytes = words_from bytes 0 (length bytes / 4)

-- The four bytes of a word.
unfoldable pub bytes_of_word : ℕ → List ℕ
bytes_of_word w = w % 256 ∷ w / 256 % 256 ∷ w / 65536 % 256 ∷ w / 16777216 % 256 ∷ []

-- "sum of all words .. modulo 2^32".
unfoldable pub sum_words : List ℕ → ℕ
sum_words ws = sum_of (λ w. w) ws % 2 ^ 32

-- "a header of counts and offsets: 0 size in bytes; 1 D; 2 M; 3 class count; 4 byte offset of classes; 5 connection count; 6 offset
-- of connections; 7 arrival count; 8 offset of arrivals; 9 the word that brings the sum of all words to 0".
unfoldable pub header_of : List ℕ → Header
header_of ws =
    record {
      interval = get_or ws 1 0;
      cycle = get_or ws 2 0;
      classes = record { count = get_or ws 3 0; start = get_or ws 4 0 };
      connections = record { count = get_or ws 5 0; start = get_or ws 6 0 };
      arrivals = record { count = get_or ws 7 0; start = get_or ws 8 0 };
    }

-- "Then the tables without gaps, in that order": a factor of 4 bytes per class, 16 bytes per connection, 12 per arrival.
abbrev pub classes_start : ℕ
classes_start = 40

-- The byte at which the connections start, after 4 bytes for each class.
abbrev pub connections_start : ℕ → ℕ
connections_start classes = classes_start + 4 * classes

-- The byte at which the arrivals start, after 16 bytes for each connection.
abbrev pub arrivals_start : ℕ → ℕ → ℕ
arrivals_start classes connections = connections_start classes + 16 * connections

-- "The file ends with them."
abbrev pub plan_size : ℕ → ℕ → ℕ → ℕ
plan_size classes connections arrivals = arrivals_start classes connections + 12 * arrivals

-- "Counts: at most 8, 32 and 4,096; zero is allowed in the file."
unfoldable pub counts_allowed : ℕ → ℕ → ℕ → Bool
counts_allowed classes connections arrivals = leb classes 8 && leb connections 32 && leb arrivals 4096

-- An entry of each table, at a word.
unfoldable pub factor_at : List ℕ → ℕ → ℕ
factor_at ws i = get_or ws i 0

-- The connection whose entry starts at this word.
unfoldable pub connection_at : List ℕ → ℕ → Connection
connection_at ws i = record { class = get_or ws i 0; longest = get_or ws (i + 1) 0; burst = get_or ws (i + 2) 0; period = get_or ws (i + 3) 0 }

-- The arrival whose entry starts at this word.
unfoldable pub arrival_at : List ℕ → ℕ → Arrival
arrival_at ws i = record { slot = get_or ws i 0; place = get_or ws (i + 1) 0; units = get_or ws (i + 2) 0 }

-- A table of n entries of so many words each, from the word i on.
unfoldable pub table : {A : Type 0} → (List ℕ → ℕ → A) → ℕ → List ℕ → ℕ → ℕ → List A
table entry width ws i zero = []
table entry width ws i (suc n) = entry ws i ∷ table entry width ws (i + width) n

-- The contents that a plan of these words, with this header, stands for.
unfoldable pub contents_of : List ℕ → Header → Plan
contents_of ws h =
    record {
      settings =
          record { interval = h.interval; cycle = h.cycle; factors = table factor_at 1 ws (h.classes.start / 4) h.classes.count };
      connections = table connection_at 4 ws (h.connections.start / 4) h.connections.count;
      arrivals = table arrival_at 3 ws (h.arrivals.start / 4) h.arrivals.count;
    }

-- 13: "plan under 40 bytes, above 65,536, not a multiple of 4, or word 0 differs from its size".
unfoldable pub size_wrong : List ℕ → Bool
size_wrong bytes =
    ltb (length bytes) 40 ||
    ltb 65536 (length bytes) ||
    not (eqb (length bytes % 4) 0) ||
    not (eqb (get_or (words_of bytes) 0 0) (length bytes))

-- 14: "the plan's words do not sum to 0 modulo 2^32".
unfoldable pub sum_wrong : List ℕ → Bool
sum_wrong ws = not (eqb (sum_words ws) 0)

-- 15: "plan counts or offsets are wrong".
unfoldable pub layout_wrong : ℕ → Header → Bool
layout_wrong size h =
    not
    (counts_allowed h.classes.count h.connections.count h.arrivals.count &&
    eqb h.classes.start classes_start &&
    eqb h.connections.start (connections_start h.classes.count) &&
    eqb h.arrivals.start (arrivals_start h.classes.count h.connections.count) &&
    eqb size (plan_size h.classes.count h.connections.count h.arrivals.count))

-- The slots of arrivals never fall, and none is below `low`.
unfoldable pub never_falling_from : ℕ → List Arrival → Bool
never_falling_from low [] = true
never_falling_from low (a ∷ l) = leb low a.slot && never_falling_from a.slot l

-- The largest slot of an arrival in a plan.
abbrev pub last_arrival_slot : ℕ
last_arrival_slot = 1000000

-- 16: "arrival slots fall, or one exceeds 1,000,000".
unfoldable pub slots_wrong : List Arrival → Bool
slots_wrong arrivals = not (never_falling_from 0 arrivals && every (λ a. leb a.slot last_arrival_slot) arrivals)

-- "Reading: 13, 14, 15, 16." "The whole sum is tested before any later field is believed."
unfoldable pub reading_answer : List ℕ → Result Header Refusal
reading_answer bytes =
    cond (size_wrong bytes) (Err Refusal.WrongSize)
    (cond (sum_wrong (words_of bytes)) (Err Refusal.WrongSum)
    (cond (layout_wrong (length bytes) (header_of (words_of bytes))) (Err Refusal.WrongLayout)
    (cond (slots_wrong (contents_of (words_of bytes) (header_of (words_of bytes))).arrivals) (Err Refusal.WrongSlots)
    (Ok (header_of (words_of bytes))))))

-- The words of an entry of each table.
unfoldable pub connection_words : Connection → List ℕ
connection_words c = c.class ∷ c.longest ∷ c.burst ∷ c.period ∷ []

-- The words of an arrival's entry.
unfoldable pub arrival_words : Arrival → List ℕ
arrival_words a = a.slot ∷ a.place ∷ a.units ∷ []

-- The three tables.
unfoldable pub table_words : Plan → List ℕ
table_words plan =
    plan.settings.factors ++ flatten (map connection_words plan.connections) ++ flatten (map arrival_words plan.arrivals)

-- The size of a plan in bytes.
unfoldable pub size_of : Plan → ℕ
size_of plan = plan_size (length plan.settings.factors) (length plan.connections) (length plan.arrivals)

-- The header up to the sum word.
unfoldable pub header_words : Plan → List ℕ
header_words plan =
    size_of plan ∷
    plan.settings.interval ∷
    plan.settings.cycle ∷
    length plan.settings.factors ∷
    classes_start ∷
    length plan.connections ∷
    connections_start (length plan.settings.factors) ∷
    length plan.arrivals ∷
    arrivals_start (length plan.settings.factors) (length plan.connections) ∷
    []

-- "the word that brings the sum of all words to 0 modulo 2^32".
unfoldable pub sum_word : List ℕ → ℕ
sum_word others = (2 ^ 32 - sum_words others) % 2 ^ 32

-- The words of a plan.
unfoldable pub plan_words : Plan → List ℕ
plan_words plan = header_words plan ++ (sum_word (header_words plan ++ table_words plan) ∷ table_words plan)

-- The bytes of a plan.
unfoldable pub plan_bytes : Plan → List ℕ
plan_bytes plan = flatten (map bytes_of_word (plan_words plan))

-- What the writer is lent: D, M and the three tables, as words one after another.
pub record Lent : Type 0 where
  pub interval : ℕ
  pub cycle : ℕ
  pub factors : List ℕ
  pub connections : List ℕ
  pub arrivals : List ℕ

-- The contents that the lent tables stand for.
unfoldable pub lent_plan : Lent → Plan
lent_plan l =
    record {
      settings = record { interval = l.interval; cycle = l.cycle; factors = l.factors };
      connections = table connection_at 4 l.connections 0 (length l.connections / 4);
      arrivals = table arrival_at 3 l.arrivals 0 (length l.arrivals / 3);
    }

-- 15 of a writer: counts that are too large, or tables that are not whole entries.
unfoldable pub lent_wrong : Lent → Bool
lent_wrong l =
    not
    (counts_allowed (length l.factors) (length l.connections / 4) (length l.arrivals / 3) &&
    eqb (length l.connections % 4) 0 &&
    eqb (length l.arrivals % 3) 0)

-- "Writing: 15, 16, 17": into so many bytes.
unfoldable pub writing_answer : Lent → ℕ → Result ℕ Refusal
writing_answer l room =
    cond (lent_wrong l) (Err Refusal.WrongLayout)
    (cond (slots_wrong (lent_plan l).arrivals) (Err Refusal.WrongSlots)
    (cond (ltb room (size_of (lent_plan l))) (Err Refusal.TooShort)
    (Ok (size_of (lent_plan l)))))

-- "The arrivals of one slot": those of the list whose slot it is, in the list's order.
unfoldable pub arrivals_of : ℕ → List Arrival → List Arrival
arrivals_of slot arrivals = keep (λ a. eqb a.slot slot) arrivals
