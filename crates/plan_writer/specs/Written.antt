-- What the writer is lent, and what it leaves in the buffer that it is lent.
use Rattle.std.specs.Prelude.{◌≡◌, ℕ, ◌+◌, ◌*◌, ◌/◌, ◌%◌, ◌≤◌, List, ◌++◌, length, drop, Result, Ok, Err}
use Rattle.plan_writer.specs.declared.writing.Lent as Struct
use Rattle.meaning.specs.Plan.{Lent, lent_plan, plan_bytes, writing_answer}
use Rattle.meaning.specs.declared.Refusal.{Refusal}

-- The arguments of the writer as one thing.
abbrev pub lent : ℕ → ℕ → List ℕ → List ℕ → List ℕ → Lent
lent interval cycle factors connections arrivals =
    record { interval = interval; cycle = cycle; factors = factors; connections = connections; arrivals = arrivals }

-- What the struct of the code lends.
abbrev pub tables_of : Struct.Lent → Lent
tables_of l = lent l.interval l.cycle l.factors.now l.connections.now l.arrivals.now

-- Tables whose counts are allowed and whose entries are whole.
pub record Lengths (l : Lent) : Type 0 where
  pub factors_few : length l.factors ≤ 8
  pub connections_few : length l.connections / 4 ≤ 32
  pub arrivals_few : length l.arrivals / 3 ≤ 4096
  pub connections_whole : length l.connections % 4 ≡ 0
  pub arrivals_whole : length l.arrivals % 3 ≡ 0

-- The size of their plan, in bytes.
abbrev pub lent_size : Lent → ℕ
lent_size l = 40 + 4 * length l.factors + 4 * length l.connections + 4 * length l.arrivals

-- The buffer after an answer: the bytes of the plan and then what stood behind them, or all as it was.
unfoldable pub bytes_by : Result ℕ Refusal → Lent → List ℕ → List ℕ
bytes_by (Ok size) l buf = plan_bytes (lent_plan l) ++ drop size buf
bytes_by (Err why) l buf = buf

-- The buffer after writing.
unfoldable pub bytes_after : Lent → List ℕ → List ℕ
bytes_after l buf = bytes_by (writing_answer l (length buf)) l buf
