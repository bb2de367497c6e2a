-- Contents and lent tables that fit a plan file, and contents as the writer is lent them.
use Rattle.std.specs.Prelude.{◌≡◌, ℕ, ◌^◌, ◌<◌, ◌≤◌, false, map, length, slice_index}
use mathlib.Core.List.{flatten}
use Rattle.meaning.specs.Plan.{Plan, connection_words, arrival_words, table_words, size_of, slots_wrong, Lent, lent_plan, lent_wrong}

-- Contents that fit a plan file: counts that are allowed, slots that never fall nor exceed the largest, and numbers of 32 bits.
pub record Writable (plan : Plan) : Type 0 where
  pub factors_few : length plan.settings.factors ≤ 8
  pub connections_few : length plan.connections ≤ 32
  pub arrivals_few : length plan.arrivals ≤ 4096
  pub slots_right : slots_wrong plan.arrivals ≡ false
  pub interval_fits : plan.settings.interval < 2 ^ 32
  pub cycle_fits : plan.settings.cycle < 2 ^ 32
  pub tables_fit : (i : ℕ) → slice_index (table_words plan) i < 2 ^ 32

-- What the writer is lent are numbers of 32 bits, as words are.
pub record Fits (l : Lent) : Type 0 where
  pub interval_fits : l.interval < 2 ^ 32
  pub cycle_fits : l.cycle < 2 ^ 32
  pub factors_fit : (i : ℕ) → slice_index l.factors i < 2 ^ 32
  pub connections_fit : (i : ℕ) → slice_index l.connections i < 2 ^ 32
  pub arrivals_fit : (i : ℕ) → slice_index l.arrivals i < 2 ^ 32

-- What is known of lent tables that were written.
pub record Taken (l : Lent) (room size : ℕ) : Type 0 where
  pub right : lent_wrong l ≡ false
  pub slots_right : slots_wrong (lent_plan l).arrivals ≡ false
  pub size_is : size ≡ size_of (lent_plan l)
  pub room_for : size ≤ room

-- Contents as the writer is lent them.
unfoldable pub lent_of : Plan → Lent
lent_of plan =
    record {
      interval = plan.settings.interval;
      cycle = plan.settings.cycle;
      factors = plan.settings.factors;
      connections = flatten (map connection_words plan.connections);
      arrivals = flatten (map arrival_words plan.arrivals);
    }
