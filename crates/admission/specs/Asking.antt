-- What the search asks of the words, what it adds for a connection, and what it finds.
use Rattle.std.specs.Prelude.{ℕ, ◌+◌, ◌≤◌, ◌<◌, ◌≡◌, true, cond, List, [], ◌∷◌, ◌++◌, map, ltb, Option, Some, None}
use Rattle.laws.specs.Search.{Search, fails_at, holds}
use Rattle.meaning.specs.declared.Connection.{Connection}
use Rattle.meaning.specs.Numbers.{Settings, bound, settings_allowed, connection_allowed}
use Rattle.words.specs.Places.{word, row_count_at}
use Rattle.words.specs.Contents.{settings_at, asked_at, standings}
use Rattle.words.specs.Sound.{Fitting}

-- "the set with the newcomer".
unfoldable pub with_asked : List ℕ → Connection → List Connection
with_asked ws c = map (λ s. s.asked) (standings ws) ++ (c ∷ [])

-- The words have all tables, with numbers that are allowed.
pub record Ready (ws : List ℕ) : Type 0 where
  pub fitting : Fitting ws
  pub settings : settings_allowed (settings_at ws) ≡ true
  pub each : (i : ℕ) → i < word ws row_count_at → connection_allowed (settings_at ws) (asked_at ws i) ≡ true

-- The newcomer's numbers are allowed.
abbrev pub Allowed : List ℕ → Connection → Type 0
Allowed ws c = connection_allowed (settings_at ws) c ≡ true

-- Numbers that are small enough for the sums.
pub record Small (c : Connection) : Type 0 where
  pub longest_most : c.longest ≤ 64
  pub burst_most : c.burst ≤ 64
  pub period_least : 1 ≤ c.period

-- What one connection counts for as the packet in the way at t.
abbrev pub way_term : Settings → ℕ → Connection → ℕ
way_term set t c = cond (ltb (t + set.interval) (bound set c.class)) c.longest 0

-- The search of document 01 that this finding means.
abbrev pub search_of : Option ℕ → Search
search_of (Some t) = fails_at t
search_of None = holds
