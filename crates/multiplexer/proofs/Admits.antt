-- An admission in words: what sound words give the search, and the answers.
use Prim.Native.Nat.{ℕ, suc, ◌+◌, ◌%◌, ◌≤◌, ◌<◌}
use mathlib.Core.Path.{◌≡◌, refl, sym, ap, ap₂, ◌∙◌, subst}
use mathlib.Core.Bool.{true, false, ◌&&◌}
use mathlib.Core.List.{List, [], ◌∷◌, ◌++◌}
use native.Mathlib.Omega.{arith}
use lib.ListN.{length, get_or, length-map, get_or-map}
use lib.Dec.{eqb}
use borrow.Author.Tests.{le-leb, lt-leb}
use Rattle.laws.specs.Tests.{within, within_facts, every_at}
use Rattle.laws.specs.Lists.{get_or_member}
use Rattle.laws.specs.Search.{fails_at, holds}
use Rattle.laws.specs.Series.{length_series, get_or_series}
use Rattle.meaning.specs.declared.Refusal.{Refusal}
use Rattle.meaning.specs.declared.Connection.{Connection}
use Rattle.meaning.specs.Numbers.{Settings, class_count, class_allowed, longest_allowed, burst_allowed, period_allowed, connection_allowed}
use Rattle.meaning.specs.Numbers.{most_connections}
use Rattle.meaning.specs.Envelope.{full}
use Rattle.meaning.specs.Admission.{rate, rate_holds, finite_search}
use Rattle.meaning.specs.declared.Standing.{Standing}
use Rattle.meaning.specs.Box.{Box, connections, no_connection, sound}
use Rattle.meaning.specs.Calls.{with_newcomer, search_answer, with_standing, admission_answer, after_admission}
use Rattle.meaning.proofs.KeptByAdmission.{admission_keeps_sound}
use Rattle.meaning.specs.declared.Standing.{Standing}
use Rattle.words.specs.Places.{word, row_count_at, rows_at}
use Rattle.words.specs.Contents.{asked_at, contents, settings_at, standing_at, standings}
use Rattle.words.specs.Sound.{sound_words}
use Rattle.words.specs.Changes.{Become}
use Rattle.words.proofs.Counts.{sound_fitting}
use Rattle.words.proofs.Readings.{standing_word}
use Rattle.words.proofs.TestedSound.{sound_contents}
use Rattle.admission.specs.Asking.{Ready, with_asked}
use Rattle.multiplexer.specs.Promised.{Leaves}
use Rattle.multiplexer.proofs.Sounds.{facts, leaves_same, leaves}
use Rattle.std.proofs.Common.{Result, Ok, Err}

-- A connection that stands, as the search reads it.
row_at : (ws : List ℕ) (i : ℕ) → i < word ws row_count_at → get_or (connections (contents ws)) i no_connection ≡ asked_at ws i
unfolding connections contents standings
row_at ws i h =
    let d : Standing = record { asked = no_connection; allowance = full no_connection } in
    get_or-map (λ (s : Standing). s.asked) (standings ws) i d ∙
    ap (λ s. s.asked) (get_or_series (standing_at ws) 6 rows_at (word ws row_count_at) i d h)

-- As many connections stand as are counted.
rows_are : (ws : List ℕ) → length (connections (contents ws)) ≡ word ws row_count_at
unfolding connections contents standings
rows_are ws = length-map (standings ws) (λ s. s.asked) ∙ length_series (standing_at ws) 6 rows_at (word ws row_count_at)

-- What sound words give the search.
pub ready : (ws : List ℕ) → sound_words ws ≡ true → Ready ws
unfolding contents
ready ws h =
    let f = facts ws h in
    record {
      fitting = sound_fitting ws h;
      settings = f.settings_allowed_lem;
      each =
          λ i l.
          subst (λ c. connection_allowed (settings_at ws) c ≡ true) (row_at ws i l)
          (every_at (connection_allowed (settings_at ws)) (connections (contents ws)) f.connections_allowed
          (get_or_member (connections (contents ws)) i no_connection (let e = rows_are ws in omega arith)));
    }

-- "the set with the newcomer", as the search reads it.
pub newcomer : (ws : List ℕ) (c : Connection) → with_asked ws c ≡ with_newcomer (contents ws) c
unfolding with_asked with_newcomer connections contents
newcomer ws c = refl

-- The settings that the search reads.
pub settings_are : (ws : List ℕ) → settings_at ws ≡ (contents ws).settings
unfolding contents
settings_are ws = refl

-- The numbers of a connection are allowed where each is in its range and T divides M.
pub allowed_is : (set : Settings) (c : Connection) → connection_allowed set c ≡ (within 1 c.class (class_count set) && within 1 c.longest 64 && within 1 c.burst 64 && (within 1 c.period set.cycle && eqb (set.cycle % c.period) 0))
unfolding connection_allowed class_allowed longest_allowed burst_allowed period_allowed
allowed_is set c = refl

-- What the test of a connection's numbers goes by.
pub ruleset numbers = (sound_fitting, within_facts, allowed_is)

-- A connection that is taken: the answer is its number, and the words are those of the box with it.
module _ (ws : List ℕ) (c : Connection) (h : sound_words ws ≡ true) where
  -- The answer to the newcomer.
  abbrev answer : Result ℕ Refusal
  answer = admission_answer (contents ws) c

  -- Where the tests are passed and the search finds none that fails, the answer is the next number.
  next_number : connection_allowed (contents ws).settings c ≡ true → length (contents ws).standing < most_connections
      → rate (contents ws).settings (with_newcomer (contents ws) c) ≤ (contents ws).settings.cycle
      → holds ≡ finite_search (contents ws).settings (with_newcomer (contents ws) c) → Ok (suc (length (contents ws).standing)) ≡ answer
  unfolding admission_answer rate_holds search_answer
  next_number e f g q =
      let count = length (contents ws).standing in
      let most = (contents ws).settings.cycle in
      rw (sound_contents ws h, e, lt-leb most_connections count f, le-leb (rate (contents ws).settings (with_newcomer (contents ws) c)) most g)
      (ap (search_answer (suc count)) q)

  -- A connection that is taken stands in a new row; the count, M and the rate are as the code reads them.
  pub taken : (after : List ℕ) (n slots sum : ℕ) (row : Standing) → row ≡ record { asked = c; allowance = full c }
      → true ≡ connection_allowed (contents ws).settings c → n ≡ length (contents ws).standing → n < most_connections
      → slots ≡ (contents ws).settings.cycle → sum ≡ rate (settings_at ws) (with_asked ws c) → sum ≤ slots
      → holds ≡ finite_search (settings_at ws) (with_asked ws c)
      → Become ws after (with_standing (contents ws) ((contents ws).standing ++ (row ∷ [])))
      → (Ok (n + 1) ≡ answer) × Leaves ws after (after_admission (contents ws) c answer)
  unfolding after_admission
  taken after n slots sum row f ok en few es er fits found b =
      let one_more : n + 1 ≡ suc (length (contents ws).standing) = omega arith in
      let rate_is : sum ≡ rate (contents ws).settings (with_newcomer (contents ws) c) = er ∙ ap₂ rate (settings_are ws) (newcomer ws c) in
      let e : Ok (n + 1) ≡ answer =
      ap Ok one_more ∙ next_number (sym ok) (omega arith) (omega arith) (found ∙ ap₂ finite_search (settings_are ws) (newcomer ws c)) in
      let k : with_standing (contents ws) ((contents ws).standing ++ (row ∷ [])) ≡ after_admission (contents ws) c (Ok (n + 1)) =
      ap (λ x. with_standing (contents ws) ((contents ws).standing ++ (x ∷ []))) f in (
        e,
        leaves ws after (after_admission (contents ws) c answer) h (admission_keeps_sound (contents ws) c (sound_contents ws h))
            (subst (Become ws after) (k ∙ ap (after_admission (contents ws) c) e) b),
      )

-- The answers of an admission on sound contents, in their order.
module _ (b : Box) (c : Connection) (s : sound b ≡ true) where
  -- Where the newcomer is not allowed, the answer is 3.
  pub answer_range : connection_allowed b.settings c ≡ false → Err Refusal.ConnectionOffRange ≡ admission_answer b c
  unfolding admission_answer
  answer_range e = rw (s, e) refl

  -- Where the newcomer is allowed and 32 connections stand, the answer is 4.
  pub answer_full : connection_allowed b.settings c ≡ true → most_connections ≤ length b.standing
      → Err Refusal.TableFull ≡ admission_answer b c
  unfolding admission_answer
  answer_full e f = rw (s, e, le-leb most_connections (length b.standing) f) refl

  -- Where there is room and the rate exceeds M, the answer is 5.
  pub answer_rate : connection_allowed b.settings c ≡ true → length b.standing < most_connections
      → b.settings.cycle < rate b.settings (with_newcomer b c) → Err Refusal.RateExceeded ≡ admission_answer b c
  unfolding admission_answer rate_holds
  answer_rate e f g =
      let rate_is = rate b.settings (with_newcomer b c) in
      rw (s, e, lt-leb most_connections (length b.standing) f, lt-leb rate_is b.settings.cycle g) refl

-- A refusal leaves the box as it was.
pub refused : (b : Box) (c : Connection) (why : Refusal) → after_admission b c (Err why) ≡ b
unfolding after_admission
refused b c why = refl

-- Where the search finds a t that fails, the answer is 6.
pub fails : (n t : ℕ) → search_answer n (fails_at t) ≡ Err (Refusal.ConditionFails t)
unfolding search_answer
fails n t = refl

-- What an admission goes by.
pub ruleset admits = (sound_fitting, sound_contents, leaves_same, settings_are, newcomer, ready, standing_word, refused, fails, taken, le-leb, lt-leb)
