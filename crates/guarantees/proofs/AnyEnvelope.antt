-- The sum of (11) over any envelopes that have the laws of `IsEnvelope`: 0 below 0, never falling, at least s at 0, repeating with M.
use Prim.Native.Nat.{ℕ, ◌+◌, ◌-◌, ◌≤◌, ◌<◌}
use mathlib.Core.Path.{◌≡◌, refl, ◌∙◌}
use mathlib.Core.Bool.{Bool, true, false, cond}
use mathlib.Core.List.{List, Memᴰ}
use lib.Dec.{leb, eqb}
use borrow.Author.Tests.{le-leb}
use native.Mathlib.Omega.{arith}
use Rattle.laws.specs.Sums.{sum_of, sum_add}
use Rattle.laws.specs.SumLaws.{sum_same}
use Rattle.laws.specs.Gaining.{all_follow, some_passes}
use Rattle.meaning.specs.declared.Connection.{Connection}
use Rattle.meaning.specs.Numbers.{Settings, bound, largest_bound}
use Rattle.meaning.specs.Envelope.{delayed, IsEnvelope}

-- What one connection adds to the sum at t, with E for its envelope.
abbrev pub term_of : (Connection → ℕ → ℕ) → Settings → ℕ → Connection → ℕ
term_of E set t c =
    cond (eqb c.class 1) (delayed (E c) (bound set c.class) t)
    (delayed (E c) (bound set c.class) (t + set.interval))

-- An envelope that is put off by d repeats once t has reached d.
delayed_repeats : (E : ℕ → ℕ) (s M g d t : ℕ) → IsEnvelope E s M g → d ≤ t → delayed E d (t + M) ≡ delayed E d t + g
unfolding delayed
delayed_repeats E s M g d t law h =
    let a : leb d (t + M) ≡ true = le-leb d (t + M) (omega arith) in
    let b : leb d t ≡ true = le-leb d t h in
    let e : t + M - d ≡ t - d + M = omega arith in
    rw (a, b, e) (law.repeats (t - d))

module _ (E : Connection → ℕ → ℕ) (gain : Connection → ℕ) (set : Settings) where
  -- So does a connection's part of the sum.
  term_repeats : (c : Connection) (s t : ℕ) → IsEnvelope (E c) s set.cycle (gain c) →
      bound set c.class ≤ t → term_of E set (t + set.cycle) c ≡ term_of E set t c + gain c
  term_repeats c s t law h = by_class (eqb c.class 1)
    where
      d : ℕ
      d = bound set c.class

      by_class : (b : Bool) →
          cond b (delayed (E c) d (t + set.cycle)) (delayed (E c) d (t + set.cycle + set.interval)) ≡
          cond b (delayed (E c) d t) (delayed (E c) d (t + set.interval)) + gain c
      by_class true = delayed_repeats (E c) s set.cycle (gain c) d t law h
      by_class false =
          let e : t + set.cycle + set.interval ≡ t + set.interval + set.cycle = omega arith in
          rw e (delayed_repeats (E c) s set.cycle (gain c) d (t + set.interval) law (omega arith))

  -- A set of connections with bounds up to dP, each with an envelope that has the laws.
  module _ (cs : List Connection) (reach : (c : Connection) → Memᴰ c cs → bound set c.class ≤ largest_bound set)
      (laws : (c : Connection) → Memᴰ c cs → IsEnvelope (E c) c.longest set.cycle (gain c)) where
    -- From dP on the sum grows by the gains over each M.
    sums_repeat : (t : ℕ) → largest_bound set ≤ t → sum_of (term_of E set (t + set.cycle)) cs ≡ sum_of (term_of E set t) cs + sum_of gain cs
    sums_repeat t h =
        sum_same (term_of E set (t + set.cycle)) (λ c. term_of E set t c + gain c) cs
        (λ c m. let b = reach c m in term_repeats c c.longest t (laws c m) (omega arith)) ∙
        sum_add (term_of E set t) gain (λ c. term_of E set t c + gain c) cs (λ c. refl)

    -- Gains of at most M together: the t below dP + M decide for all t.
    pub sums_follow : sum_of gain cs ≤ set.cycle → 1 ≤ set.cycle →
        ((t : ℕ) → t < largest_bound set + set.cycle → sum_of (term_of E set t) cs ≤ t) → (t : ℕ) → sum_of (term_of E set t) cs ≤ t
    sums_follow = all_follow (λ t. sum_of (term_of E set t) cs) (largest_bound set) set.cycle (sum_of gain cs) sums_repeat

    -- Gains of more than M: the sum passes t somewhere.
    pub sums_pass : set.cycle < sum_of gain cs → (t : ℕ) × (t < sum_of (term_of E set t) cs)
    sums_pass = some_passes (λ t. sum_of (term_of E set t) cs) (largest_bound set) set.cycle (sum_of gain cs) sums_repeat
