-- What allowed tables say of the numbers that the search computes with.
use Prim.Native.Nat.{ℕ, ◌+◌, ◌*◌, ◌-◌, ◌/◌, ◌≤◌, ◌<◌}
use mathlib.Core.Path.{◌≡◌, refl}
use mathlib.Core.List.{List}
use lib.ListN.{length}
use native.Mathlib.Nat.{mul-le-mul_right, mul-le-mul, div-le_self}
use native.Mathlib.Omega.{arith}
use Rattle.meaning.specs.declared.Connection.{Connection}
use Rattle.meaning.specs.Numbers.{class_count, largest_factor, bound, largest_bound}
use Rattle.meaning.specs.Envelope.{may_have, envelope}
use Rattle.meaning.proofs.Facts.{SettingsFacts, settings_facts, connection_facts}
use Rattle.meaning.proofs.KeptByOffer.{factor_within}
use Rattle.words.specs.Places.{word, classes_at}
use Rattle.words.specs.Contents.{asked_at, contents, settings_at}
use Rattle.words.proofs.Readings.{classes_word, standing_word}
use Rattle.admission.specs.Asking.{Ready, Allowed, Small}

-- The settings in ready words keep the table of numbers.
pub facts : (ws : List ℕ) → Ready ws → SettingsFacts (settings_at ws)
facts ws r = settings_facts (settings_at ws) r.settings

-- The bound of every class is at most 1,024.
pub bound_most : (ws : List ℕ) (k : ℕ) → Ready ws → 1 ≤ k → k ≤ word ws classes_at → bound (settings_at ws) k ≤ 1024
unfolding bound largest_bound largest_factor contents
bound_most ws k r h l =
    let f = facts ws r in
    let c = classes_word ws in
    let m = mul-le-mul_right (settings_at ws).interval (factor_within (settings_at ws) k f h (omega arith)) in
    let b = f.bound_most in
    omega arith

-- What there is to say of a class.
pub ruleset classes = (classes_word, bound_most)

-- An allowed connection's numbers are small enough for the sums.
pub asked_small : (ws : List ℕ) (c : Connection) → Allowed ws c → Small c
asked_small ws c a =
    let f = connection_facts (settings_at ws) c a in
    record { longest_most = f.longest_most; burst_most = f.burst_most; period_least = f.period_least }

-- An allowed connection's class is one of the classes.
pub asked_class : (ws : List ℕ) (c : Connection) → Allowed ws c → (1 ≤ c.class) × (c.class ≤ class_count (settings_at ws))
asked_class ws c a = let f = connection_facts (settings_at ws) c a in (f.class_least, f.class_most)

-- What there is to say of an allowed connection.
pub ruleset asked = (asked_small, asked_class)

-- Within 6,000 slots a connection may have at most 400,000 units.
pub units_most : (c : Connection) (d t : ℕ) → Small c → t ≤ 6000 → c.longest * (c.burst + (t - d) / c.period) ≤ 400000
units_most c d t s h =
    let q = div-le_self (t - d) c.period in
    let b = s.burst_most in
    let most : c.burst + (t - d) / c.period ≤ 6064 = omega arith in
    let m = mul-le-mul s.longest_most most in
    omega arith

-- The units s x (b + floor(t/T)) are E(t).
pub units_are : (c : Connection) (t : ℕ) → c.longest * (c.burst + t / c.period) ≡ envelope c t
unfolding envelope may_have
units_are c t = refl

-- What the units of a connection are, and how many.
pub ruleset units = (units_most, units_are)

-- A row that was read is that of an allowed connection.
pub row_allowed : (ws : List ℕ) (i : ℕ) (c : Connection) → Ready ws → i < length (contents ws).standing → c ≡ asked_at ws i → Allowed ws c
row_allowed ws i c r h e = let n = standing_word ws in rw e (r.each i (omega arith))

-- At most 32 connections stand.
pub rows_most : (ws : List ℕ) → Ready ws → length (contents ws).standing ≤ 32
rows_most ws r = let n = standing_word ws in let m = r.fitting.rows in omega arith
