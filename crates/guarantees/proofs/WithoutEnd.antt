-- Document 01, "Admission": the finite search decides the conditions at every t without end. Equation (31) has the laws of
-- `IsEnvelope`; the rest is for any envelope that has them.
use Prim.Native.Nat.{ℕ, ◌+◌, ◌*◌, ◌/◌, ◌≤◌, ◌<◌}
use mathlib.Core.Path.{◌≡◌, refl, sym, ◌∙◌, ap}
use mathlib.Core.Bool.{Bool, true, false, cond, not, ◌&&◌, ◌||◌, and-eq-true_iff, true≢false}
use mathlib.Core.List.{List, ◌∷◌, ◌++◌, Memᴰ}
use lib.Dec.{leb, ltb}
use borrow.Author.Tests.{leb-true, leb-false, le-leb, lt-ltb, ltb-true}
use mathlib.Core.Logic.{⊎_elim}
use native.Mathlib.Nat.{mul-le-mul_left}
use native.Mathlib.Omega.{arith}
use Rattle.laws.specs.Tests.{bool_cases}
use Rattle.laws.specs.SumLaws.{sum_put, largest_put}
use Rattle.laws.specs.Division.{div_mono, div_add_multiple}
use Rattle.meaning.specs.declared.Connection.{Connection}
use Rattle.meaning.specs.Numbers.{Settings, bound, largest_bound}
use Rattle.meaning.specs.Envelope.{may_have, envelope, IsEnvelope}
use Rattle.meaning.specs.Admission.{term, sum_at, in_the_way, eleven, twelve_range, twelve, condition_at, HoldsWithoutEnd, rate, rate_holds}
use Rattle.meaning.proofs.Facts.{ConnectionFacts, SettingsFacts}
use Rattle.guarantees.proofs.Classes.{bound_most}
use Rattle.guarantees.proofs.AnyEnvelope.{sums_follow, sums_pass}

-- What a connection gains over each cycle M: s x (M/T).
unfoldable pub gain : Settings → Connection → ℕ
gain set c = c.longest * (set.cycle / c.period)

-- Equation (31) has the laws of an envelope.
pub envelope_laws : (set : Settings) (c : Connection) → ConnectionFacts set c
    → IsEnvelope (envelope c) c.longest set.cycle (gain set c)
unfolding envelope may_have gain
envelope_laws set c f =
    record {
      never_falls = λ t u h. mul-le-mul_left c.longest (let d = div_mono c.period f.period_least h in omega arith);
      at_start =
          let m = mul-le-mul_left {m = 1} {n = c.burst + 0 / c.period} c.longest (let b = f.burst_least in omega arith) in
          omega arith;
      repeats = λ t. let d = div_add_multiple t set.cycle c.period f.period_least f.period_divides in
          ap (λ n. c.longest * (c.burst + n)) d ∙ (omega arith);
    }

-- Both conditions at t, as numbers.
pub record ConditionFacts (set : Settings) (cs : List Connection) (t : ℕ) : Type 0 where
  pub eleven_holds : sum_at set cs t ≤ t
  pub twelve_holds : bound set 1 ≤ t → t + set.interval < largest_bound set → sum_at set cs t + in_the_way set cs t ≤ t

-- What the tests of (11) and (12) say.
pub condition_facts : (set : Settings) (cs : List Connection) (t : ℕ) → condition_at set cs t ≡ true → ConditionFacts set cs t
unfolding condition_at eleven twelve twelve_range
condition_facts set cs t e =
    let p = (and-eq-true_iff (eleven set cs t) (twelve set cs t)).0 e in
    record {
      eleven_holds = leb-true _ _ p.0;
      twelve_holds = λ h l. leb-true _ _ (in_range _ _ (le-leb _ _ h) (lt-ltb _ _ l) p.1);
    }
  where
    in_range : (a b : Bool) {c : Bool} → a ≡ true → b ≡ true → not (a && b) || c ≡ true → c ≡ true
    in_range true true p q e = e
    in_range true false p q e = absurd (true≢false (sym q))
    in_range false b p q e = absurd (true≢false (sym p))

-- Where the facts of (11) and (12) hold at t, both conditions hold at t.
pub condition_test : (set : Settings) (cs : List Connection) (t : ℕ) → ConditionFacts set cs t → condition_at set cs t ≡ true
unfolding condition_at eleven twelve twelve_range
condition_test set cs t f =
    (and-eq-true_iff (eleven set cs t) (twelve set cs t)).1 (
      le-leb _ _ f.eleven_holds,
      out_or_in (leb (bound set 1) t) (ltb (t + set.interval) (largest_bound set))
          (λ a b. le-leb _ _ (f.twelve_holds (leb-true _ _ a) (ltb-true _ _ b))),
    )
  where
    out_or_in : {c : Bool} (a b : Bool) → (a ≡ true → b ≡ true → c ≡ true) → not (a && b) || c ≡ true
    out_or_in true true h = h refl refl
    out_or_in true false h = refl
    out_or_in false b h = refl

-- A set of connections in a box that keep the table of numbers, with the envelopes of (31).
module _ (set : Settings) (sf : SettingsFacts set) (cs : List Connection)
    (facts : (c : Connection) → Memᴰ c cs → ConnectionFacts set c)
  where
    -- Every bound is at most dP.
    reach : (c : Connection) → Memᴰ c cs → bound set c.class ≤ largest_bound set
    reach c m = let f = facts c m in bound_most set sf c.class f.class_least f.class_most

    -- Every envelope has the laws.
    laws : (c : Connection) → Memᴰ c cs → IsEnvelope (envelope c) c.longest set.cycle (gain set c)
    laws c m = envelope_laws set c (facts c m)

    -- "all t follow from t = 0 to dP + M - 1, because each envelope repeats with M."
    pub all_slots_follow : rate_holds set cs ≡ true →
        ((t : ℕ) → t < largest_bound set + set.cycle → condition_at set cs t ≡ true) → HoldsWithoutEnd set cs
    all_slots_follow r h t =
        condition_test set cs t (record {
          eleven_holds = unfold sum_at term rate rate_holds gain in
              sums_follow envelope (gain set) set cs reach laws (leb-true _ _ r) sf.cycle_least
              (λ k l. (condition_facts set cs k (h k l)).eleven_holds) t;
          twelve_holds = λ a b. (condition_facts set cs t (h t (omega arith))).twelve_holds a b;
        })

    -- "if the rate exceeds M, some t fails."
    pub some_slot_fails : rate_holds set cs ≡ false → (t : ℕ) × (condition_at set cs t ≡ false)
    some_slot_fails r = (passes.0, failing passes.0 passes.1)
      where
        passes : (t : ℕ) × (t < sum_at set cs t)
        passes = unfold sum_at term rate rate_holds gain in sums_pass envelope (gain set) set cs reach laws (leb-false _ _ r)

        failing : (t : ℕ) → t < sum_at set cs t → condition_at set cs t ≡ false
        failing t h =
            ⊎_elim (λ e. absurd (let f = (condition_facts set cs t e).eleven_holds in omega arith)) (λ e. e)
            (bool_cases (condition_at set cs t))

-- Taking a connection out of a set never makes a condition fail that held.
pub taking_out_keeps : (set : Settings) (l : List Connection) (c : Connection) (m : List Connection) (t : ℕ) →
    condition_at set (l ++ (c ∷ m)) t ≡ true → condition_at set (l ++ m) t ≡ true
unfolding sum_at in_the_way
taking_out_keeps set l c m t e =
    let f = condition_facts set (l ++ (c ∷ m)) t e in
    let s = sum_put (term set t) l c m in
    let w = largest_put (λ d. cond (ltb (t + set.interval) (bound set d.class)) d.longest 0) l c m in
    condition_test set (l ++ m) t (record {
      eleven_holds = (let h = f.eleven_holds in omega arith);
      twelve_holds = λ a b. (let h = f.twelve_holds a b in omega arith);
    })
