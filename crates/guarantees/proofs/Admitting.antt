-- Document 01, "Admission", of a box: a connection is taken exactly when (11) and (12) hold at every t without end.
use Prim.Native.Nat.{ℕ, zero, suc, ◌+◌, ◌≤◌, ◌<◌}
use mathlib.Core.Path.{◌≡◌, refl, sym, ◌∙◌, ap}
use mathlib.Core.Bool.{true, false, true≢false}
use mathlib.Core.List.Memᴰ
use mathlib.Core.List.{List, [], ◌∷◌, Memᴰ}
use mathlib.Core.Logic.{⊎_elim, ◌↔◌}
use lib.ListN.{length}
use borrow.Author.Tests.{leb-true, lt-leb, eq-eqb, ne_eqb}
use native.Mathlib.Decide.{ℕ_discrete}
use native.Mathlib.Omega.{arith}
use Rattle.laws.specs.SumLaws.{sum_zero}
use Rattle.laws.specs.Tests.{every_at}
use Rattle.laws.specs.Search.{fails_at}
use Rattle.laws.specs.Finding.{Least, first_failing_fails, first_failing_holds}
use Rattle.meaning.specs.declared.Refusal.{Refusal}
use Rattle.meaning.specs.declared.Connection.{Connection}
use Rattle.meaning.specs.Numbers.{connection_allowed, most_connections, Settings, bound}
use Rattle.meaning.specs.Envelope.{delayed}
use Rattle.meaning.specs.Admission.{term, sum_at, condition_at, HoldsWithoutEnd, finite_search}
use Rattle.meaning.specs.Box.{Box, connections, sound}
use Rattle.meaning.specs.Calls.{with_newcomer, admission_answer}
use Rattle.meaning.proofs.Facts.{ConnectionFacts, connection_facts, settings_facts, sound_facts, SettingsFacts}
use Rattle.guarantees.proofs.Saying.{AdmissionRefused, admission_unsound, off_range, table_full, rate_exceeded, fails_first_at}
use Rattle.guarantees.proofs.Saying.{AdmissionSays, admission_says}
use Rattle.guarantees.proofs.Classes.{bound_least, bound_apart}
use Rattle.guarantees.proofs.WithoutEnd.{condition_test, all_slots_follow, some_slot_fails}
use Rattle.std.proofs.Common.{Result, Ok, Err}

-- The connections that stand in a sound box keep the table of numbers.
pub standing_facts : (box : Box) → sound box ≡ true → (c : Connection) → Memᴰ c (connections box) → ConnectionFacts box.settings c
standing_facts box s c m =
    connection_facts box.settings c
    (every_at (connection_allowed box.settings) (connections box) (sound_facts box s).connections_allowed m)

-- So do the connections of the set with the newcomer.
pub newcomer_facts : (box : Box) → sound box ≡ true → (c : Connection) → connection_allowed box.settings c ≡ true →
    (d : Connection) → Memᴰ d (with_newcomer box c) → ConnectionFacts box.settings d
unfolding with_newcomer
newcomer_facts box s c a d m =
    ⊎_elim (standing_facts box s d) (λ (n : Memᴰ d (c ∷ [])). rw (Memᴰ.eq_of_singleton n) (connection_facts box.settings c a))
    (Memᴰ.append_cases (connections box) m)

module _ (box : Box) (c : Connection) where
  -- A connection that is taken keeps (11) and (12) at every t without end.
  pub taken_holds : (n : ℕ) → admission_answer box c ≡ Ok n → HoldsWithoutEnd box.settings (with_newcomer box c)
  unfolding finite_search
  taken_holds n e =
      let says : AdmissionSays box c (Ok n) = rw e at (admission_says box c) in
      let f = newcomer_facts box says.0 c says.1 in
      all_slots_follow box.settings (settings_facts box.settings (sound_facts box says.0).settings_allowed_lem) (with_newcomer box c)
      f says.3 (first_failing_holds _ _ says.4)

  -- The search answers the least t that fails.
  search_fails : (t : ℕ) → finite_search box.settings (with_newcomer box c) ≡ fails_at t →
      Least (condition_at box.settings (with_newcomer box c)) 0 t
  unfolding finite_search
  search_fails t q = (first_failing_fails _ _ t q).1

  -- "the t given with 6 is the least that fails".
  pub least_that_fails : (t : ℕ) → admission_answer box c ≡ Err (Refusal.ConditionFails t)
      → Least (condition_at box.settings (with_newcomer box c)) 0 t
  least_that_fails t e = go (rw e at (admission_says box c))
    where
      go : AdmissionRefused box c (Refusal.ConditionFails t) → Least (condition_at box.settings (with_newcomer box c)) 0 t
      go (fails_first_at s a f r t q) = search_fails t q

  -- With answer 5 some t fails too.
  pub rate_fails_somewhere : admission_answer box c ≡ Err Refusal.RateExceeded
      → (t : ℕ) × (condition_at box.settings (with_newcomer box c) t ≡ false)
  rate_fails_somewhere e = go (rw e at (admission_says box c))
    where
      go : AdmissionRefused box c Refusal.RateExceeded → (t : ℕ) × (condition_at box.settings (with_newcomer box c) t ≡ false)
      go (rate_exceeded s a f r) =
          some_slot_fails box.settings (settings_facts box.settings (sound_facts box s).settings_allowed_lem) (with_newcomer box c)
          (newcomer_facts box s c a) r

  -- With the numbers in range and room in the table, a connection is taken exactly when (11) and (12) hold at every t from 0 without end.
  pub taken_exactly_when : sound box ≡ true → connection_allowed box.settings c ≡ true → length box.standing < most_connections →
      (admission_answer box c ≡ Ok (suc (length box.standing))) ↔ HoldsWithoutEnd box.settings (with_newcomer box c)
  taken_exactly_when s a r = (taken_holds (suc (length box.standing)), λ h. back h (admission_answer box c) refl (admission_says box c))
    where
      refused_not : HoldsWithoutEnd box.settings (with_newcomer box c) → (why : Refusal) → admission_answer box c ≡ Err why →
          AdmissionRefused box c why → ⊥
      refused_not h why e (admission_unsound u) = true≢false (sym s ∙ u)
      refused_not h why e (off_range u n) = true≢false (sym a ∙ n)
      refused_not h why e (table_full u n f) = let l : most_connections ≤ length box.standing = leb-true _ _ f in omega arith
      refused_not h why e (rate_exceeded u n f q) = let p = rate_fails_somewhere e in true≢false (sym (h p.0) ∙ p.1)
      refused_not h why e (fails_first_at u n f q t p) = true≢false (sym (h t) ∙ (least_that_fails t e).fails)

      back : HoldsWithoutEnd box.settings (with_newcomer box c) → (q : Result ℕ Refusal) → admission_answer box c ≡ q → AdmissionSays box c q →
          q ≡ Ok (suc (length box.standing))
      back h (Err why) e says = absurd (refused_not h why e says)
      back h (Ok n) e says = ap Ok says.5

-- (11) and (12) hold at 0 for every set that keeps the table of numbers.
holds_at_zero : (set : Settings) → SettingsFacts set → (cs : List Connection)
    → ((c : Connection) → Memᴰ c cs → ConnectionFacts set c) →
    condition_at set cs 0 ≡ true
holds_at_zero set f cs facts =
    condition_test set cs 0 (record {
      eleven_holds = (let z = none in omega arith);
      twelve_holds = λ a b. absurd (let l = bound_least set f 1 (omega arith) f.classes_least in omega arith);
    })
  where
    nothing_yet : (c : Connection) → Memᴰ c cs → term set 0 c ≡ 0
    nothing_yet c m =
        let k = facts c m in
        elim (ℕ_discrete c.class 1) [
          | yes e ↦ (let b = bound_least set f c.class k.class_least k.class_most in
              unfold term delayed in rw (eq-eqb c.class 1 e, lt-leb (bound set c.class) 0 (omega arith)))
          | no e ↦ (let l = k.class_least in let b = bound_apart set f c.class (omega arith) k.class_most in
              let o = bound_least set f 1 (omega arith) f.classes_least in
              unfold term delayed in rw (ne_eqb c.class 1 e, lt-leb (bound set c.class) (0 + set.interval) (omega arith)))
        ]

    none : sum_at set cs 0 ≡ 0
    none = unfold sum_at in sum_zero (term set 0) cs nothing_yet

-- The t given with 6 is at least 1, so a printed t of 0 always means that there is none.
pub fails_after_zero : (box : Box) (c : Connection) (t : ℕ) → admission_answer box c ≡ Err (Refusal.ConditionFails t) → 1 ≤ t
fails_after_zero box c zero e = absurd (go (rw e at (admission_says box c)))
  where
    go : AdmissionRefused box c (Refusal.ConditionFails 0) → ⊥
    go (fails_first_at s a f r t q) =
        let set = box.settings in
        let z = holds_at_zero set (settings_facts set (sound_facts box s).settings_allowed_lem) (with_newcomer box c)
        (newcomer_facts box s c a) in
        true≢false (sym z ∙ (least_that_fails box c 0 e).fails)
fails_after_zero box c (suc t) e = omega arith
