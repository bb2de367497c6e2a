-- What the library says of ranges and of stretches of words, in the words of document 01's tests.
use Rattle.std.proofs.Common.{◌≡◌, ℕ, zero, suc, ◌+◌, ◌*◌, ◌-◌, ◌≤◌, Bool, false, ◌&&◌, List, length, eqb, refl, sym, ap, ◌∙◌, arith}
use Rattle.std.proofs.lemmas.Grind.{common_steps}
use Rattle.std.specs.declared.ops.RangeInclusive.{RangeInclusive}
use Rattle.std.specs.Range.{range_inclusive_contains, range_inclusive_start, range_inclusive_end, range_inclusive_exhausted}
use Rattle.std.specs.contracts.prelude.U32PartialOrd.TheImpl as u32_order
use Rattle.std.specs.List.{between, list_all, range_with_len}
use Rattle.laws.specs.Series.{series, series_take}
use Rattle.laws.specs.Tests.{within, every}
use Rattle.words.specs.Sound.{zeros}

-- Whether `low..=high`, from which nothing was taken, contains x.
pub contains_within : (s : RangeInclusive ℕ) (low x high : ℕ) → range_inclusive_start s ≡ low → range_inclusive_end s ≡ high
    → range_inclusive_exhausted s ≡ false → range_inclusive_contains (u32_order.partial_cmp-value).it s x ≡ within low x high
unfolding within
contains_within s low x high a b d = grind (arith, common_steps)

-- The same of a test that found out whether it does.
pub contained : (s : RangeInclusive ℕ) (x : ℕ) {found : Bool} {low high : ℕ}
    → found ≡ range_inclusive_contains (u32_order.partial_cmp-value).it s x
    → range_inclusive_start s ≡ low → range_inclusive_end s ≡ high → range_inclusive_exhausted s ≡ false → found ≡ within low x high
contained s x {low = low} {high = high} e a b d = e ∙ contains_within s low x high a b d

-- Words that are all 0 pass the test of a stretch of zeros.
pub zeros_between : (ws : List ℕ) (from to : ℕ) → from ≤ to → to ≤ length ws → every (λ w. eqb w 0) (between from to ws) ≡ zeros ws from (to - from)
unfolding zeros
zeros_between ws from to h k = ap (every (λ w. eqb w 0)) (sym (series_take ws from (to - from) (omega arith)))

-- A test of what stands at every step, over the numbers from a on, is the test of the series.
pub all_series : {A : Type 0} (test : A → Bool) (f : ℕ → A) (step start a n : ℕ)
    → list_all (λ i. test (f (start + step * i))) (range_with_len a n) ≡ every test (series f step (start + step * a) n)
unfolding every series
all_series test f step start a zero = refl
all_series test f step start a (suc n) =
    (let e : start + step * (a + 1) ≡ start + step * a + step = omega arith in
    ap (λ b. test (f (start + step * a)) && b) (all_series test f step start (a + 1) n ∙ ap (λ at. every test (series f step at n)) e))
