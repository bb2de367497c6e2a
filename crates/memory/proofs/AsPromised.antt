-- Calls of which only the promises are known give the run on words, and so the run on contents.
use Prim.Native.Nat.{ℕ}
use mathlib.Core.Path.{◌≡◌, refl, sym, ap, ap₂, ◌∙◌}
use mathlib.Core.Bool.{true}
use mathlib.Core.List.{List, [], ◌∷◌, map}
use Rattle.words.specs.Contents.{contents}
use Rattle.words.specs.Sound.{sound_words}
use Rattle.guarantees.specs.Runs.{Call, admit, offer, step, Reply, to_admission, to_offer, to_step, box_after, trace}
use Rattle.memory.specs.Runs.{reply_on, left_by, left_by_run, trace_on}
use Rattle.memory.specs.Performed.{Performed, PerformedRun}
use Rattle.memory.proofs.RunOnWords.{run_on_words}

-- The promise of a call settles its answer and the words that it leaves.
pub performed_call : (ws : List ℕ) (c : Call) (r : Reply) (exit : List ℕ) → Performed ws c r exit
    → (r ≡ reply_on ws c) × (exit ≡ left_by ws c)
unfolding Performed reply_on left_by
performed_call ws (admit c) (to_admission r) exit p = (ap to_admission p.0, p.1)
performed_call ws (admit c) (to_offer r) exit p = absurd p
performed_call ws (admit c) (to_step r) exit p = absurd p
performed_call ws (offer n units) (to_admission r) exit p = absurd p
performed_call ws (offer n units) (to_offer r) exit p = (ap to_offer p.0, p.1)
performed_call ws (offer n units) (to_step r) exit p = absurd p
performed_call ws step (to_admission r) exit p = absurd p
performed_call ws step (to_offer r) exit p = absurd p
performed_call ws step (to_step r) exit p = (ap to_step p.0, p.1)

-- A performed run has the answers of the run on words, and leaves its words.
pub performed_run : (ws : List ℕ) (calls : List Call) (answers : List Reply) (exit : List ℕ) → PerformedRun ws calls answers exit →
    (answers ≡ map (λ e. e.answer) (trace_on ws calls)) × (exit ≡ left_by_run ws calls)
unfolding PerformedRun trace_on left_by_run
performed_run ws [] [] exit p = (refl, p)
performed_run ws [] (r ∷ answers) exit p = absurd p
performed_run ws (c ∷ calls) [] exit p = absurd p
performed_run ws (c ∷ calls) (r ∷ answers) exit p =
    let q = performed_call ws c r p.0 p.1 in
    let rest = performed_run p.0 calls answers exit p.2 in (
      ap₂ (λ a l. a ∷ l) q.0 (rest.0 ∙ ap (λ l. map (λ e. e.answer) (trace_on l calls)) q.1),
      rest.1 ∙ ap (λ l. left_by_run l calls) q.1,
    )

-- "a run of the public calls on a lent slice gives the answers of the run on contents": on sound words calls that keep their promises
-- answer
-- as the box does, and leave sound words that stand for the box after the run.
pub performed_on_contents : (ws : List ℕ) (calls : List Call) (answers : List Reply) (exit : List ℕ) → sound_words ws ≡ true →
    PerformedRun ws calls answers exit →
    (answers ≡ map (λ e. e.answer) (trace (contents ws) calls)) × (sound_words exit ≡ true) × (contents exit ≡ box_after (contents ws) calls)
performed_on_contents ws calls answers exit h p =
    let q = performed_run ws calls answers exit p in
    let r = run_on_words ws calls h in
    (q.0 ∙ ap (map (λ e. e.answer)) r.0, ap sound_words q.1 ∙ r.1, ap contents q.1 ∙ r.2)

-- Two runs of the same calls on the same words give the same answers and leave the same words, sound or not.
pub performed_settles : (ws : List ℕ) (calls : List Call) (answers others : List Reply) (exit left : List ℕ) →
    PerformedRun ws calls answers exit → PerformedRun ws calls others left → (answers ≡ others) × (exit ≡ left)
performed_settles ws calls answers others exit left p q =
    let a = performed_run ws calls answers exit p in
    let b = performed_run ws calls others left q in
    (a.0 ∙ sym b.0, a.1 ∙ sym b.1)
