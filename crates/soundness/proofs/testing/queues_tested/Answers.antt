use Rattle.std.proofs.Common.{◌≡◌, ◌+◌, ◌*◌, ◌<◌, ◌≤◌, ℕ, Bool, List, refl, sym, ◌∙◌, arith, add-one}
use mathlib.Core.Bool.{and-eq-true_iff}
use Rattle.laws.specs.Tests.{every_below}
use Rattle.laws.specs.Deciding.{every_below_stop}
use Rattle.words.specs.Places.{word, start_of, lengths_below, tag_of, lengths_at, box_words}
use Rattle.words.specs.Contents.{turns_at, queue_at}
use Rattle.words.specs.Tested.{queue_fits, queues_tested}
use Rattle.words.proofs.TableReads.{lengths_most}
use Rattle.store.proofs.Shift.{start_is, start_next}
use Rattle.soundness.proofs.testing.queues_tested.Goals as goal

-- The packets at a place end within the words of a box.
queue_end : (ws : List ℕ) (p : ℕ) → p < 64 → lengths_below ws 64 ≤ 1024 → start_of ws p + 4 * word ws (lengths_at + p) ≤ box_words
queue_end ws p h l = omega (arith, start_is ws p, lengths_most ws p 64 h)

pub loop-place-init : goal.loop-place-init
unfolding start_of every_below lengths_below
loop-place-init c = record { at_start = refl; below = refl }

pub queue_fits-requires : goal.queue_fits-requires
queue_fits-requires c =
    let k = c.requires.0 in
    let p = c.loop-place.place in
    let e = c.loop-place.invariant.at_start in
    (k, c.loop-place-test.true, e, omega (arith, k.enough, queue_end c.args.ws.now p c.loop-place-test.true c.requires.1))

pub returns-then-not-queue_fits : goal.returns-then-not-queue_fits
unfolding queues_tested
returns-then-not-queue_fits c =
    let ws = c.args.ws.now in
    sym (every_below_stop (λ p. queue_fits ws (tag_of (turns_at ws) p) (queue_at ws p)) 64 c.loop-place.place c.loop-place-test.true
    (sym c.queue_fits.ensures ∙ c.if-not-queue_fits.true))

pub overflow_add-at-in-loop-place : goal.overflow_add-at-in-loop-place
overflow_add-at-in-loop-place c =
    let e = c.loop-place.invariant.at_start in
    record { fits = omega (arith, queue_end c.args.ws.now c.loop-place.place c.loop-place-test.true c.requires.1) }

pub loop-place-preserved : goal.loop-place-preserved
unfolding every_below
loop-place-preserved c =
    let ws = c.args.ws.now in
    let p = c.loop-place.place in
    let e = c.loop-place.invariant.at_start in
    let test : ℕ → Bool = λ p. queue_fits ws (tag_of (turns_at ws) p) (queue_at ws p) in
    record {
      at_start = omega (arith, start_next ws p);
      below = rw (add-one p) ((and-eq-true_iff (every_below test p) (test p)).1 (
        c.loop-place.invariant.below,
        sym c.queue_fits.ensures ∙ c.if-not-queue_fits.false,
      ));
    }

pub returns : goal.returns
unfolding queues_tested
returns c =
    let ws = c.args.ws.now in
    let e : c.loop-place.place ≡ 64 = omega arith in
    sym (rw e at c.loop-place.invariant.below)
