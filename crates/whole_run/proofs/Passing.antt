-- One slot of a run, and the slots one after another: what is left of the run before each of them.
use Prim.Native.Nat.{ℕ, ◌/◌, ◌≤◌, ◌<◌}
use mathlib.Core.Path.{◌≡◌, sym, ap, ◌∙◌}
use mathlib.Core.Bool.{false, ◌&&◌}
use mathlib.Core.List.{List, [], ◌∷◌, ◌++◌, append-nil}
use native.Mathlib.Omega.{arith}
use lib.ListN.{length, length-append}
use lib.Dec.{eqb}
use borrow.Author.Tests.{ne_eqb}
use Rattle.meaning.specs.declared.Packet.{Packet}
use Rattle.meaning.specs.declared.Link.{Link}
use Rattle.meaning.specs.Box.{Box, waiting, on_link, packets}
use Rattle.meaning.specs.Run.{finished}
use Rattle.plan.specs.Parts.{arrivals_in}
use Rattle.plan.specs.StretchPlaces.{length_arrivals_in}
use Rattle.whole_run.specs.Parts.{arrivals_placed, Walked}
use Rattle.whole_run.proofs.Due.{all_before, one_not_before}

-- A box whose link carries a packet is not empty; where the link is free, those that wait are all.
pub carrying : (box : Box) (left : ℕ) (p : Packet) → box.link ≡ Link.Carries p left → false ≡ eqb (length (packets box)) 0
unfolding packets on_link
carrying box left p e =
    let n = length-append (waiting box) (on_link box.link) in
    let o : on_link box.link ≡ p ∷ [] = ap on_link e in
    let k : length (on_link box.link) ≡ 1 = ap length o in
    sym (ne_eqb (length (waiting box ++ on_link box.link)) 0 (λ q. omega arith))

-- Where the link is free, the box is empty exactly if nothing waits.
pub link_free : (box : Box) (n : ℕ) → box.link ≡ Link.Free → n ≡ length (waiting box) → eqb n 0 ≡ eqb (length (packets box)) 0
unfolding packets on_link
link_free box n e f =
    let o : on_link box.link ≡ [] = ap on_link e in
    ap (λ k. eqb k 0) (f ∙ sym (ap length (ap (λ l. waiting box ++ l) o ∙ append-nil (waiting box))))

module _ (bytes : List ℕ) (box : Box) (passed : ℕ) (walked : Walked bytes box passed) where
  -- Where arrivals remain, the run is not finished.
  pub not_yet : passed < length bytes / 12 → false ≡ finished (arrivals_placed bytes) box
  unfolding finished
  not_yet h =
      let l = length_arrivals_in bytes in
      sym (ap (λ b. b && eqb (length (packets box)) 0) (one_not_before box.counter 1 (arrivals_in bytes) (omega (arith, l, walked, h))))

  -- Where no arrivals remain, the run is finished exactly if the box is empty.
  pub all_passed : length bytes / 12 ≤ passed → eqb (length (packets box)) 0 ≡ finished (arrivals_placed bytes) box
  unfolding finished
  all_passed h =
      let l = length_arrivals_in bytes in
      sym (ap (λ b. b && eqb (length (packets box)) 0) (all_before box.counter 1 (arrivals_in bytes) (omega (arith, l, walked, h))))
