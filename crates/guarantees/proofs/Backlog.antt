-- The scheduling fact: no envelope, no test and no class in it. `q` picks the packets that go before some packet and that packet itself,
-- `H` is every packet accepted so far. While a packet of q is in the box, the link has worked since some slot for those packets
-- alone, but for the rest of one other packet that was on the link before.
use Prim.Native.Nat.{ℕ, ◌+◌, ◌≤◌, ◌<◌}
use mathlib.Core.Path.{◌≡◌, refl, sym, ◌∙◌, ap}
use mathlib.Core.Bool.{Bool, true, false, not, ◌&&◌, and-eq-true_iff, true≢false}
use mathlib.Core.List.Memᴰ
use mathlib.Core.List.{List, [], ◌∷◌, ◌++◌, Memᴰ}
use mathlib.Core.Logic.{◌⊎◌, inl, inr, ⊎_elim}
use lib.Dec.{leb}
use borrow.Author.Tests.{le-leb}
use native.Mathlib.Omega.{arith}
use Rattle.laws.specs.Tests.{bool_cases}
use Rattle.laws.specs.Sums.{sum_of, sum_append}
use Rattle.laws.specs.SumLaws.{given, given_true, given_false, sum_one, sum_member}
use Rattle.laws.specs.Putting.{Put}
use Rattle.meaning.specs.declared.Packet.{Packet}
use Rattle.meaning.specs.declared.Link.{Link}

-- Units still to be sent of the packets of q that wait.
unfoldable pub waiting_work : (Packet → Bool) → List Packet → ℕ
waiting_work q W = sum_of (λ p. given (q p) p.units) W

-- Units still to be sent of the packet on the link, if it is of q.
unfoldable pub link_work : (Packet → Bool) → Link → ℕ
link_work q Link.Free = 0
link_work q (Link.Carries p left) = given (q p) left

-- Units still to be sent of the packet on the link, if it is not of q.
unfoldable pub link_other : (Packet → Bool) → Link → ℕ
link_other q Link.Free = 0
link_other q (Link.Carries p left) = given (not (q p)) left

-- Units of the packets of q accepted at slot u or later.
unfoldable pub arrived_since : (Packet → Bool) → ℕ → List Packet → ℕ
arrived_since q u H = sum_of (λ p. given (q p && leb u p.arrival) p.units) H

-- A packet that is not of q was accepted before u, and has more than `rest` units.
pub record InTheWay (q : Packet → Bool) (u rest : ℕ) (H : List Packet) : Type 0 where
  pub packet : Packet
  pub accepted : Memᴰ packet H
  pub other : q packet ≡ false
  pub earlier : packet.arrival < u
  pub longer : rest < packet.units

-- The link has worked since slot `since` for packets of q, but for `rest` units of a packet in the way.
pub record Busy (q : Packet → Bool) (slot : ℕ) (W : List Packet) (link : Link) (H : List Packet) : Type 0 where
  pub since : ℕ
  pub rest : ℕ
  pub begun : since ≤ slot
  pub account : waiting_work q W + link_work q link + link_other q link + slot ≤ since + rest + arrived_since q since H
  pub waits : (p : Packet) → Memᴰ p W → q p ≡ true → since ≤ p.arrival
  pub carried : (p : Packet) (left : ℕ) → link ≡ Link.Carries p left → q p ≡ true → since ≤ p.arrival
  pub way : (rest ≡ 0) ⊎ InTheWay q since rest H

-- The scheduling fact: nothing of q is in the box, or the link is busy with it.
abbrev pub Backlog : (Packet → Bool) → ℕ → List Packet → Link → List Packet → Type 0
Backlog q slot W link H = (waiting_work q W + link_work q link ≡ 0) ⊎ Busy q slot W link H

-- What is known of the packet on the link: it has sent a unit, has one to send, and was accepted at an earlier slot.
pub record OnLink (slot : ℕ) (H : List Packet) (p : Packet) (left : ℕ) : Type 0 where
  pub accepted : Memᴰ p H
  pub earlier : p.arrival < slot
  pub some_left : 1 ≤ left
  pub some_sent : left < p.units

module _ (q : Packet → Bool) where
  -- More history makes what arrived no smaller.
  arrived_more : (u : ℕ) (H : List Packet) (p : Packet) →
      arrived_since q u (H ++ (p ∷ [])) ≡ arrived_since q u H + given (q p && leb u p.arrival) p.units
  unfolding arrived_since
  arrived_more u H p =
      let f : Packet → ℕ = λ p. given (q p && leb u p.arrival) p.units in
      sum_append f H (p ∷ []) ∙ ap (λ n. sum_of f H + n) (sum_one f p)

  -- A packet in the way stays one when more is accepted.
  way_more : (u rest : ℕ) (H : List Packet) (p : Packet) → (rest ≡ 0) ⊎ InTheWay q u rest H → (rest ≡ 0) ⊎ InTheWay q u rest (H ++ (p ∷ []))
  way_more u rest H p (inl e) = inl e
  way_more u rest H p (inr v) =
      inr (record {
        packet = v.packet;
        accepted = Memᴰ.append_left (p ∷ []) v.accepted;
        other = v.other;
        earlier = v.earlier;
        longer = v.longer;
      })

  -- A waiting packet of q is work.
  waiting_counts : (W : List Packet) (p : Packet) → Memᴰ p W → q p ≡ true → p.units ≤ waiting_work q W
  unfolding waiting_work
  waiting_counts W p m e =
      let g = given_true p.units e in
      let s = sum_member (λ (p : Packet). given (q p) p.units) W m in
      omega arith

  -- An accepted packet that is not of q changes nothing.
  accept_other : (slot : ℕ) (W W' : List Packet) (link : Link) (H : List Packet) (p : Packet) → Put p W W' → q p ≡ false →
      Backlog q slot W link H → Backlog q slot W' link (H ++ (p ∷ []))
  unfolding waiting_work
  accept_other slot W W' link H p put e (inl z) =
      inl (let s = put.sums (λ p. given (q p) p.units) in let g = given_false p.units e in omega arith)
  accept_other slot W W' link H p put e (inr b) =
      inr (record {
        since = b.since;
        rest = b.rest;
        begun = b.begun;
        account = (let s = put.sums (λ p. given (q p) p.units) in let g = given_false p.units e in
            let a = b.account in let m = arrived_more b.since H p in omega arith);
        waits =
            λ x m h. ⊎_elim (λ (k : x ≡ p). absurd (true≢false (sym h ∙ ap q k ∙ e))) (λ (k : Memᴰ x W). b.waits x k h)
            (put.parts x m);
        carried = b.carried;
        way = way_more b.since b.rest H p b.way;
      })

  -- An accepted packet of q while the link is busy with q: both sides of the account grow by its length.
  accept_busy : (slot : ℕ) (W W' : List Packet) (link : Link) (H : List Packet) (p : Packet) → Put p W W' → q p ≡ true → p.arrival ≡ slot →
      Busy q slot W link H → Busy q slot W' link (H ++ (p ∷ []))
  unfolding waiting_work
  accept_busy slot W W' link H p put e now b =
      record {
        since = b.since;
        rest = b.rest;
        begun = b.begun;
        account =
            let s = put.sums (λ p. given (q p) p.units) in
            let g = given_true p.units e in
            let k = b.begun in
            let t = given_true p.units
            ((and-eq-true_iff (q p) (leb b.since p.arrival)).1 (e, le-leb b.since p.arrival (omega arith))) in
            let a = b.account in
            let m = arrived_more b.since H p in
            omega arith;
        waits = λ x m h. ⊎_elim (λ (k : x ≡ p). let a = ap (λ (p : Packet). p.arrival) k in let l = b.begun in omega arith)
            (λ (k : Memᴰ x W). b.waits x k h) (put.parts x m);
        carried = b.carried;
        way = way_more b.since b.rest H p b.way;
      }

  -- What is left of another packet on the link is in the way of what comes now.
  other_on_link : (slot : ℕ) (H : List Packet) (link : Link) → ((p : Packet) (left : ℕ) → link ≡ Link.Carries p left → OnLink slot H p left) →
      (link_other q link ≡ 0) ⊎ InTheWay q slot (link_other q link) H
  unfolding link_other
  other_on_link slot H Link.Free on = inl refl
  other_on_link slot H (Link.Carries v left) on = ⊎_elim mine others (bool_cases (q v))
    where
      here : OnLink slot H v left
      here = on v left refl

      mine : q v ≡ true → (link_other q (Link.Carries v left) ≡ 0) ⊎ InTheWay q slot (link_other q (Link.Carries v left)) H
      mine e = inl (given_false left (ap not e))

      others : q v ≡ false → (link_other q (Link.Carries v left) ≡ 0) ⊎ InTheWay q slot (link_other q (Link.Carries v left)) H
      others e =
          inr (record {
            packet = v;
            accepted = here.accepted;
            other = e;
            earlier = here.earlier;
            longer = (let g : given (not (q v)) left ≡ left = given_true left (ap not e) in let s = here.some_sent in omega arith);
          })

  -- An accepted packet of q while nothing of q was in the box: the link is busy with it from this slot on.
  accept_first : (slot : ℕ) (W W' : List Packet) (link : Link) (H : List Packet) (p : Packet) → Put p W W' → q p ≡ true
      → p.arrival ≡ slot →
      ((x : Packet) → Memᴰ x W → 1 ≤ x.units) → ((v : Packet) (left : ℕ) → link ≡ Link.Carries v left → OnLink slot H v left) →
      waiting_work q W + link_work q link ≡ 0 → Busy q slot W' link (H ++ (p ∷ []))
  accept_first slot W W' link H p put e now units on z =
      record {
        since = slot;
        rest = link_other q link;
        begun = omega arith;
        account = unfold waiting_work in
            let s = put.sums (λ p. given (q p) p.units) in
            let g = given_true p.units e in
            let t = given_true p.units ((and-eq-true_iff (q p) (leb slot p.arrival)).1 (e, le-leb slot p.arrival (omega arith))) in
            let m = arrived_more slot H p in
            omega arith;
        waits = λ x m h. ⊎_elim (λ (k : x ≡ p). let a = ap (λ (p : Packet). p.arrival) k in omega arith)
            (λ (k : Memᴰ x W). absurd (let c = waiting_counts W x k h in let u = units x k in omega arith)) (put.parts x m);
        carried = λ v left k h. absurd (busy_link link v left k h (on v left k).some_left (omega arith));
        way = way_more slot (link_other q link) H p (other_on_link slot H link on);
      }
    where
      busy_link : (l : Link) (v : Packet) (left : ℕ) → l ≡ Link.Carries v left → q v ≡ true → 1 ≤ left → link_work q l ≡ 0 → ⊥
      busy_link l v left k h u w =
          let a : link_work q (Link.Carries v left) ≡ left = unfold link_work in given_true left h in
          let b = ap (link_work q) k in
          omega arith

  -- The fact is kept by an accepted packet.
  pub accept_keeps : (slot : ℕ) (W W' : List Packet) (link : Link) (H : List Packet) (p : Packet) → Put p W W' → p.arrival ≡ slot →
      ((x : Packet) → Memᴰ x W → 1 ≤ x.units) → ((v : Packet) (left : ℕ) → link ≡ Link.Carries v left → OnLink slot H v left) →
      Backlog q slot W link H → Backlog q slot W' link (H ++ (p ∷ []))
  accept_keeps slot W W' link H p put now units on b =
      ⊎_elim (λ e. inr (mine e b)) (λ e. accept_other slot W W' link H p put e b) (bool_cases (q p))
    where
      mine : q p ≡ true → Backlog q slot W link H → Busy q slot W' link (H ++ (p ∷ []))
      mine e (inl z) = accept_first slot W W' link H p put e now units on z
      mine e (inr b) = accept_busy slot W W' link H p put e now b
