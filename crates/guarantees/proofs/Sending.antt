-- The scheduling fact is kept by a step: the next packet is taken, and a unit is sent.
use Prim.Native.Nat.{ℕ, suc, ◌+◌, ◌-◌, ◌≤◌}
use mathlib.Core.Path.{◌≡◌, refl, sym, ◌∙◌, ap}
use mathlib.Core.Bool.{Bool, true, false, cond, not, true≢false}
use mathlib.Core.List.{List, [], Memᴰ}
use mathlib.Core.Logic.{◌⊎◌, inl, inr, ⊎_elim}
use lib.Dec.{leb}
use borrow.Author.Tests.{leb-true, leb-false}
use native.Mathlib.Omega.{arith}
use Rattle.laws.specs.Tests.{bool_cases}
use Rattle.laws.specs.Sums.{sum_of}
use Rattle.laws.specs.SumLaws.{given, given_true, given_false, sum_zero}
use Rattle.laws.specs.Putting.{Put, Same}
use Rattle.meaning.specs.declared.Packet.{Packet}
use Rattle.meaning.specs.Step.{link_sent}
use Rattle.guarantees.proofs.Backlog.{waiting_work, link_work, link_other, Backlog}
use Rattle.meaning.specs.declared.Link.{Link}

-- What a sent unit leaves on the link: nothing, or the same packet with a unit less.
pub sent_cases : (p : Packet) (left : ℕ)
    → ((left ≤ 1) × (link_sent (Link.Carries p left) ≡ Link.Free)) ⊎ ((2 ≤ left) × (link_sent (Link.Carries p left) ≡ Link.Carries p (left - 1)))
unfolding link_sent
sent_cases p left = go (leb left 1) refl
  where
    go : (b : Bool) → leb left 1 ≡ b →
        ((left ≤ 1) × (cond b Link.Free (Link.Carries p (left - 1)) ≡ Link.Free)) ⊎
        ((2 ≤ left) × (cond b Link.Free (Link.Carries p (left - 1)) ≡ Link.Carries p (left - 1)))
    go true e = inl (leb-true left 1 e, refl)
    go false e = inr (leb-false left 1 e, refl)

-- The packet that a sent unit leaves on the link is the one that was there.
pub sent_is : (p : Packet) (l : ℕ) (x : Packet) (left : ℕ) → link_sent (Link.Carries p l) ≡ Link.Carries x left → x ≡ p
sent_is p l x left h =
    ⊎_elim (λ (c : (l ≤ 1) × (link_sent (Link.Carries p l) ≡ Link.Free)). absurd (let i = c.1 in let z : ◌≡◌ {A = ℕ} 0 1 = cc in omega arith))
    (λ (c : (2 ≤ l) × (link_sent (Link.Carries p l) ≡ Link.Carries p (l - 1))). let i = c.1 in cc) (sent_cases p l)

module _ (q : Packet → Bool) where
  -- The packet that is taken for a free link is of q if a packet of q waits, so the fact is kept.
  pub take_keeps : (slot : ℕ) (W W₁ : List Packet) (H : List Packet) (p : Packet) → Put p W₁ W → Memᴰ p W →
      ((x : Packet) → Memᴰ x W₁ → Memᴰ x W) → ((x : Packet) → Memᴰ x W₁ → q x ≡ true → q p ≡ true) →
      Backlog q slot W Link.Free H → Backlog q slot W₁ (Link.Carries p p.units) H
  unfolding waiting_work link_work link_other
  take_keeps slot W W₁ H p put there others closed (inl z) =
      inl (let s = put.sums (λ p. given (q p) p.units) in omega arith)
  take_keeps slot W W₁ H p put there others closed (inr b) = ⊎_elim mine other (bool_cases (q p))
    where
      mine : q p ≡ true → Backlog q slot W₁ (Link.Carries p p.units) H
      mine e =
          inr (record {
            since = b.since;
            rest = b.rest;
            begun = b.begun;
            account = (let s = put.sums (λ p. given (q p) p.units) in let g = given_false p.units (ap not e) in
                let a = b.account in omega arith);
            waits = λ x m h. b.waits x (others x m) h;
            carried = λ x left k h. let c : x ≡ p = cc in rw c (b.waits p there e);
            way = b.way;
          })

      other : q p ≡ false → Backlog q slot W₁ (Link.Carries p p.units) H
      other e =
          inl (let g = given_false p.units e in
          let w = sum_zero (λ p. given (q p) p.units) W₁
          (λ x m. given_false x.units
          (⊎_elim (λ (h : q x ≡ true). absurd (true≢false (sym (closed x m h) ∙ e))) (λ h. h) (bool_cases (q x)))) in
          omega arith)

  -- One unit less is to be sent of what is on the link.
  sent_work : (p : Packet) (left : ℕ) → 1 ≤ left →
      (link_work q (link_sent (Link.Carries p left)) + link_other q (link_sent (Link.Carries p left)) + 1 ≡
      link_work q (Link.Carries p left) + link_other q (Link.Carries p left)) ×
      (link_work q (link_sent (Link.Carries p left)) ≤ link_work q (Link.Carries p left))
  unfolding link_work link_other
  sent_work p left h =
      ⊎_elim (λ c. rw c.1 (last c.0 (bool_cases (q p)))) (λ c. rw c.1 (more c.0 (bool_cases (q p)))) (sent_cases p left)
    where
      last : left ≤ 1 → (q p ≡ true) ⊎ (q p ≡ false) → (0 + 0 + 1 ≡ given (q p) left + given (not (q p)) left) × (0 ≤ given (q p) left)
      last l (inl e) = let a = given_true left e in let b = given_false left (ap not e) in (omega arith, omega arith)
      last l (inr e) = let a = given_false left e in let b = given_true left (ap not e) in (omega arith, omega arith)

      more : 2 ≤ left → (q p ≡ true) ⊎ (q p ≡ false) →
          (given (q p) (left - 1) + given (not (q p)) (left - 1) + 1 ≡ given (q p) left + given (not (q p)) left) ×
          (given (q p) (left - 1) ≤ given (q p) left)
      more l (inl e) =
          let a = given_true left e in let b = given_false left (ap not e) in
          let c = given_true (left - 1) e in let d = given_false (left - 1) (ap not e) in
          (omega arith, omega arith)
      more l (inr e) =
          let a = given_false left e in let b = given_true left (ap not e) in
          let c = given_false (left - 1) e in let d = given_true (left - 1) (ap not e) in
          (omega arith, omega arith)

  -- Sending a unit keeps the fact: one unit less is to be sent, and one slot has passed.
  pub send_keeps : (slot : ℕ) (W W' : List Packet) (H : List Packet) (p : Packet) (left : ℕ) → 1 ≤ left → Same W W' →
      Backlog q slot W (Link.Carries p left) H → Backlog q (suc slot) W' (link_sent (Link.Carries p left)) H
  unfolding waiting_work
  send_keeps slot W W' H p left h same (inl z) =
      inl (let s = same.sums (λ p. given (q p) p.units) in let w = (sent_work p left h).1 in omega arith)
  send_keeps slot W W' H p left h same (inr b) =
      inr (record {
        since = b.since;
        rest = b.rest;
        begun = (let k = b.begun in omega arith);
        account = (let s = same.sums (λ p. given (q p) p.units) in let w = (sent_work p left h).0 in let a = b.account in omega arith);
        waits = λ x m e. b.waits x (same.parts x m) e;
        carried = λ x l k e. let y = sent_is p left x l k in rw y (b.carried p left refl (rw y at e));
        way = b.way;
      })

  -- A step with nothing to send leaves nothing of q.
  pub idle_keeps : (slot : ℕ) (W : List Packet) (H : List Packet) → Same [] W → Backlog q slot W Link.Free H
  unfolding waiting_work link_work sum_of
  idle_keeps slot W H same = inl (let s = same.sums (λ p. given (q p) p.units) in omega arith)
