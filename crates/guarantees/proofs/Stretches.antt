-- The slots at which a connection's packets were accepted: if each of them fitted when it came, no closed stretch has more than it may.
use Prim.Native.Nat.{ℕ, suc, ◌+◌, ◌*◌, ◌-◌, ◌≤◌}
use mathlib.Core.Path.{◌≡◌, refl}
use mathlib.Core.Bool.{Bool, true, false, cond, ◌&&◌}
use mathlib.Core.List.{List, [], ◌∷◌, ◌++◌, Memᴰ}
use lib.Dec.{leb, eqb}
use borrow.Author.Tests.{leb-true, eqb-true, eq-eqb, ne_eqb}
use native.Mathlib.Omega.{arith}
use Rattle.laws.specs.Tests.{within, within_facts, within_test, every_below_at}
use Rattle.laws.specs.Sums.{sum_of, sum_append}
use Rattle.laws.specs.SumLaws.{given}
use Rattle.laws.specs.Division.{div_mono}
use Rattle.meaning.specs.declared.Connection.{Connection}
use Rattle.meaning.specs.Envelope.{may_have, count_in, fits}
use Rattle.meaning.specs.declared.Packet.{Packet}
use Rattle.meaning.proofs.RecordFits.{Descending}
use Rattle.guarantees.specs.Runs.{slots_of, WithinEnvelope}
use Rattle.guarantees.proofs.Ahead.{units_in}

-- One more packet is the last accepted.
pub slots_mine : (n : ℕ) (H : List Packet) (p : Packet) → p.connection ≡ n → slots_of n (H ++ (p ∷ [])) ≡ p.arrival ∷ slots_of n H
unfolding slots_of
slots_mine n [] p e = rw (eq-eqb p.connection n e)
slots_mine n (x ∷ H) p e = rw (slots_mine n H p e)

-- A packet of another connection is none of this one's.
pub slots_other : (n : ℕ) (H : List Packet) (p : Packet) → (p.connection ≡ n → ⊥) → slots_of n (H ++ (p ∷ [])) ≡ slots_of n H
unfolding slots_of
slots_other n [] p e = rw (ne_eqb p.connection n e)
slots_other n (x ∷ H) p e = rw (slots_other n H p e)

-- No packet of this connection, no slot.
pub slots_none : (n : ℕ) (H : List Packet) → ((p : Packet) → Memᴰ p H → p.connection ≡ n → ⊥) → slots_of n H ≡ []
unfolding slots_of
slots_none n [] h = refl
slots_none n (p ∷ H) h =
    rw (ne_eqb p.connection n (h p (Memᴰ.head refl)), slots_none n H (λ x m. h x (Memᴰ.tail m)))

-- Past the last accepted packet a stretch has no more.
count_shrinks : (top at x y : ℕ) (slots : List ℕ) → Descending top slots → top ≤ at → count_in slots x y ≤ count_in slots x at
unfolding count_in sum_of
count_shrinks top at x y [] d h = omega arith
count_shrinks top at x y (a ∷ slots) d h =
    let i = count_shrinks a at x y slots d.1 (let o = d.0 in omega arith) in
    go (within x a y) refl i
  where
    go : (b : Bool) → within x a y ≡ b → sum_of (λ a. cond (within x a y) 1 0) slots ≤ sum_of (λ a. cond (within x a at) 1 0) slots →
        cond b 1 0 + sum_of (λ a. cond (within x a y) 1 0) slots ≤ cond (within x a at) 1 0 + sum_of (λ a. cond (within x a at) 1 0) slots
    go true e i =
        let w = within_facts x a y e in
        rw (within_test x a at w.0 (let o = d.0 in omega arith)) (omega arith)
    go false e i = omega arith

-- A packet that fits keeps the envelope.
pub fitting_keeps : (c : Connection) → 1 ≤ c.period → (at : ℕ) (slots : List ℕ) → Descending at slots → fits (may_have c) slots at ≡ true →
    WithinEnvelope c slots → WithinEnvelope c (at ∷ slots)
unfolding fits
fitting_keeps c period at slots d f w x t = go (within x at (x + t)) refl
  where
    outside : within x at (x + t) ≡ false → count_in (at ∷ slots) x (x + t) ≤ may_have c t
    outside e = unfold count_in sum_of in rw e (let i : sum_of (λ a. cond (within x a (x + t)) 1 0) slots ≤ may_have c t = w x t in omega arith)

    go : (b : Bool) → within x at (x + t) ≡ b → count_in (at ∷ slots) x (x + t) ≤ may_have c t
    go false e = outside e
    go true e =
        let r = within_facts x at (x + t) e in
        let l = r.0 in
        let h = r.1 in
        let s = count_shrinks at at x (x + t) (at ∷ slots) (omega arith, d) (omega arith) in
        let m = leb-true (count_in (at ∷ slots) x at) (may_have c (at - x))
        (every_below_at (λ x. leb (count_in (at ∷ slots) x at) (may_have c (at - x))) (suc at) f x (omega arith)) in
        let v : may_have c (at - x) ≤ may_have c t =
        unfold may_have in (let q = div_mono {m = at - x} {n = t} c.period period (omega arith) in omega arith) in
        omega arith

-- Packets of at most s units each: their units are at most s times their count.
pub units_count : (H : List Packet) (j s x y : ℕ) → ((p : Packet) → Memᴰ p H → p.connection ≡ j → p.units ≤ s) →
    units_in H j x y ≤ s * count_in (slots_of j H) x y
unfolding units_in slots_of count_in sum_of given
units_count [] j s x y h = omega arith
units_count (p ∷ H) j s x y h =
    let i : units_in H j x y ≤ s * count_in (slots_of j H) x y = units_count H j s x y (λ q m. h q (Memᴰ.tail m)) in
    let a = sum_append (λ a. cond (within x a y) 1 0) (slots_of j H) (cond (eqb p.connection j) (p.arrival ∷ []) []) in
    rw a (go (eqb p.connection j) refl (within x p.arrival y) refl i)
  where
    go : (b : Bool) → eqb p.connection j ≡ b → (c : Bool) → within x p.arrival y ≡ c →
        sum_of (λ p. given (eqb p.connection j && within x p.arrival y) p.units) H ≤ s * sum_of (λ a. cond (within x a y) 1 0)
        (slots_of j H) →
        given (b && c) p.units + sum_of (λ p. given (eqb p.connection j && within x p.arrival y) p.units) H ≤
        s * (sum_of (λ a. cond (within x a y) 1 0) (slots_of j H) + sum_of (λ a. cond (within x a y) 1 0) (cond b (p.arrival ∷ []) []))
    go true e true f i =
        let u = h p (Memᴰ.head refl) (eqb-true p.connection j e) in
        rw f (omega arith)
    go true e false f i = rw f (omega arith)
    go false e c f i = omega arith
