-- The two wordings of "Queues and steps" choose the same packet: over any moves, what is seen with tags and a turn is what is seen with
-- ranks.
use Prim.Native.Nat.{ℕ, zero, suc, ◌+◌, ◌/◌, ◌%◌, ◌≤◌}
use mathlib.Core.Path.{◌≡◌, refl, sym, ap, ◌∙◌}
use mathlib.Core.Bool.{Bool, true, false}
use mathlib.Core.List.Memᴰ
use mathlib.Core.List.{List, [], ◌∷◌}
use mathlib.Core.List.{cons-eq-cons}
use mathlib.Core.Logic.{⊎_elim}
use native.Mathlib.Omega.{arith}
use lib.ListN.{replicate}
use lib.Dec.{eqb}
use borrow.Author.Tests.{eqb-true, eqb-false, lt-ltb}
use Rattle.laws.specs.Turns.{turn_due_lem, turn_not_due}
use Rattle.meaning.specs.Queues.{Ranked, Move, accept, take, raise, Seen, taken, At, turn_at, join_tail}
use Rattle.meaning.specs.Queues.{turned, lowest_head, without_lowest_head, tag_zero_waits, lowest_rank}
use Rattle.meaning.specs.Queues.{rank_waits, raising, by_tags, by_ranks, seen_of}
use Rattle.meaning.proofs.Layers.{only, layers, Between, layers_append, layers_turned, queue_waits, rank_waits_not, above_empty}
use Rattle.meaning.proofs.Layers.{same_choice, same_rest, chosen_member}

-- The test of the turn at the next slot is that of a multiple of D.
pub turn_test : (D n : ℕ) → turn_at D (suc n) ≡ eqb (suc n % D) 0
unfolding turn_at
turn_test D n = rw (lt-ltb 0 (suc n) (omega arith)) refl

-- The factor of an accepted packet is at most rP.
abbrev pub FactorsUpTo : {A : Type 0} → ℕ → List (Move A) → Type 0
FactorsUpTo rP [] = Unit {0}
FactorsUpTo rP (accept r p ∷ ms) = (r ≤ rP) × FactorsUpTo rP ms
FactorsUpTo rP (take ∷ ms) = FactorsUpTo rP ms
FactorsUpTo rP (raise ∷ ms) = FactorsUpTo rP ms

module _ {A : Type 0} (D rP : ℕ) (positive : 1 ≤ D) where
  -- The queue tagged k holds exactly the packets whose rank is k more than floor(now/D), and no rank lies outside the tags.
  record Same (s : At (List (List A))) (u : At (List (Ranked A))) : Type 0 where
    slots : s.slot ≡ u.slot
    queues : s.waiting ≡ layers u.waiting (u.slot / D) (suc rP)
    ranks : Between u.waiting (u.slot / D) (suc rP)

  -- What is seen of two moves is the same, and so is what waits afterwards.
  record Agree (s : Seen A × At (List (List A))) (u : Seen A × At (List (Ranked A))) : Type 0 where
    seen : s.0 ≡ u.0
    after : Same s.1 u.1

  -- Accepting a packet is seen alike with tags and with ranks, and leaves the same waiting.
  accepting : (r : ℕ) (p : A) (s : At (List (List A))) (u : At (List (Ranked A))) → r ≤ rP → Same s u
      → Agree (by_tags D (accept r p) s) (by_ranks D (accept r p) u)
  unfolding by_tags by_ranks
  accepting r p s u h e =
      let q : Ranked A = record { rank_is = u.slot / D + r; packet = p } in
      record {
        seen = refl;
        after =
            record {
              slots = e.slots;
              queues = ap (join_tail r p) e.queues ∙ sym (layers_append u.waiting q r (u.slot / D) (suc rP) refl (omega arith));
              ranks =
                  λ x m.
                  ⊎_elim (e.ranks x) (λ n. let i : x.rank_is ≡ u.slot / D +
                  r = ap (λ z. z.rank_is) (Memᴰ.eq_of_singleton n) in omega arith)
                  (Memᴰ.append_cases u.waiting m);
            };
      }

  -- Taking the next packet is seen alike with tags and with ranks, and leaves the same waiting.
  taking : (s : At (List (List A))) (u : At (List (Ranked A))) → Same s u → Agree (by_tags D take s) (by_ranks D take u)
  unfolding by_tags by_ranks
  taking s u e =
      let w = u.waiting in
      record {
        seen = ap taken (ap lowest_head e.queues ∙ same_choice (suc rP) w (u.slot / D) e.ranks);
        after =
            record {
              slots = e.slots;
              queues = ap without_lowest_head e.queues ∙ same_rest (suc rP) w (u.slot / D) e.ranks;
              ranks = λ x m. e.ranks x (chosen_member (lowest_rank w) w m);
            };
      }

  -- Raising the counter agrees where it is known whether a turn is due and whether it is blocked.
  raising_both : (s : At (List (List A))) (u : At (List (Ranked A))) (turn waits : Bool)
      → turn_at D (suc u.slot) ≡ turn
      → rank_waits (u.slot / D) u.waiting ≡ waits
      → Same s u
      → Agree (raising D s turn waits (turned s.waiting)) (raising D u turn waits u.waiting)
  unfolding raising
  raising_both s u false b t k e =
      let q : suc u.slot / D ≡ u.slot / D = turn_not_due D u.slot positive (eqb-false _ _ (sym (turn_test D u.slot) ∙ t)) in
      record {
        seen = refl;
        after = record { slots = ap suc e.slots; queues = rw q e.queues; ranks = rw q e.ranks };
      }
  raising_both s u true false t k e =
      let q : suc u.slot / D ≡ suc (u.slot / D) = turn_due_lem D u.slot positive (eqb-true _ _ (sym (turn_test D u.slot) ∙ t)) in
      let z = rank_waits_not (u.slot / D) u.waiting k in
      let above = above_empty u.waiting (u.slot / D) rP e.ranks z in
      record {
        seen = refl;
        after =
            record {
              slots = ap suc e.slots;
              queues = rw q (ap turned e.queues ∙ layers_turned u.waiting (u.slot / D) rP e.ranks z);
              ranks = rw q (λ p m. let b = above p m in omega arith);
            };
      }
  raising_both s u true true t k e = record { seen = refl; after = e }

  -- Raising the counter is seen alike with tags and with ranks, and leaves the same waiting.
  raising_agrees : (s : At (List (List A))) (u : At (List (Ranked A))) → Same s u → Agree (by_tags D raise s) (by_ranks D raise u)
  unfolding by_tags by_ranks
  raising_agrees s u e =
      let t : turn_at D (suc s.slot) ≡ turn_at D (suc u.slot) = ap (λ k. turn_at D (suc k)) e.slots in
      let w : tag_zero_waits s.waiting ≡ rank_waits (u.slot / D) u.waiting =
      ap tag_zero_waits e.queues ∙ queue_waits (u.slot / D) rP u.waiting in
      rw (t, w) (raising_both s u (turn_at D (suc u.slot)) (rank_waits (u.slot / D) u.waiting) refl refl e)

  -- Over any moves from states that agree, tags and ranks show the same.
  agree_on : (ms : List (Move A)) (s : At (List (List A))) (u : At (List (Ranked A))) → FactorsUpTo rP ms → Same s u
      → seen_of (by_tags D) ms s ≡ seen_of (by_ranks D) ms u
  unfolding seen_of
  agree_on [] s u f e = refl
  agree_on (accept r p ∷ ms) s u f e =
      cons-eq-cons.1 ((accepting r p s u f.0 e).seen, agree_on ms _ _ f.1 (accepting r p s u f.0 e).after)
  agree_on (take ∷ ms) s u f e = cons-eq-cons.1 ((taking s u e).seen, agree_on ms _ _ f (taking s u e).after)
  agree_on (raise ∷ ms) s u f e = cons-eq-cons.1 ((raising_agrees s u e).seen, agree_on ms _ _ f (raising_agrees s u e).after)

  -- Empty queues are the queues of no packets.
  no_layers : (r n : ℕ) → replicate n [] ≡ layers {A = A} [] r n
  unfolding layers only
  no_layers r zero = refl
  no_layers r (suc n) = ap (λ (l : List (List A)). [] ∷ l) (no_layers (suc r) n)

  -- Document 01, "Queues and steps": from empty queues, over any accepted packets, takings and raisings of the counter, the wording with
  -- tags and the wording with ranks take the same packets, and block the same turns.
  pub tags_and_ranks : (ms : List (Move A)) → FactorsUpTo rP ms
      → seen_of (by_tags D) ms (record { slot = 0; waiting = replicate (suc rP) [] }) ≡
      seen_of (by_ranks D) ms (record { slot = 0; waiting = [] })
  tags_and_ranks ms f =
      agree_on ms _ _ f (record { slots = refl; queues = no_layers (0 / D) (suc rP); ranks = λ p m. absurd (Memᴰ.not-nil m) })
