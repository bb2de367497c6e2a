-- Lists of queues: the lowest tag, joining a tail, taking a head.
use Prim.Native.Nat.{ℕ, zero, suc, ◌≤◌, ◌<◌}
use mathlib.Core.Path.{◌≡◌, refl, sym, ap, ◌∙◌}
use mathlib.Core.List.{List, [], ◌∷◌, ◌++◌}
use mathlib.Core.Option.{none, some}
use native.Mathlib.Omega.{arith}
use lib.ListN.{length, get_or, set, drop}
use lib.Dec.{ltb}
use borrow.Author.Tests.{lt-ltb}
use Rattle.meaning.specs.Queues.{join_tail, lowest_head, without_lowest_head, tag_zero_waits}
use Rattle.store.specs.StoreChanges.{lowest_tag}

module _ {A : Type 0} where
  -- Behind an empty first queue the lowest tag is one more than that of the rest.
  lowest_empty : (q : List A) (qs : List (List A)) → length q ≡ 0 → lowest_tag (q ∷ qs) ≡ suc (lowest_tag qs)
  unfolding lowest_tag
  lowest_empty [] qs e = refl
  lowest_empty (x ∷ q) qs e = absurd (omega arith)

  -- Where the first queue has a packet, the lowest tag is 0.
  lowest_full : (q : List A) (qs : List (List A)) → (length q ≡ 0 → ⊥) → lowest_tag (q ∷ qs) ≡ 0
  unfolding lowest_tag
  lowest_full [] qs e = absurd (e refl)
  lowest_full (x ∷ q) qs e = refl

  -- A queue that has a packet, where no queue before it has one, is at the lowest tag.
  pub lowest_first : (qs : List (List A)) (tag : ℕ) → (length (get_or qs tag []) ≡ 0 → ⊥)
      → ((k : ℕ) → k < tag → length (get_or qs k []) ≡ 0) → tag ≡ lowest_tag qs
  lowest_first [] tag e h = absurd (e refl)
  lowest_first (q ∷ qs) zero e h = sym (lowest_full q qs e)
  lowest_first (q ∷ qs) (suc tag) e h =
      ap suc (lowest_first qs tag e (λ k l. h (suc k) (omega arith))) ∙ sym (lowest_empty q qs (h 0 (omega arith)))

  -- Where no queue has a packet, the lowest tag is past the last one.
  pub lowest_none : (qs : List (List A)) → ((k : ℕ) → k < length qs → length (get_or qs k []) ≡ 0) → length qs ≤ lowest_tag qs
  lowest_none [] h = omega arith
  lowest_none (q ∷ qs) h =
      rw (lowest_empty q qs (h 0 (omega arith))) (omega (arith, lowest_none qs (λ k l. h (suc k) (omega arith))))

  -- The lowest tag is at most the number of queues.
  pub lowest_most : (qs : List (List A)) → lowest_tag qs ≤ length qs
  unfolding lowest_tag
  lowest_most [] = omega arith
  lowest_most ([] ∷ qs) = omega (arith, lowest_most qs)
  lowest_most ((x ∷ q) ∷ qs) = omega arith

  -- Joining a tail sets one queue.
  pub join_sets : (tag : ℕ) (p : A) (qs : List (List A)) → tag < length qs → join_tail tag p qs ≡ set qs tag (get_or qs tag [] ++ (p ∷ []))
  unfolding join_tail
  join_sets tag p [] h = absurd (omega arith)
  join_sets zero p (q ∷ qs) h = refl
  join_sets (suc tag) p (q ∷ qs) h = ap (λ l. q ∷ l) (join_sets tag p qs (omega arith))

  -- Taking the lowest head sets one queue.
  pub take_sets : (qs : List (List A)) → lowest_tag qs < length qs
      → without_lowest_head qs ≡ set qs (lowest_tag qs) (drop 1 (get_or qs (lowest_tag qs) []))
  unfolding without_lowest_head lowest_tag
  take_sets [] h = absurd (omega arith)
  take_sets ([] ∷ qs) h = ap (λ l. [] ∷ l) (take_sets qs (omega arith))
  take_sets ((p ∷ q) ∷ qs) h = refl

  -- Where no queue has a packet, there is no lowest head and nothing is taken.
  pub take_none : (qs : List (List A)) → length qs ≤ lowest_tag qs → (without_lowest_head qs ≡ qs) × (lowest_head qs ≡ none)
  unfolding without_lowest_head lowest_tag lowest_head
  take_none [] h = (refl, refl)
  take_none ([] ∷ qs) h = let t = take_none qs (omega arith) in (ap (λ l. [] ∷ l) t.0, t.1)
  take_none ((p ∷ q) ∷ qs) h = absurd (omega arith)

  -- The lowest head is the first packet of the queue of the lowest tag.
  pub take_head : (qs : List (List A)) (d : A) → lowest_tag qs < length qs
      → (lowest_head qs ≡ some (get_or (get_or qs (lowest_tag qs) []) 0 d)) × (1 ≤ length (get_or qs (lowest_tag qs) []))
  unfolding lowest_tag lowest_head
  take_head [] d h = absurd (omega arith)
  take_head ([] ∷ qs) d h = take_head qs d (omega arith)
  take_head ((p ∷ q) ∷ qs) d h = (refl, omega arith)

  -- After the lowest head is taken, tag 0 has a waiting packet exactly if it had more than one.
  pub zero_waits_taken : (qs : List (List A)) → tag_zero_waits (without_lowest_head qs) ≡ ltb 1 (length (get_or qs 0 []))
  unfolding tag_zero_waits without_lowest_head
  zero_waits_taken [] = refl
  zero_waits_taken ([] ∷ qs) = refl
  zero_waits_taken ((p ∷ []) ∷ qs) = refl
  zero_waits_taken ((p ∷ (x ∷ q)) ∷ qs) = sym (lt-ltb 1 (suc (suc (length q))) (omega arith))

  -- Tag 0 has a waiting packet exactly if its queue is not empty.
  pub zero_waits : (qs : List (List A)) → tag_zero_waits qs ≡ ltb 0 (length (get_or qs 0 []))
  unfolding tag_zero_waits
  zero_waits [] = refl
  zero_waits ([] ∷ qs) = refl
  zero_waits ((p ∷ q) ∷ qs) = sym (lt-ltb 0 (suc (length q)) (omega arith))
