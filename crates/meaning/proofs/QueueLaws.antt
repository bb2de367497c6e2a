-- What joining a tail, taking the lowest head and turning do to the packets of the queues: which they are, how many, and a test by tag.
use Prim.Native.Nat.{ℕ, zero, suc, ◌+◌, ◌<◌}
use mathlib.Core.Path.{◌≡◌, refl, sym, ap, ◌∙◌}
use mathlib.Core.Bool.{Bool, true, ◌&&◌, and-eq-true_iff}
use mathlib.Core.List.Memᴰ
use mathlib.Core.List.{List, [], ◌∷◌, ◌++◌, flatten, append-nil, append_assoc, Memᴰ}
use mathlib.Core.Logic.{◌⊎◌, inl, inr, ⊎_elim}
use mathlib.Core.Option.{none, some}
use native.Mathlib.Nat.{not-suc-le-zero}
use native.Mathlib.Omega.{arith}
use lib.ListN.{length, replicate, length-append}
use Rattle.laws.specs.Tests.{every, every_at, every_all, every_append}
use Rattle.meaning.specs.Queues.{join_tail, turned, lowest_head, without_lowest_head}

module _ {A : Type 0} where
  -- A packet that waits after joining a tail is the new one or waited before.
  pub joined_member : (k : ℕ) (p : A) (qs : List (List A)) {x : A} → Memᴰ x (flatten (join_tail k p qs))
      → (x ≡ p) ⊎ Memᴰ x (flatten qs)
  unfolding join_tail flatten
  joined_member k p [] m = inr m
  joined_member zero p (q ∷ qs) {x} m =
      ⊎_elim
      (λ n. ⊎_elim (λ a. inr (Memᴰ.append_left (flatten qs) a)) (λ b. inl (Memᴰ.eq_of_singleton b)) (Memᴰ.append_cases q n))
      (λ n. inr (Memᴰ.append_right q n))
      (Memᴰ.append_cases (q ++ (p ∷ [])) m)
  joined_member (suc k) p (q ∷ qs) {x} m =
      ⊎_elim (λ n. inr (Memᴰ.append_left (flatten qs) n))
      (λ n. ⊎_elim inl (λ a. inr (Memᴰ.append_right q a)) (joined_member k p qs n))
      (Memᴰ.append_cases q m)

  -- Joining the tail of one of the queues adds one packet.
  pub joined_length : (k : ℕ) (p : A) (qs : List (List A)) → k < length qs → length (flatten (join_tail k p qs)) ≡ suc (length (flatten qs))
  unfolding join_tail flatten
  joined_length k p [] h = absurd (not-suc-le-zero h)
  joined_length zero p (q ∷ qs) h = simp length-append (omega arith)
  joined_length (suc k) p (q ∷ qs) h =
      let i = joined_length k p qs (omega arith) in
      simp length-append (omega arith)

  -- Joining a tail leaves the number of queues.
  pub joined_count : (k : ℕ) (p : A) (qs : List (List A)) → length (join_tail k p qs) ≡ length qs
  unfolding join_tail
  joined_count k p [] = refl
  joined_count zero p (q ∷ qs) = refl
  joined_count (suc k) p (q ∷ qs) = ap suc (joined_count k p qs)

  -- The lowest head is one of the packets that wait.
  pub lowest_member : (qs : List (List A)) (p : A) → lowest_head qs ≡ some p → Memᴰ p (flatten qs)
  unfolding lowest_head flatten
  lowest_member [] p e = absurd (let z : ◌≡◌ {A = ℕ} 0 1 = cc in omega arith)
  lowest_member ([] ∷ qs) p e = lowest_member qs p e
  lowest_member ((x ∷ q) ∷ qs) p e = Memᴰ.head (let z : p ≡ x = cc in z)

  -- A packet that waits once the lowest head is taken waited before.
  pub without_member : (qs : List (List A)) {x : A} → Memᴰ x (flatten (without_lowest_head qs)) → Memᴰ x (flatten qs)
  unfolding without_lowest_head flatten
  without_member [] m = m
  without_member ([] ∷ qs) m = without_member qs m
  without_member ((p ∷ q) ∷ qs) m = Memᴰ.tail m

  -- Taking the lowest head leaves one packet fewer.
  pub without_length : (qs : List (List A)) (p : A) → lowest_head qs ≡ some p
      → length (flatten qs) ≡ suc (length (flatten (without_lowest_head qs)))
  unfolding lowest_head without_lowest_head flatten
  without_length [] p e = absurd (let z : ◌≡◌ {A = ℕ} 0 1 = cc in omega arith)
  without_length ([] ∷ qs) p e = without_length qs p e
  without_length ((x ∷ q) ∷ qs) p e = refl

  -- Taking the lowest head leaves the number of queues.
  pub without_count : (qs : List (List A)) → length (without_lowest_head qs) ≡ length qs
  unfolding without_lowest_head
  without_count [] = refl
  without_count ([] ∷ qs) = ap suc (without_count qs)
  without_count ((p ∷ q) ∷ qs) = refl

  -- Where there is no lowest head, nothing waits.
  pub nothing_waits : (qs : List (List A)) → lowest_head qs ≡ none → flatten qs ≡ []
  unfolding lowest_head flatten
  nothing_waits [] e = refl
  nothing_waits ([] ∷ qs) e = nothing_waits qs e
  nothing_waits ((x ∷ q) ∷ qs) e = absurd (let z : ◌≡◌ {A = ℕ} 0 1 = cc in omega arith)

  -- Where there is no lowest head, taking it changes nothing.
  pub nothing_taken : (qs : List (List A)) → lowest_head qs ≡ none → without_lowest_head qs ≡ qs
  unfolding lowest_head without_lowest_head
  nothing_taken [] e = refl
  nothing_taken ([] ∷ qs) e = ap (λ (l : List (List A)). [] ∷ l) (nothing_taken qs e)
  nothing_taken ((x ∷ q) ∷ qs) e = absurd (let z : ◌≡◌ {A = ℕ} 0 1 = cc in omega arith)

  -- The packets with one queue more at the end are those before and those of that queue.
  pub flatten_last : (qs : List (List A)) (q : List A) → flatten (qs ++ (q ∷ [])) ≡ flatten qs ++ q
  unfolding flatten
  flatten_last [] q = append-nil q
  flatten_last (r ∷ qs) q = ap (λ (l : List A). r ++ l) (flatten_last qs q) ∙ sym (append_assoc r (flatten qs) q)

  -- A packet that waits after a turn waited before.
  pub turned_member : (qs : List (List A)) {x : A} → Memᴰ x (flatten (turned qs)) → Memᴰ x (flatten qs)
  unfolding turned flatten
  turned_member [] m = m
  turned_member (q ∷ qs) {x} m =
      ⊎_elim (λ n. Memᴰ.append_right q n) (λ n. Memᴰ.append_left (flatten qs) n)
      (Memᴰ.append_cases (flatten qs) (rw flatten_last at m))

  -- A turn leaves the number of packets.
  pub turned_length : (qs : List (List A)) → length (flatten (turned qs)) ≡ length (flatten qs)
  unfolding turned flatten
  turned_length [] = refl
  turned_length (q ∷ qs) = simp (flatten_last, length-append) (omega arith)

  -- A turn leaves the number of queues.
  pub turned_count : (qs : List (List A)) → length (turned qs) ≡ length qs
  unfolding turned
  turned_count [] = refl
  turned_count (q ∷ qs) = simp length-append (omega arith)

  -- Empty queues have no packet.
  pub empty_flatten : (n : ℕ) → flatten {A = A} (replicate n []) ≡ []
  unfolding flatten
  empty_flatten zero = refl
  empty_flatten (suc n) = empty_flatten n

  -- A test by tag: it holds of the packets of each queue at its tag, the tags counted from k.
  unfoldable pub tagged : (ℕ → A → Bool) → ℕ → List (List A) → Bool
  tagged test k [] = true
  tagged test k (q ∷ qs) = every (test k) q && tagged test (suc k) qs

  module _ (test : ℕ → A → Bool) where
    -- If the first queue passes a test at its tag and the others at theirs, all do.
    tagged_cons : (k : ℕ) (q : List A) (qs : List (List A)) → every (test k) q ≡ true → tagged test (suc k) qs ≡ true
        → tagged test k (q ∷ qs) ≡ true
    unfolding tagged
    tagged_cons k q qs e f = (and-eq-true_iff (every (test k) q) (tagged test (suc k) qs)).1 (e, f)

    -- If all queues pass a test by tag, the first does at its tag.
    tagged_head : (k : ℕ) (q : List A) (qs : List (List A)) → tagged test k (q ∷ qs) ≡ true → every (test k) q ≡ true
    unfolding tagged
    tagged_head k q qs e = ((and-eq-true_iff (every (test k) q) (tagged test (suc k) qs)).0 e).0

    -- If all queues pass a test by tag, those after the first do at theirs.
    tagged_tail : (k : ℕ) (q : List A) (qs : List (List A)) → tagged test k (q ∷ qs) ≡ true → tagged test (suc k) qs ≡ true
    unfolding tagged
    tagged_tail k q qs e = ((and-eq-true_iff (every (test k) q) (tagged test (suc k) qs)).0 e).1

    -- A test by tag still holds once a packet that passes it has joined its queue.
    pub tagged_join : (t k : ℕ) (p : A) (qs : List (List A)) → tagged test k qs ≡ true → test (k + t) p ≡ true
        → tagged test k (join_tail t p qs) ≡ true
    unfolding join_tail
    tagged_join t k p [] e h = e
    tagged_join zero k p (q ∷ qs) e h =
        let last : every (test k) (p ∷ []) ≡ true =
        every_all (test k) (p ∷ []) (λ a m. rw (Memᴰ.eq_of_singleton m) (rw native.Mathlib.Nat.add-zero at h)) in
        tagged_cons k (q ++ (p ∷ [])) qs (every_append (test k) q (p ∷ []) (tagged_head k q qs e) last) (tagged_tail k q qs e)
    tagged_join (suc t) k p (q ∷ qs) e h =
        let s : k + suc t ≡ suc k + t = omega arith in
        tagged_cons k q (join_tail t p qs) (tagged_head k q qs e) (tagged_join t (suc k) p qs (tagged_tail k q qs e) (rw s at h))

    -- A test by tag still holds once the lowest head is taken.
    pub tagged_without : (k : ℕ) (qs : List (List A)) → tagged test k qs ≡ true → tagged test k (without_lowest_head qs) ≡ true
    unfolding without_lowest_head
    tagged_without k [] e = e
    tagged_without k ([] ∷ qs) e =
        tagged_cons k [] (without_lowest_head qs) (tagged_head k [] qs e) (tagged_without (suc k) qs (tagged_tail k [] qs e))
    tagged_without k ((p ∷ q) ∷ qs) e =
        tagged_cons k q qs (every_all (test k) q (λ a m. every_at (test k) (p ∷ q) (tagged_head k (p ∷ q) qs e) (Memᴰ.tail m)))
        (tagged_tail k (p ∷ q) qs e)

    -- A test by tag still holds with an empty queue after the last.
    pub tagged_last : (k : ℕ) (qs : List (List A)) → tagged test k qs ≡ true → tagged test k (qs ++ ([] ∷ [])) ≡ true
    unfolding tagged every
    tagged_last k [] e = refl
    tagged_last k (q ∷ qs) e = tagged_cons k q (qs ++ ([] ∷ [])) (tagged_head k q qs e) (tagged_last (suc k) qs (tagged_tail k q qs e))

    -- A test by tag holds of empty queues.
    pub tagged_empty : (k n : ℕ) → tagged test k (replicate n []) ≡ true
    unfolding tagged every
    tagged_empty k zero = refl
    tagged_empty k (suc n) = tagged_empty (suc k) n

  -- A test by tag that follows from another at tags d higher holds where that one does.
  pub tagged_weaken : (test test' : ℕ → A → Bool) (d k : ℕ) (qs : List (List A))
      → ((t : ℕ) (p : A) → Memᴰ p (flatten qs) → test (d + t) p ≡ true → test' t p ≡ true)
      → tagged test (d + k) qs ≡ true → tagged test' k qs ≡ true
  unfolding flatten tagged
  tagged_weaken test test' d k [] f e = refl
  tagged_weaken test test' d k (q ∷ qs) f e =
      let s : suc (d + k) ≡ d + suc k = omega arith in
      tagged_cons test' k q qs
      (every_all (test' k) q
      (λ p m. f k p (Memᴰ.append_left (flatten qs) m) (every_at (test (d + k)) q (tagged_head test (d + k) q qs e) m)))
      (tagged_weaken test test' d (suc k) qs (λ t p m. f t p (Memᴰ.append_right q m)) (rw s at (tagged_tail test (d + k) q qs e)))
