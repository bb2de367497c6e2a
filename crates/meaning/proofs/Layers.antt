-- The queues of a list of ranked packets, and what joining, turning and taking do to them: what the tags_and_ranks theorem rests on.
use Prim.Native.Nat.{ℕ, zero, suc, ◌+◌, ◌≤◌, ◌<◌}
use mathlib.Core.Path.{◌≡◌, refl, sym, ap, ◌∙◌}
use mathlib.Core.Bool.{Bool, true, false, cond}
use mathlib.Core.List.Memᴰ
use mathlib.Core.List.{List, [], ◌∷◌, ◌++◌, Memᴰ}
use mathlib.Core.List.{tail-eq_of_cons-eq, head-eq_of_cons-eq, nil≢cons}
use mathlib.Core.List.{cons≢nil}
use mathlib.Core.Logic.{◌≢◌, ⊎_elim}
use mathlib.Core.Option.{Option, none, some}
use native.Mathlib.Nat.{not-suc-le-zero}
use native.Mathlib.Omega.{arith}
use lib.Dec.{leb, eqb}
use borrow.Author.Tests.{eq-eqb, ne_eqb, eqb-true, eqb-false, le-leb, lt-leb}
use Rattle.laws.specs.Tests.{bool_cases}
use Rattle.meaning.specs.Queues.{Ranked, join_tail}
use Rattle.meaning.specs.Queues.{turned, lowest_head, without_lowest_head, tag_zero_waits, earlier, lowest_rank, without_rank}
use Rattle.meaning.specs.Queues.{without_chosen, rank_waits, packet_of}

module _ {A : Type 0} where
  -- The packets of this rank, in the order of acceptance.
  unfoldable pub only : ℕ → List (Ranked A) → List A
  only r [] = []
  only r (p ∷ w) = cond (eqb p.rank_is r) (p.packet ∷ only r w) (only r w)

  -- The n queues from this rank on.
  unfoldable pub layers : List (Ranked A) → ℕ → ℕ → List (List A)
  layers w r zero = []
  layers w r (suc n) = only r w ∷ layers w (suc r) n

  -- Every packet that waits has one of the n ranks from r on.
  abbrev pub Between : List (Ranked A) → ℕ → ℕ → Type 0
  Between w r n = (p : Ranked A) → Memᴰ p w → (r ≤ p.rank_is) × (p.rank_is < r + n)

  -- Every packet that waits has at least the rank r.
  abbrev pub From : List (Ranked A) → ℕ → Type 0
  From w r = (p : Ranked A) → Memᴰ p w → r ≤ p.rank_is

  -- A packet that may stand before a list stands as well before the first part of it.
  cond_cons : (b : Bool) (x : A) (l m t : List A) → l ≡ m ++ t → cond b (x ∷ l) l ≡ cond b (x ∷ m) m ++ t
  cond_cons true x l m t e = ap (λ k. x ∷ k) e
  cond_cons false x l m t e = e

  -- A packet accepted last joins the queue of its rank, and no other.
  only_append : (r : ℕ) (w : List (Ranked A)) (p : Ranked A)
      → only r (w ++ (p ∷ [])) ≡ only r w ++ cond (eqb p.rank_is r) (p.packet ∷ []) []
  unfolding only
  only_append r [] p = refl
  only_append r (q ∷ w) p = cond_cons (eqb q.rank_is r) q.packet _ _ _ (only_append r w p)

  -- A packet of another rank leaves the queue of this rank.
  only_append_other : (r : ℕ) (w : List (Ranked A)) (p : Ranked A) → (p.rank_is ≡ r → ⊥) → only r (w ++ (p ∷ [])) ≡ only r w
  only_append_other r w p h = only_append r w p ∙ rw (ne_eqb p.rank_is r h) (append_empty (only r w))
    where
      append_empty : (l : List A) → l ++ [] ≡ l
      append_empty l = mathlib.Core.List.append-nil l

  -- A packet of a rank below r leaves the queues from r on.
  layers_append_below : (w : List (Ranked A)) (p : Ranked A) (r n : ℕ) → p.rank_is < r → layers (w ++ (p ∷ [])) r n ≡ layers w r n
  unfolding layers
  layers_append_below w p r zero h = refl
  layers_append_below w p r (suc n) h =
      let a = only_append_other r w p (λ e. omega arith) in
      let b = layers_append_below w p (suc r) n (omega arith) in
      cc

  -- A packet of rank r + k joins the tail of the queue tagged k among those from r on.
  pub layers_append : (w : List (Ranked A)) (p : Ranked A) (k r n : ℕ) → p.rank_is ≡ r + k → k < n
      → layers (w ++ (p ∷ [])) r n ≡ join_tail k p.packet (layers w r n)
  unfolding layers join_tail
  layers_append w p k r zero e h = absurd (not-suc-le-zero h)
  layers_append w p zero r (suc n) e h =
      let a : only r (w ++ (p ∷ [])) ≡ only r w ++ (p.packet ∷ []) =
      only_append r w p ∙ rw (eq-eqb p.rank_is r (omega arith)) refl in
      let b = layers_append_below w p (suc r) n (omega arith) in
      cc
  layers_append w p (suc k) r (suc n) e h =
      let a = only_append_other r w p (λ (q : p.rank_is ≡ r). omega arith) in
      let b = layers_append w p k (suc r) n (omega arith) (omega arith) in
      cc

  -- One queue more at the end is the queue of the next rank.
  layers_last : (w : List (Ranked A)) (r n : ℕ) → layers w r (suc n) ≡ layers w r n ++ (only (r + n) w ∷ [])
  unfolding layers
  layers_last w r zero = ap (λ k. only k w ∷ []) (omega arith)
  layers_last w r (suc n) =
      let e : suc r + n ≡ r + suc n = omega arith in
      let b = layers_last w (suc r) n in
      ap (λ (l : List (List A)). only r w ∷ l) (b ∙ ap (λ k. layers w (suc r) n ++ (only k w ∷ [])) e)

  -- A rank that no packet has is an empty queue.
  only_nothing : (r : ℕ) (w : List (Ranked A)) → ((p : Ranked A) → Memᴰ p w → p.rank_is ≡ r → ⊥) → only r w ≡ []
  unfolding only
  only_nothing r [] h = refl
  only_nothing r (p ∷ w) h =
      rw (ne_eqb p.rank_is r (h p (Memᴰ.head refl))) (only_nothing r w (λ q m. h q (Memᴰ.tail m)))

  -- Where the lowest queue is empty, the queues turned are those from the next rank on.
  pub layers_turned : (w : List (Ranked A)) (r n : ℕ) → Between w r (suc n) → only r w ≡ []
      → turned (layers w r (suc n)) ≡ layers w (suc r) (suc n)
  unfolding turned layers
  layers_turned w r n h e =
      let top : only (suc r + n) w ≡ [] = only_nothing (suc r + n) w (λ p m q. omega (arith, h p m)) in
      let b : layers w (suc r) (suc n) ≡ layers w (suc r) n ++ (only (suc r + n) w ∷ []) = layers_last w (suc r) n in
      cc

  -- Whether tag 0 has a waiting packet depends on the first queue alone.
  head_decides : (q : List A) (a b : List (List A)) → tag_zero_waits (q ∷ a) ≡ tag_zero_waits (q ∷ b)
  unfolding tag_zero_waits
  head_decides [] a b = refl
  head_decides (x ∷ q) a b = refl

  -- A rank waits exactly where its queue has a packet.
  pub queue_waits : (r n : ℕ) (w : List (Ranked A)) → tag_zero_waits (layers w r (suc n)) ≡ rank_waits r w
  unfolding tag_zero_waits layers rank_waits only
  queue_waits r n [] = refl
  queue_waits r n (p ∷ w) = go (eqb p.rank_is r) (queue_waits r n w)
    where
      go : (b : Bool) → tag_zero_waits (only r w ∷ layers w (suc r) n) ≡ rank_waits r w
          → tag_zero_waits (cond b (p.packet ∷ only r w) (only r w) ∷ layers (p ∷ w) (suc r) n) ≡ cond b true (rank_waits r w)
      go true e = refl
      go false e = head_decides (only r w) (layers (p ∷ w) (suc r) n) (layers w (suc r) n) ∙ e

  -- Where no packet of a rank waits, its queue is empty.
  pub rank_waits_not : (r : ℕ) (w : List (Ranked A)) → rank_waits r w ≡ false → only r w ≡ []
  unfolding rank_waits only
  rank_waits_not r [] e = refl
  rank_waits_not r (p ∷ w) e = go (eqb p.rank_is r) e (rank_waits_not r w)
    where
      go : (b : Bool) → cond b true (rank_waits r w) ≡ false → (rank_waits r w ≡ false → only r w ≡ [])
          → cond b (p.packet ∷ only r w) (only r w) ≡ []
      go true f h = absurd (mathlib.Core.Bool.true≢false f)
      go false f h = h f

  -- The packet that goes first has at least the lowest rank that can wait.
  lowest_from : (w : List (Ranked A)) (r : ℕ) → From w r → (q : Ranked A) → lowest_rank w ≡ some q → r ≤ q.rank_is
  unfolding lowest_rank earlier
  lowest_from [] r h q e = absurd (never e)
    where
      never : ◌≡◌ {A = Option (Ranked A)} none (some q) → ⊥
      never x = let z : ◌≡◌ {A = ℕ} 0 1 = cc in omega arith
  lowest_from (p ∷ w) r h q e = go (lowest_rank w) (lowest_from w r (λ x m. h x (Memᴰ.tail m))) e
    where
      own : r ≤ p.rank_is
      own = h p (Memᴰ.head refl)

      of_two : (b : Bool) (s : Ranked A) → r ≤ s.rank_is → cond b (some p) (some s) ≡ some q → r ≤ q.rank_is
      of_two true s k f = let z : p ≡ q = cc in rw (← z) own
      of_two false s k f = let z : s ≡ q = cc in rw (← z) k

      go : (o : Option (Ranked A)) → ((s : Ranked A) → o ≡ some s → r ≤ s.rank_is) → earlier p o ≡ some q → r ≤ q.rank_is
      go none k f = let z : p ≡ q = cc in rw (← z) own
      go (some s) k f = of_two (leb p.rank_is s.rank_is) s (k s refl) f

  -- The packet that goes first has the rank r and is x.
  record Chosen (w : List (Ranked A)) (r : ℕ) (x : A) : Type 0 where
    which : Ranked A
    lowest : lowest_rank w ≡ some which
    rank_is_lem : which.rank_is ≡ r
    packet_is : which.packet ≡ x

  -- Where rank r is the lowest that can wait and its queue begins with x, x goes first.
  chosen_first : (w : List (Ranked A)) (r : ℕ) (x : A) (q : List A) → From w r → only r w ≡ x ∷ q → Chosen w r x
  unfolding only lowest_rank earlier
  chosen_first [] r x q h e = absurd (nil≢cons e)
  chosen_first (p ∷ w) r x q h e =
      ⊎_elim (λ (t : eqb p.rank_is r ≡ true). here (eqb-true p.rank_is r t) (rw t at e))
      (λ (f : eqb p.rank_is r ≡ false). later (eqb-false p.rank_is r f)
      (chosen_first w r x q (λ y m. h y (Memᴰ.tail m)) (rw f at e)))
      (bool_cases (eqb p.rank_is r))
    where
      own : r ≤ p.rank_is
      own = h p (Memᴰ.head refl)

      stays : (o : Option (Ranked A)) → lowest_rank w ≡ o → p.rank_is ≡ r → earlier p o ≡ some p
      stays none f k = refl
      stays (some s) f k =
          let l : r ≤ s.rank_is = lowest_from w r (λ y m. h y (Memᴰ.tail m)) s f in
          rw (le-leb p.rank_is s.rank_is (omega arith)) refl

      here : p.rank_is ≡ r → p.packet ∷ only r w ≡ x ∷ q → Chosen (p ∷ w) r x
      here k f = record { which = p; lowest = stays (lowest_rank w) refl k; rank_is_lem = k; packet_is = head-eq_of_cons-eq f }

      later : (p.rank_is ≡ r → ⊥) → Chosen w r x → Chosen (p ∷ w) r x
      later k c =
          let s = c.which in
          let i : s.rank_is ≡ r = c.rank_is_lem in
          let n : p.rank_is ≢ r = k in
          let l : s.rank_is < p.rank_is = omega (arith, own) in
          record {
            which = s;
            lowest = rw (c.lowest, lt-leb p.rank_is s.rank_is l) refl;
            rank_is_lem = i;
            packet_is = c.packet_is;
          }

  -- If a list is empty with or without a packet before it, the list itself is empty.
  skip_first : (b : Bool) (x : A) (l : List A) → cond b (x ∷ l) l ≡ [] → l ≡ []
  skip_first true x l e = absurd (cons≢nil e)
  skip_first false x l e = e

  -- The queue of a rank at which a packet waits is not empty.
  only_member : (r : ℕ) (w : List (Ranked A)) {p : Ranked A} → Memᴰ p w → p.rank_is ≡ r → only r w ≡ [] → ⊥
  unfolding only
  only_member r [] m k e = Memᴰ.not-nil m
  only_member r (s ∷ w) {p} m k e =
      ⊎_elim (λ (i : p ≡ s). cons≢nil (rw (eq-eqb s.rank_is r (ap (λ z. z.rank_is) (sym i) ∙ k)) at e))
      (λ (n : Memᴰ p w). only_member r w n k (skip_first (eqb s.rank_is r) s.packet (only r w) e))
      (Memᴰ.cases_cons m)

  -- Where the lowest queue is empty, every packet that waits has one of the ranks above.
  pub above_empty : (w : List (Ranked A)) (r n : ℕ) → Between w r (suc n) → only r w ≡ [] → Between w (suc r) n
  above_empty w r n h e p m =
      let b = h p m in
      let ne : p.rank_is ≢ r = λ k. only_member r w m k e in
      omega arith

  -- With tags and with ranks the same packet is chosen.
  pub same_choice : (n : ℕ) (w : List (Ranked A)) (r : ℕ) → Between w r n → lowest_head (layers w r n) ≡ packet_of (lowest_rank w)
  unfolding layers lowest_head lowest_rank packet_of
  same_choice zero [] r h = refl
  same_choice zero (p ∷ w) r h = absurd (let b = h p (Memᴰ.head refl) in omega arith)
  same_choice (suc n) w r h = go (only r w) refl (same_choice n w (suc r))
    where
      go : (q : List A) → only r w ≡ q → (Between w (suc r) n → lowest_head (layers w (suc r) n) ≡ packet_of (lowest_rank w))
          → lowest_head (q ∷ layers w (suc r) n) ≡ packet_of (lowest_rank w)
      go [] e ih = ih (above_empty w r n h e)
      go (x ∷ q) e ih =
          let c = chosen_first w r x q (λ p m. (h p m).0) e in
          sym (ap packet_of c.lowest ∙ ap some c.packet_is)

  -- Taking the chosen packet.
  only_without_same : (r : ℕ) (w : List (Ranked A)) (x : A) (q : List A) → only r w ≡ x ∷ q → only r (without_rank r w) ≡ q
  unfolding only without_rank
  only_without_same r [] x q e = absurd (nil≢cons e)
  only_without_same r (p ∷ w) x q e =
      ⊎_elim (λ (t : eqb p.rank_is r ≡ true). rw t (tail-eq_of_cons-eq (rw t at e)))
      (λ (f : eqb p.rank_is r ≡ false). rw f (rw f (only_without_same r w x q (rw f at e))))
      (bool_cases (eqb p.rank_is r))

  -- Taking a packet of another rank leaves the queue of this rank.
  only_without_other : (r t : ℕ) (w : List (Ranked A)) → (r ≡ t → ⊥) → only r (without_rank t w) ≡ only r w
  unfolding only without_rank
  only_without_other r t [] h = refl
  only_without_other r t (p ∷ w) h =
      ⊎_elim (λ (e : eqb p.rank_is t ≡ true). rw (e, ne_eqb p.rank_is r (λ k. h (sym k ∙ eqb-true p.rank_is t e))) refl)
      (λ (f : eqb p.rank_is t ≡ false). rw (f, only_without_other r t w h) refl)
      (bool_cases (eqb p.rank_is t))

  -- Taking a packet of a rank below r leaves the queues from r on.
  layers_without : (w : List (Ranked A)) (t r n : ℕ) → t < r → layers (without_rank t w) r n ≡ layers w r n
  unfolding layers
  layers_without w t r zero h = refl
  layers_without w t r (suc n) h =
      let a = only_without_other r t w (λ (e : r ≡ t). omega arith) in
      let b = layers_without w t (suc r) n (omega arith) in
      cc

  -- A rank at which no packet waits stays empty once the chosen packet is taken.
  still_empty : (r : ℕ) (w : List (Ranked A)) → From w (suc r) → only r w ≡ [] → only r (without_chosen (lowest_rank w) w) ≡ []
  unfolding without_chosen
  still_empty r w h e = go (lowest_rank w) (lowest_from w (suc r) h)
    where
      go : (o : Option (Ranked A)) → ((q : Ranked A) → o ≡ some q → suc r ≤ q.rank_is) → only r (without_chosen o w) ≡ []
      go none k = e
      go (some q) k =
          let l : suc r ≤ q.rank_is = k q refl in
          only_without_other r q.rank_is w (λ (i : r ≡ q.rank_is). omega arith) ∙ e

  -- Taking a chosen packet of rank r takes the first accepted one of that rank.
  chosen_gone : (w : List (Ranked A)) (r : ℕ) (p : Ranked A) → p.rank_is ≡ r → without_chosen (some p) w ≡ without_rank r w
  unfolding without_chosen
  chosen_gone w r p k = ap (λ t. without_rank t w) k

  -- With tags and with ranks the same packets are left.
  pub same_rest : (n : ℕ) (w : List (Ranked A)) (r : ℕ) → Between w r n
      → without_lowest_head (layers w r n) ≡ layers (without_chosen (lowest_rank w) w) r n
  unfolding layers without_lowest_head
  same_rest zero w r h = refl
  same_rest (suc n) w r h = go (only r w) refl (same_rest n w (suc r))
    where
      go : (q : List A) → only r w ≡ q
          → (Between w (suc r) n → without_lowest_head (layers w (suc r) n) ≡ layers (without_chosen (lowest_rank w) w) (suc r) n)
          → without_lowest_head (q ∷ layers w (suc r) n) ≡ layers (without_chosen (lowest_rank w) w) r (suc n)
      go [] e ih =
          let b = above_empty w r n h e in
          let i = ih b in
          let z = still_empty r w (λ p m. (b p m).0) e in
          cc
      go (x ∷ q) e ih =
          let c = chosen_first w r x q (λ p m. (h p m).0) e in
          let o : without_chosen (lowest_rank w) w ≡ without_rank r w = rw c.lowest (chosen_gone w r c.which c.rank_is_lem) in
          let a = only_without_same r w x q e in
          let b = layers_without w r (suc r) n (omega arith) in
          let k : only r (without_rank r w) ∷ layers (without_rank r w) (suc r) n ≡ layers (without_chosen (lowest_rank w) w) r (suc n)
          = sym (ap (λ v. layers v r (suc n)) o) in
          let j : without_lowest_head ((x ∷ q) ∷ layers w (suc r) n) ≡ only r (without_rank r w) ∷ layers (without_rank r w) (suc r) n
          = cc in
          j ∙ k

  -- What waits once a packet of a rank is taken waited before.
  without_member : (t : ℕ) (w : List (Ranked A)) {p : Ranked A} → Memᴰ p (without_rank t w) → Memᴰ p w
  unfolding without_rank
  without_member t [] m = m
  without_member t (q ∷ w) {p} m = go (eqb q.rank_is t) (without_member t w) m
    where
      go : (b : Bool) → (Memᴰ p (without_rank t w) → Memᴰ p w) → Memᴰ p (cond b w (q ∷ without_rank t w)) → Memᴰ p (q ∷ w)
      go true ih k = Memᴰ.tail k
      go false ih k = ⊎_elim (λ e. Memᴰ.head e) (λ n. Memᴰ.tail (ih n)) (Memᴰ.cases_cons k)

  -- What waits once the chosen packet is taken waited before.
  pub chosen_member : (o : Option (Ranked A)) (w : List (Ranked A)) {p : Ranked A} → Memᴰ p (without_chosen o w) → Memᴰ p w
  unfolding without_chosen
  chosen_member none w m = m
  chosen_member (some q) w m = without_member q.rank_is w m
