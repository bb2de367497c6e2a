-- Departures of one connection come in the order of acceptance.
use Prim.Native.Nat.{ℕ, ◌≤◌, ◌<◌}
use mathlib.Core.Path.{◌≡◌, refl, sym, ◌∙◌, ap}
use mathlib.Core.Bool.{Bool, true, not, ◌||◌, and-eq-true_iff}
use mathlib.Core.List.Memᴰ
use mathlib.Core.List.{List, [], ◌∷◌, ◌++◌, flatten, Memᴰ}
use mathlib.Core.Logic.{inl, inr, ⊎_elim}
use lib.Dec.{leb, ltb, eqb}
use borrow.Author.Tests.{lt-ltb, ne_eqb}
use native.Mathlib.Decide.{dec_lt, ℕ_discrete}
use native.Mathlib.Omega.{arith}
use Rattle.laws.specs.Tests.{every, every_at, every_all, or_left, or_right}
use Rattle.meaning.specs.Numbers.{Settings, factor}
use Rattle.meaning.specs.Queues.{rank, empty_queues}
use Rattle.meaning.specs.declared.Packet.{Packet}
use Rattle.meaning.specs.Box.{Box, connection, waiting, rank_in}
use Rattle.meaning.specs.Calls.{new_box, with_standing, after_offer}
use Rattle.meaning.specs.Step.{link_taken, queues_taken, link_sent, moved}
use Rattle.guarantees.specs.Runs.{Departure, in_order, InBox}
use Rattle.guarantees.proofs.Saying.{StepGoes}
use Rattle.guarantees.proofs.Choosing.{Before}
use Rattle.guarantees.proofs.Limits.{earlier_interval}
use Rattle.guarantees.proofs.Sending.{sent_is}
use Rattle.guarantees.proofs.Moves.{Move, refused, joins, accepts, idles, sends, departs, new_packet, leaving, accepting, AcceptSays}
use Rattle.guarantees.proofs.Effects.{accepted_put, Taking, nothing, takes, carrying, taking, stepped_same, taken_in_box}
use Rattle.guarantees.proofs.Effects.{in_box_before}
use Rattle.guarantees.proofs.Known.{Known}
use Rattle.guarantees.proofs.OnTime.{in_box_known}
use Rattle.meaning.specs.declared.Link.{Link}

-- What is kept of the order: departures so far, then the packet on the link, then those that wait.
pub record Ordered (box : Box) (G : List Departure) : Type 0 where
  pub so_far : in_order G ≡ true
  pub counted : (g : Departure) → Memᴰ g G → g.serial ≤ box.accepted
  pub gone_first : (g : Departure) → Memᴰ g G → (x : Packet) → InBox box x → g.connection ≡ x.connection → g.serial < x.serial
  pub link_first : (p : Packet) (left : ℕ) → box.link ≡ Link.Carries p left →
      (x : Packet) → Memᴰ x (waiting box) → p.connection ≡ x.connection → p.serial < x.serial

-- Of two packets of one connection, the one that goes before was accepted before.
before_accepted : (box : Box) (H : List Packet) → Known box H → (p x : Packet) → Memᴰ p H → Memᴰ x H →
    p.connection ≡ x.connection → Before box p x → p.serial < x.serial
unfolding rank_in rank
before_accepted box H k p x m n c (inr b) = b.1
before_accepted box H k p x m n c (inl b) =
    let f = ap (λ j. factor box.settings (connection box j).class) c in
    let l = earlier_interval box.settings.interval k.settings_ok.interval_least p.arrival x.arrival (omega arith) in
    elim (dec_lt p.serial x.serial) [ yes h ↦ h | no h ↦ absurd (let a = k.arrivals_rise x p n m (omega arith) in omega arith) ]

-- One more departure comes in order if its connection's earlier ones have lower serials.
in_order_last : (G : List Departure) (d : Departure) → in_order G ≡ true →
    ((g : Departure) → Memᴰ g G → g.connection ≡ d.connection → g.serial < d.serial) → in_order (G ++ (d ∷ [])) ≡ true
unfolding in_order every
in_order_last [] d e h = refl
in_order_last (g ∷ G) d e h =
    let later : Departure → Bool = λ h. not (eqb g.connection h.connection) || ltb g.serial h.serial in
    let p = (and-eq-true_iff (every later G) (in_order G)).0 e in
    (and-eq-true_iff (every later (G ++ (d ∷ []))) (in_order (G ++ (d ∷ [])))).1 (
      every_all later (G ++ (d ∷ [])) (λ x m. ⊎_elim (λ (n : Memᴰ x G). every_at later G p.0 n)
          (λ (n : Memᴰ x (d ∷ [])). rw (Memᴰ.eq_of_singleton n) last) (Memᴰ.append_cases G m)),
      in_order_last G d p.1 (λ x m. h x (Memᴰ.tail m)),
    )
  where
    last : not (eqb g.connection d.connection) || ltb g.serial d.serial ≡ true
    last =
        elim (ℕ_discrete g.connection d.connection) [
          | yes c ↦ or_right (not (eqb g.connection d.connection)) (ltb g.serial d.serial)
              (lt-ltb _ _ (h g (Memᴰ.head refl) c))
          | no c ↦ or_left (not (eqb g.connection d.connection)) (ltb g.serial d.serial) (ap not (ne_eqb _ _ c))
        ]

-- In a new box nothing is out of order.
pub ordered_new : (set : Settings) → Ordered (new_box set) []
unfolding new_box waiting empty_queues in_order
ordered_new set =
    record {
      so_far = refl;
      counted = λ g m. absurd (Memᴰ.not-nil m);
      gone_first = λ g m. absurd (Memᴰ.not-nil m);
      link_first = λ p left l. absurd (let z : ◌≡◌ {A = ℕ} 0 1 = cc in omega arith);
    }

-- An accepted packet comes after all of its connection.
ordered_accepts : (box : Box) (H : List Packet) (G : List Departure) (n units : ℕ) → AcceptSays box n units →
    Known box H → Ordered box G → Ordered (accepting box n units) G
ordered_accepts box H G n units s k o =
    record {
      so_far = o.so_far;
      counted = λ g m. unfold after_offer in (let c = o.counted g m in omega arith);
      gone_first = gone;
      link_first = λ p left l x m c. ⊎_elim
          (λ (e : x ≡ new_packet box n units). let f = (k.packets_ok p (k.link_known p left (same p left l)).accepted).serial_most in
          let a = ap (λ (p : Packet). p.serial) e in omega arith)
          (λ (h : Memᴰ x (waiting box)). o.link_first p left (same p left l) x h c)
          ((accepted_put box s.0 n units s.1).parts x m);
    }
  where
    same : (p : Packet) (left : ℕ) → (accepting box n units).link ≡ Link.Carries p left → box.link ≡ Link.Carries p left
    same p left l = unfold after_offer in l

    gone : (g : Departure) → Memᴰ g G → (x : Packet) → InBox (accepting box n units) x → g.connection ≡ x.connection
        → g.serial < x.serial
    gone g m x (inl w) c =
        ⊎_elim (λ (e : x ≡ new_packet box n units). let f = o.counted g m in let a = ap (λ (p : Packet). p.serial) e in omega arith)
        (λ (h : Memᴰ x (waiting box)). o.gone_first g m x (inl h) c) ((accepted_put box s.0 n units s.1).parts x w)
    gone g m x (inr l) c = o.gone_first g m x (inr (l.0, same x l.0 l.1)) c

-- The packet that a step sends goes before all of its connection that wait then.
sends_first : (box : Box) (H : List Packet) (G : List Departure) → Known box H → Ordered box G → {l : Link} {W : List Packet}
    → Taking box l W →
    (p : Packet) (left : ℕ) → l ≡ Link.Carries p left → (x : Packet) → Memᴰ x W → p.connection ≡ x.connection → p.serial < x.serial
sends_first box H G k o (nothing e w) p left h x m c = absurd (Memᴰ.not-nil m)
sends_first box H G k o (takes y W e put there others first) p left h x m c =
    let z : p ≡ y = cc in
    before_accepted box H k p x (rw z (k.waiting_known y there)) (k.waiting_known x (others x m)) c (rw z (first x m))
sends_first box H G k o (carrying y l e) p left h x m c = let z : p ≡ y = cc in o.link_first p l (rw z e) x m c

-- A step that reports no departure keeps the order.
ordered_steps : (box : Box) (H : List Packet) (G : List Departure) → StepGoes box → Known box H → Ordered box G → Ordered (moved box) G
ordered_steps box H G go k o =
    record {
      so_far = o.so_far;
      counted = unfold moved in o.counted;
      gone_first = λ g m x i c. o.gone_first g m x (before i) c;
      link_first =
          λ p left l x m c. link (link_taken box.link box.queues) refl p left (unfold moved in l) x ((stepped_same box).parts x m) c;
    }
  where
    before : {x : Packet} → InBox (moved box) x → InBox box x
    before {x} (inl m) = in_box_before box (taking box go.was_sound) x (inl ((stepped_same box).parts x m))
    before {x} (inr l) = in_box_before box (taking box go.was_sound) x (inr (unfold moved in l))

    link : (l : Link) → link_taken box.link box.queues ≡ l → (p : Packet) (left : ℕ) → link_sent l ≡ Link.Carries p left → (x : Packet) →
        Memᴰ x (flatten (queues_taken box.link box.queues)) → p.connection ≡ x.connection → p.serial < x.serial
    link Link.Free e p left h x m c = absurd (let z : ◌≡◌ {A = ℕ} 0 1 = unfold link_sent in cc in omega arith)
    link (Link.Carries y n) e p left h x m c =
        let z = sent_is y n p left h in
        sends_first box H G k o (taking box go.was_sound) p n (rw z e) x m c

-- A step that reports a departure keeps the order.
ordered_departs : (box : Box) (H : List Packet) (G : List Departure) → StepGoes box → Known box H → Ordered box G →
    (p : Packet) (left : ℕ) → link_taken box.link box.queues ≡ Link.Carries p left → leb left 1 ≡ true
    → Ordered (moved box) (G ++ (leaving box p ∷ []))
ordered_departs box H G go k o p left e l =
    let s = ordered_steps box H G go k o in
    let i = taken_in_box box (taking box go.was_sound) p left e in
    record {
      so_far = in_order_last G (leaving box p) o.so_far (λ g m c. o.gone_first g m p i c);
      counted = λ g m. ⊎_elim (s.counted g) (λ (n : Memᴰ g (leaving box p ∷ [])). unfold moved in
          (let f = (k.packets_ok p (in_box_known box H k p i)).serial_most in let a = ap (λ (g : Departure). g.serial)
          (Memᴰ.eq_of_singleton n) in omega arith))
          (Memᴰ.append_cases G m);
      gone_first = λ g m x j c. ⊎_elim (λ (n : Memᴰ g G). s.gone_first g n x j c)
          (λ (n : Memᴰ g (leaving box p ∷ [])). let y = Memᴰ.eq_of_singleton n in
          let a = ap (λ (g : Departure). g.serial) y in let b = ap (λ (g : Departure). g.connection) y in
          let r = only x j (sym b ∙ c) in omega arith)
          (Memᴰ.append_cases G m);
      link_first = s.link_first;
    }
  where
    link_free : (moved box).link ≡ Link.Free
    link_free = unfold moved link_sent in rw (e, l)

    only : (x : Packet) → InBox (moved box) x → p.connection ≡ x.connection → p.serial < x.serial
    only x (inl m) c = sends_first box H G k o (taking box go.was_sound) p left e x ((stepped_same box).parts x m) c
    only x (inr j) c = absurd (let h = j.1 in let f = link_free in let z : ◌≡◌ {A = ℕ} 0 1 = cc in omega arith)

-- Every move keeps the order.
pub ordered_moves : (box next : Box) (H H' : List Packet) (G G' : List Departure) → Known box H → Ordered box G → Move box H G next H' G'
    → Ordered next G'
ordered_moves box next H H' G G' k o refused = o
ordered_moves box next H H' G G' k o (joins c n e) =
    record {
      so_far = o.so_far;
      counted = unfold with_standing in o.counted;
      gone_first = unfold with_standing waiting in o.gone_first;
      link_first = unfold with_standing waiting in o.link_first;
    }
ordered_moves box next H H' G G' k o (accepts n units s) = ordered_accepts box H G n units s k o
ordered_moves box next H H' G G' k o (idles go e) = ordered_steps box H G go k o
ordered_moves box next H H' G G' k o (sends go p left e l) = ordered_steps box H G go k o
ordered_moves box next H H' G G' k o (departs go p left e l) = ordered_departs box H G go k o p left e l
