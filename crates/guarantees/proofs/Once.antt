-- Every accepted packet is exactly once among waiting, on the link and departed.
use Prim.Native.Nat.{ℕ, zero, suc, ◌+◌, ◌≤◌}
use mathlib.Core.Path.{◌≡◌, refl, sym, ◌∙◌, ap}
use mathlib.Core.Bool.{true, false, true≢false}
use mathlib.Core.List.{List, [], ◌∷◌, ◌++◌, flatten, map, map-append}
use mathlib.Core.Logic.{⊎_elim}
use lib.Dec.{leb, eqb}
use borrow.Author.Tests.{eq-eqb, ne_eqb}
use native.Mathlib.Decide.{ℕ_discrete, dec_le}
use native.Mathlib.Omega.{arith}
use Rattle.laws.specs.Tests.{within, within_facts, within_test, bool_cases}
use Rattle.laws.specs.Sums.{sum_of, sum_append}
use Rattle.laws.specs.SumLaws.{given, given_true, given_false, sum_one}
use Rattle.meaning.specs.Numbers.{Settings}
use Rattle.meaning.specs.declared.Connection.{Connection}
use Rattle.meaning.specs.declared.Packet.{Packet}
use Rattle.meaning.specs.Box.{Box, waiting, on_link}
use Rattle.meaning.specs.Queues.{empty_queues}
use Rattle.meaning.specs.Calls.{new_box, with_standing, after_offer}
use Rattle.meaning.specs.Step.{link_taken, queues_taken, link_sent, moved}
use Rattle.meaning.proofs.QueueLaws.{empty_flatten}
use Rattle.guarantees.specs.Runs.{Departure, times_among, count_from}
use Rattle.guarantees.proofs.Moves.{Move, refused, joins, accepts, idles, sends, departs, new_packet, leaving, accepting, joining}
use Rattle.guarantees.proofs.Effects.{accepted_put, Taking, nothing, takes, carrying, taking, stepped_same}
use Rattle.meaning.specs.declared.Link.{Link}

-- What f gives for these packets, by serial, connection and arrival.
unfoldable pub of_packets : (ℕ → ℕ → ℕ → ℕ) → List Packet → ℕ
of_packets f ps = sum_of (λ p. f p.serial p.connection p.arrival) ps

-- What f gives for these departures.
unfoldable pub of_departures : (ℕ → ℕ → ℕ → ℕ) → List Departure → ℕ
of_departures f gs = sum_of (λ g. f g.serial g.connection g.arrival) gs

-- However the packets are counted, those accepted are those that wait, the one on the link and those departed.
abbrev pub Once : Box → List Packet → List Departure → Type 0
Once box H G = (f : ℕ → ℕ → ℕ → ℕ) → of_packets f H ≡ of_packets f (waiting box) + of_packets f (on_link box.link) + of_departures f G

-- Serials count accepted packets from 1: each number up to the count is the serial of one of them, and no other number is.
abbrev pub Numbered : Box → List Packet → Type 0
Numbered box H = (n : ℕ) → times_among n H ≡ given (within 1 n box.accepted) 1

-- In a new box no packet is accepted, waits, is on the link or has departed.
pub once_new : (set : Settings) → Once (new_box set) [] []
unfolding new_box waiting empty_queues of_packets of_departures on_link sum_of
once_new set f = rw empty_flatten

-- A number that is not in the range fails its test.
within_out : (low x high : ℕ) → (low ≤ x → x ≤ high → ⊥) → within low x high ≡ false
within_out low x high h =
    ⊎_elim (λ (e : within low x high ≡ true). absurd (let w = within_facts low x high e in h w.0 w.1)) (λ e. e)
    (bool_cases (within low x high))

-- A new box has no serial.
pub numbered_new : (set : Settings) → Numbered (new_box set) []
unfolding new_box sum_of times_among
numbered_new set n = sym (given_false 1 (within_out 1 n 0 (λ a b. omega arith)))

-- A step: what is taken goes from those that wait to the link, and from there to the departed with its last unit.
module _ (box : Box) (f : ℕ → ℕ → ℕ → ℕ) where
  -- What is taken leaves those that wait for the link.
  taken_once : {l : Link} {W : List Packet} → Taking box l W →
      of_packets f (waiting box) + of_packets f (on_link box.link) ≡ of_packets f W + of_packets f (on_link l)
  unfolding of_packets on_link
  taken_once (nothing e w) = let a = ap on_link e in rw (a, w)
  taken_once (takes p W e put there others first) =
      let a : on_link box.link ≡ [] = ap on_link e in
      let s = put.sums (λ p. f p.serial p.connection p.arrival) in
      let o = sum_one (λ (p : Packet). f p.serial p.connection p.arrival) p in
      rw a (unfold sum_of in omega arith)
  taken_once (carrying p left e) = let a : on_link box.link ≡ p ∷ [] = ap on_link e in rw a

  -- A unit that is not the last leaves the packet on the link.
  sent_once : (p : Packet) (left : ℕ) → leb left 1 ≡ false
      → of_packets f (on_link (link_sent (Link.Carries p left))) ≡ of_packets f (on_link (Link.Carries p left))
  unfolding link_sent on_link
  sent_once p left e = rw e

  -- With the last unit the link is free.
  left_once : (p : Packet) (left : ℕ) → leb left 1 ≡ true → of_packets f (on_link (link_sent (Link.Carries p left))) ≡ 0
  unfolding link_sent on_link of_packets sum_of
  left_once p left e = rw e

-- A connection that joins moves no packet.
joined_once : (box : Box) (c : Connection) (G : List Departure) (f : ℕ → ℕ → ℕ → ℕ)
    → of_packets f (waiting box) + of_packets f (on_link box.link) + of_departures f G
    ≡ of_packets f (waiting (joining box c)) + of_packets f (on_link (joining box c).link) + of_departures f G
unfolding with_standing waiting
joined_once box c G f = refl

-- Every move keeps it.
pub once_moves : (box next : Box) (H H' : List Packet) (G G' : List Departure) → Once box H G → Move box H G next H' G' → Once next H' G'
once_moves box next H H' G G' o refused = o
once_moves box next H H' G G' o (joins c n e) = λ f. o f ∙ joined_once box c G f
once_moves box next H H' G G' o (accepts n units s) = λ f. accepted f (o f)
  where
    accepted : (f : ℕ → ℕ → ℕ → ℕ) → of_packets f H ≡ of_packets f (waiting box) + of_packets f (on_link box.link) + of_departures f G →
        of_packets f (H ++ (new_packet box n units ∷ [])) ≡
        of_packets f (waiting (accepting box n units)) +
        of_packets f (on_link (accepting box n units).link) + of_departures f G
    accepted f e =
        let p = new_packet box n units in
        let g : Packet → ℕ = λ p. f p.serial p.connection p.arrival in
        let l : of_packets f (on_link (accepting box n units).link) ≡ of_packets f (on_link box.link) =
        unfold after_offer in refl in
        let w : of_packets f (waiting (accepting box n units)) ≡ g p + of_packets f (waiting box) =
        unfold of_packets in (accepted_put box s.0 n units s.1).sums g in
        let a : of_packets f (H ++ (p ∷ [])) ≡ of_packets f H + of_packets f (p ∷ []) = unfold of_packets in sum_append g H (p ∷ []) in
        let b : of_packets f (p ∷ []) ≡ g p = unfold of_packets in sum_one g p in
        omega arith
once_moves box next H H' G G' o (idles go e) = λ f.
    let t = taken_once box f (taking box go.was_sound) in
    let s : of_packets f (waiting (moved box)) ≡ of_packets f (flatten (queues_taken box.link box.queues)) =
    unfold of_packets in (stepped_same box).sums (λ p. f p.serial p.connection p.arrival) in
    let l : (moved box).link ≡ link_taken box.link box.queues = unfold moved link_sent in rw e in
    let q = o f in
    let a = ap (λ (l : Link). of_packets f (on_link l)) l in
    omega arith
once_moves box next H H' G G' o (sends go p left e l) = λ f.
    let t = taken_once box f (taking box go.was_sound) in
    let s : of_packets f (waiting (moved box)) ≡ of_packets f (flatten (queues_taken box.link box.queues)) =
    unfold of_packets in (stepped_same box).sums (λ p. f p.serial p.connection p.arrival) in
    let b = sent_once box f p left l in
    let m : (moved box).link ≡ link_sent (Link.Carries p left) = unfold moved in rw e in
    let n = ap (λ (l : Link). of_packets f (on_link l)) e in
    let q = o f in
    let a = ap (λ (l : Link). of_packets f (on_link l)) m in
    omega arith
once_moves box next H H' G G' o (departs go p left e l) = λ f.
    let t = taken_once box f (taking box go.was_sound) in
    let s : of_packets f (waiting (moved box)) ≡ of_packets f (flatten (queues_taken box.link box.queues)) =
    unfold of_packets in (stepped_same box).sums (λ p. f p.serial p.connection p.arrival) in
    let b = left_once box f p left l in
    let m : (moved box).link ≡ link_sent (Link.Carries p left) = unfold moved in rw e in
    let n = ap (λ (l : Link). of_packets f (on_link l)) e in
    let u : of_packets f (on_link (Link.Carries p left)) ≡ f p.serial p.connection p.arrival =
    unfold of_packets on_link in sum_one (λ (p : Packet). f p.serial p.connection p.arrival) p in
    let v : of_departures f (G ++ (leaving box p ∷ [])) ≡ of_departures f G + f p.serial p.connection p.arrival =
    unfold of_departures in (sum_append (λ (g : Departure). f g.serial g.connection g.arrival) G (leaving box p ∷ []) ∙
    ap (λ n. sum_of (λ (g : Departure). f g.serial g.connection g.arrival) G + n)
    (sum_one (λ (g : Departure). f g.serial g.connection g.arrival) (leaving box p))) in
    let q = o f in
    let a = ap (λ (l : Link). of_packets f (on_link l)) m in
    omega arith

-- One more packet has the next serial.
numbered_accepts : (box : Box) (H : List Packet) (p : Packet) → p.serial ≡ suc box.accepted → Numbered box H → (n : ℕ) →
    times_among n (H ++ (p ∷ [])) ≡ given (within 1 n (suc box.accepted)) 1
unfolding times_among
numbered_accepts box H p e k n =
    let g : Packet → ℕ = λ p. given (eqb p.serial n) 1 in
    let a = sum_append g H (p ∷ []) in
    let b = sum_one g p in
    let c = k n in
    elim (ℕ_discrete p.serial n) [
      | yes h ↦ (let x = given_true 1 (eq-eqb p.serial n h) in
          let y = given_false 1 (within_out 1 n box.accepted (λ a b. omega arith)) in
          let z = given_true 1 (within_test 1 n (suc box.accepted) (omega arith) (omega arith)) in omega arith)
      | no h ↦ (let x = given_false 1 (ne_eqb p.serial n h) in
          let y : within 1 n (suc box.accepted) ≡ within 1 n box.accepted = other h in rw y (omega arith))
    ]
  where
    other : (p.serial ≡ n → ⊥) → within 1 n (suc box.accepted) ≡ within 1 n box.accepted
    other h = ⊎_elim inside outside (bool_cases (within 1 n box.accepted))
      where
        inside : within 1 n box.accepted ≡ true → within 1 n (suc box.accepted) ≡ within 1 n box.accepted
        inside t =
            let w = within_facts 1 n box.accepted t in
            let u = w.1 in
            within_test 1 n (suc box.accepted) w.0 (omega arith) ∙ sym t

        outside : within 1 n box.accepted ≡ false → within 1 n (suc box.accepted) ≡ within 1 n box.accepted
        outside t =
            within_out 1 n (suc box.accepted) (λ a b. elim (dec_le n box.accepted) [
              | yes l ↦ true≢false (sym (within_test 1 n box.accepted a l) ∙ t)
              | no l ↦ h (omega arith)
            ]) ∙ sym t

-- Every move keeps it.
pub numbered_moves : (box next : Box) (H H' : List Packet) (G G' : List Departure) → Numbered box H → Move box H G next H' G'
    → Numbered next H'
numbered_moves box next H H' G G' o refused = o
numbered_moves box next H H' G G' o (joins c n e) = unfold with_standing in o
numbered_moves box next H H' G G' o (accepts n units s) = unfold after_offer in numbered_accepts box H (new_packet box n units) refl o
numbered_moves box next H H' G G' o (idles go e) = unfold moved in o
numbered_moves box next H H' G G' o (sends go p left e l) = unfold moved in o
numbered_moves box next H H' G G' o (departs go p left e l) = unfold moved in o

-- Serials count accepted packets from 1, in the order of acceptance.
abbrev pub Counted : Box → List Packet → Type 0
Counted box H = map (λ p. p.serial) H ≡ count_from 1 box.accepted

-- In a new box no serial is given.
pub counted_new : (set : Settings) → Counted (new_box set) []
unfolding new_box count_from
counted_new set = refl

-- One more number at the end.
count_last : (k n m : ℕ) → m ≡ k + n → count_from k n ++ (m ∷ []) ≡ count_from k (suc n)
unfolding count_from
count_last k zero m e = let f : m ≡ k = omega arith in rw f
count_last k (suc n) m e = ap (λ (l : List ℕ). k ∷ l) (count_last (suc k) n m (omega arith))

-- Every move keeps it.
pub counted_moves : (box next : Box) (H H' : List Packet) (G G' : List Departure) → Counted box H → Move box H G next H' G'
    → Counted next H'
counted_moves box next H H' G G' c refused = c
counted_moves box next H H' G G' c (joins d n e) = unfold with_standing in c
counted_moves box next H H' G G' c (accepts n units s) =
    unfold after_offer in
    (map-append (λ (p : Packet). p.serial) H (new_packet box n units ∷ []) ∙
    ap (λ (l : List ℕ). l ++ (suc box.accepted ∷ [])) c ∙ count_last 1 box.accepted (suc box.accepted) (omega arith))
counted_moves box next H H' G G' c (idles go e) = unfold moved in c
counted_moves box next H H' G G' c (sends go p left e l) = unfold moved in c
counted_moves box next H H' G G' c (departs go p left e l) = unfold moved in c
