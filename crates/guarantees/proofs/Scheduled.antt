-- The scheduling fact holds after every run, for every set of packets that with a packet has all that go before it.
use Prim.Native.Nat.{ℕ, suc, ◌<◌}
use mathlib.Core.Path.{◌≡◌, refl, subst}
use mathlib.Core.Bool.{Bool, true}
use mathlib.Core.List.Memᴰ
use mathlib.Core.List.{List, [], ◌∷◌, ◌++◌, Memᴰ}
use mathlib.Core.Logic.{inl, inr, ⊎_elim}
use native.Mathlib.Omega.{arith}
use Rattle.laws.specs.Sums.{sum_of}
use Rattle.laws.specs.Putting.{Same}
use Rattle.meaning.specs.Numbers.{Settings}
use Rattle.meaning.specs.declared.Packet.{Packet}
use Rattle.meaning.specs.Box.{Box, waiting, rank_in}
use Rattle.meaning.specs.Queues.{empty_queues}
use Rattle.meaning.specs.Calls.{new_box, with_standing, after_offer}
use Rattle.meaning.specs.Step.{link_sent, moved}
use Rattle.meaning.proofs.QueueLaws.{empty_flatten}
use Rattle.guarantees.specs.Runs.{Departure}
use Rattle.guarantees.proofs.Saying.{StepGoes}
use Rattle.guarantees.proofs.Choosing.{Before}
use Rattle.guarantees.proofs.Backlog.{waiting_work, link_work, Backlog, accept_keeps}
use Rattle.guarantees.proofs.Sending.{take_keeps, send_keeps, idle_keeps}
use Rattle.guarantees.proofs.Moves.{Move, refused, joins, accepts, idles, sends, departs, new_packet, Grows, move_grows, rank_stays}
use Rattle.guarantees.proofs.Moves.{accepting, AcceptSays}
use Rattle.guarantees.proofs.Effects.{accepted_put, Taking, nothing, takes, carrying, taking, stepped_same}
use Rattle.guarantees.proofs.Known.{Known}
use Rattle.meaning.specs.declared.Link.{Link}

-- With a packet, q has every accepted packet that goes before it.
abbrev pub Closed : Box → List Packet → (Packet → Bool) → Type 0
Closed box H q = (x y : Packet) → Memᴰ x H → Memᴰ y H → Before box x y → q y ≡ true → q x ≡ true

-- The scheduling fact, for every such q.
abbrev pub Scheduled : Box → List Packet → Type 0
Scheduled box H = (q : Packet → Bool) → Closed box H q → Backlog q box.counter (waiting box) box.link H

-- The order of the packets accepted so far does not change, so what is closed later was closed before.
closed_before : (box next : Box) (H H' : List Packet) (q : Packet → Bool) → Grows box next → Known box H →
    ((x : Packet) → Memᴰ x H → Memᴰ x H') → Closed next H' q → Closed box H q
closed_before box next H H' q g k more closed x y m n before =
    let a = rank_stays g x (k.packets_ok x m) in
    let b = rank_stays g y (k.packets_ok y n) in
    closed x y (more x m) (more y n)
    (⊎_elim (λ (l : rank_in box x < rank_in box y). inl (let z : rank_in next x < rank_in next y = omega arith in z))
    (λ (e : (rank_in box x ≡ rank_in box y) × (x.serial < y.serial)). inr
    (let f = e.0 in let z : rank_in next x ≡ rank_in next y = omega arith in z, e.1))
    before)

-- A new box has nothing to send.
pub scheduled_new : (set : Settings) → Scheduled (new_box set) []
unfolding new_box waiting empty_queues waiting_work link_work sum_of
scheduled_new set q closed = inl (rw empty_flatten)

-- A step keeps the fact.
scheduled_steps : (box : Box) (H : List Packet) → StepGoes box → Grows box (moved box) → Known box H → Scheduled box H
    → Scheduled (moved box) H
scheduled_steps box H go g k s q closed =
    unfold moved in
    step (taking box go.was_sound) (stepped_same box) (s q here)
  where
    here : Closed box H q
    here = closed_before box (moved box) H H q g k (λ x m. m) closed

    step : {l : Link} {W W' : List Packet} → Taking box l W → Same W W' → Backlog q box.counter (waiting box) box.link H →
        Backlog q (suc box.counter) W' (link_sent l) H
    step (nothing e w) same b = unfold link_sent in idle_keeps q (suc box.counter) _ H same
    step (takes p W e put there others first) same b =
        let c = k.packets_ok p (k.waiting_known p there) in
        send_keeps q box.counter W _ H p p.units c.units_least same
        (take_keeps q box.counter (waiting box) W H p put there others
        (λ x m h. here p x (k.waiting_known p there) (k.waiting_known x (others x m)) (first x m) h)
        (subst (λ (l : Link). Backlog q box.counter (waiting box) l H) e b))
    step (carrying p left e) same b = send_keeps q box.counter (waiting box) _ H p left (k.link_known p left e).some_left same
        (subst (λ (l : Link). Backlog q box.counter (waiting box) l H) e b)

-- An accepted packet keeps the fact.
scheduled_accepts : (box : Box) (H : List Packet) (n units : ℕ) → AcceptSays box n units →
    Grows box (accepting box n units) → Known box H → Scheduled box H →
    Scheduled (accepting box n units) (H ++ (new_packet box n units ∷ []))
unfolding after_offer
scheduled_accepts box H n units says g k s q closed =
    let before = s q (closed_before box _ H _ q g k (λ x m. Memᴰ.append_left (new_packet box n units ∷ []) m) closed) in
    accept_keeps q box.counter (waiting box) (waiting (accepting box n units))
    box.link H (new_packet box n units) (accepted_put box says.0 n units says.1) refl
    (λ x m. (k.packets_ok x (k.waiting_known x m)).units_least) k.link_known before

-- Every move keeps the fact.
pub scheduled_moves : (box next : Box) (H H' : List Packet) (G G' : List Departure) → Known box H → Scheduled box H →
    Move box H G next H' G' → Scheduled next H'
scheduled_moves box next H H' G G' k s refused = s
scheduled_moves box next H H' G G' k s (joins c n e) =
    λ q closed. unfold with_standing waiting in
    s q (closed_before box _ H H q (move_grows {H = H} {G = G} (joins c n e)) k (λ x m. m) closed)
scheduled_moves box next H H' G G' k s (accepts n units says) =
    scheduled_accepts box H n units says (move_grows {H = H} {G = G} (accepts n units says)) k s
scheduled_moves box next H H' G G' k s (idles go e) = scheduled_steps box H go (move_grows {H = H} {G = G} (idles go e)) k s
scheduled_moves box next H H' G G' k s (sends go p left e l) =
    scheduled_steps box H go (move_grows {H = H} {G = G} (sends go p left e l)) k s
scheduled_moves box next H H' G G' k s (departs go p left e l) =
    scheduled_steps box H go (move_grows {H = H} {G = G} (departs go p left e l)) k s
