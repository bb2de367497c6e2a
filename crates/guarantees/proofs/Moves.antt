-- Every call of a run is one of six moves on a box and its history; an invariant of the moves holds after every run.
use Prim.Native.Nat.{ℕ, suc, ◌-◌, ◌≤◌}
use mathlib.Core.Path.{◌≡◌, refl}
use mathlib.Core.Bool.{true, false}
use mathlib.Core.List.{List, [], ◌∷◌, ◌++◌, map, append-nil, append_assoc, map-append}
use lib.Dec.{leb}
use lib.ListN.{length, length-append, length-set, length-map, get_or-append}
use lib.Seq.{map-set_same}
use native.Mathlib.Omega.{arith}
use Rattle.meaning.specs.declared.Stepped.{Stepped}
use Rattle.meaning.specs.declared.Connection.{Connection}
use Rattle.meaning.specs.Envelope.{full}
use Rattle.meaning.specs.declared.Standing.{Standing}
use Rattle.meaning.specs.declared.Packet.{Packet}
use Rattle.meaning.specs.Box.{Box, connections, connection, no_connection, rank_in}
use Rattle.meaning.specs.Calls.{admission_answer, with_standing, after_admission, offer_answer, after_offer, charged_at}
use Rattle.meaning.specs.Step.{link_taken, step_answer, moved, after_step}
use Rattle.meaning.proofs.Facts.{PacketFacts}
use Rattle.guarantees.specs.Runs.{Call, admit, offer, step, reply, after, box_after, trace, offer_taken, packet_taken, accepted_in}
use Rattle.guarantees.specs.Runs.{Departure, step_left, packet_left, departed_in}
use Rattle.guarantees.proofs.Saying.{OfferSays, offer_says, StepGoes, StepSays, step_says}
use Rattle.std.proofs.Common.{Result, Ok, Err}
use Rattle.meaning.specs.declared.Refusal.{Refusal}
use Rattle.meaning.specs.declared.Link.{Link}

-- The packet that an accepted offer brings in.
abbrev pub new_packet : Box → ℕ → ℕ → Packet
new_packet box n units = record { serial = suc box.accepted; connection = n; units = units; arrival = box.counter }

-- The departure of this packet with this step.
abbrev pub leaving : Box → Packet → Departure
leaving box p = record { serial = p.serial; connection = p.connection; arrival = p.arrival; departure = suc box.counter }

-- The box once a packet of this connection and length is accepted.
abbrev pub accepting : Box → ℕ → ℕ → Box
accepting box n units = after_offer box n units (Ok (suc box.accepted))

-- What the answer of that offer says.
abbrev pub AcceptSays : Box → ℕ → ℕ → Type 0
AcceptSays box n units = OfferSays box n units (Ok (suc box.accepted))

-- The box once this connection is taken.
abbrev pub joining : Box → Connection → Box
joining box c = with_standing box (box.standing ++ (record { asked = c; allowance = full c } ∷ []))

-- What befalls a box, with H accepted and G departed before.
pub data Move (box : Box) (H : List Packet) (G : List Departure) : Box → List Packet → List Departure → Type 0 where
  refused : Move box H G box H G
  joins : (c : Connection) (n : ℕ) → admission_answer box c ≡ Ok n →
      Move box H G (joining box c) H G
  accepts : (n units : ℕ) → AcceptSays box n units →
      Move box H G (accepting box n units) (H ++ (new_packet box n units ∷ [])) G
  idles : StepGoes box → link_taken box.link box.queues ≡ Link.Free → Move box H G (moved box) H G
  sends : StepGoes box → (p : Packet) (left : ℕ) → link_taken box.link box.queues ≡ Link.Carries p left → leb left 1 ≡ false →
      Move box H G (moved box) H G
  departs : StepGoes box → (p : Packet) (left : ℕ) → link_taken box.link box.queues ≡ Link.Carries p left → leb left 1 ≡ true →
      Move box H G (moved box) H (G ++ (leaving box p ∷ []))

module _ (box : Box) (H : List Packet) (G : List Departure) where
  -- An admission joins or is refused.
  admission_moves : (c : Connection) (a : Result ℕ Refusal) → admission_answer box c ≡ a → Move box H G (after_admission box c a) (H ++ []) (G ++ [])
  unfolding after_admission
  admission_moves c (Ok n) e = rw (append-nil H, append-nil G) (joins c n e)
  admission_moves c (Err why) e = rw (append-nil H, append-nil G) refused

  -- An offer is accepted or refused.
  offer_moves : (n units : ℕ) (a : Result ℕ Refusal) → OfferSays box n units a →
      Move box H G (after_offer box n units a) (H ++ offer_taken box.counter n units a) (G ++ [])
  unfolding offer_taken
  offer_moves n units (Ok serial) s =
      rw (append-nil G, s.5) (accepts n units (s.0, s.1, s.2, s.3, s.4, refl))
  offer_moves n units (Err why) s = unfold after_offer in rw (append-nil H, append-nil G) refused

  -- A step idles, sends, reports a departure or is refused.
  step_moves : (a : Result Stepped Refusal) → StepSays box a → Move box H G (after_step box a) (H ++ []) (G ++ step_left a)
  unfolding after_step step_left
  step_moves (Ok Stepped.Idle) s = rw (append-nil H, append-nil G) (idles s.0 s.1)
  step_moves (Ok (Stepped.Sending serial left)) s = rw (append-nil H, append-nil G) (sends s.0 s.1 s.2 s.3 s.4)
  step_moves (Ok (Stepped.Departed serial connection arrival departure)) s =
      rw (append-nil H, s.5, s.6, s.7, s.8) (departs s.0 s.1 s.2 s.3 s.4)
  step_moves (Err why) s = rw (append-nil H, append-nil G) refused

  -- A call is a move.
  pub call_moves : (c : Call) → Move box H G (after box c) (H ++ packet_taken box.counter c (reply box c)) (G ++ packet_left (reply box c))
  unfolding after reply packet_taken packet_left
  call_moves (admit c) = admission_moves c (admission_answer box c) refl
  call_moves (offer n units) = offer_moves n units (offer_answer box n units) (offer_says box n units)
  call_moves step = step_moves (step_answer box) (step_says box)

-- What every move keeps holds after every run.
pub run_keeps : (P : Box → List Packet → List Departure → Type 0) →
    ((box next : Box) (H H' : List Packet) (G G' : List Departure) → P box H G → Move box H G next H' G' → P next H' G') →
    (box : Box) (H : List Packet) (G : List Departure) → P box H G → (calls : List Call) →
    P (box_after box calls) (H ++ accepted_in (trace box calls)) (G ++ departed_in (trace box calls))
unfolding box_after trace accepted_in departed_in
run_keeps P keeps box H G p [] = rw (append-nil H, append-nil G) p
run_keeps P keeps box H G p (c ∷ calls) =
    let H₁ = packet_taken box.counter c (reply box c) in
    let G₁ = packet_left (reply box c) in
    let r = run_keeps P keeps (after box c) (H ++ H₁) (G ++ G₁) (keeps _ _ _ _ _ _ p (call_moves box H G c)) calls in
    rw (← append_assoc H H₁ (accepted_in (trace (after box c) calls)), ← append_assoc G G₁ (departed_in (trace (after box c) calls))) r

-- What no move takes back: the settings, the connections that stand, and that the counts rise.
pub record Grows (box next : Box) : Type 0 where
  pub settings_same : next.settings ≡ box.settings
  pub connection_same : (n : ℕ) → 1 ≤ n → n ≤ length box.standing → connection next n ≡ connection box n
  pub standing_more : length box.standing ≤ length next.standing
  pub accepted_more : box.accepted ≤ next.accepted
  pub counter_more : box.counter ≤ next.counter

-- The connections after a charge are those before.
pub charged_same : (box : Box) (n : ℕ) → map (λ (s : Standing). s.asked) (charged_at box n) ≡ connections box
unfolding charged_at connections connection no_connection
charged_same box n =
    map-set_same (λ s. s.asked) box.standing (n - 1) _ (record { asked = no_connection; allowance = full no_connection })
    (lib.ListN.get_or-map (λ (s : Standing). s.asked) box.standing (n - 1)
    (record { asked = no_connection; allowance = full no_connection }))

-- A step takes nothing of this back.
step_grows : (box : Box) → Grows box (moved box)
unfolding moved connection connections
step_grows box =
    record {
      settings_same = refl;
      connection_same = λ n h l. refl;
      standing_more = omega arith;
      accepted_more = omega arith;
      counter_more = omega arith;
    }

-- Every move makes the box grow in this way.
pub move_grows : {box next : Box} {H H' : List Packet} {G G' : List Departure} → Move box H G next H' G' → Grows box next
unfolding with_standing after_offer moved
move_grows refused =
    record {
      settings_same = refl;
      connection_same = λ n h l. refl;
      standing_more = omega arith;
      accepted_more = omega arith;
      counter_more = omega arith;
    }
move_grows {box} (joins c n e) =
    record {
      settings_same = refl;
      connection_same = λ n h l. unfold connection connections in
          rw map-append (get_or-append (map (λ (s : Standing). s.asked) box.standing) (c ∷ []) no_connection (n - 1)
          (rw length-map (omega arith)));
      standing_more = rw length-append (omega arith);
      accepted_more = omega arith;
      counter_more = omega arith;
    }
move_grows {box} (accepts n units s) =
    record {
      settings_same = refl;
      connection_same = λ m h l. unfold connection connections in
          (let e : map (λ (s : Standing). s.asked) (charged_at box n) ≡
          map (λ (s : Standing). s.asked) box.standing = charged_same box n in rw e);
      standing_more = unfold charged_at in rw length-set (omega arith);
      accepted_more = omega arith;
      counter_more = omega arith;
    }
move_grows {box} (idles g e) = step_grows box
move_grows {box} (sends g p left e l) = step_grows box
move_grows {box} (departs g p left e l) = step_grows box

-- What was known of a packet stays known.
pub facts_grow : {box next : Box} → Grows box next → (p : Packet) → PacketFacts box p → PacketFacts next p
facts_grow g p f =
    let s = g.standing_more in
    let a = g.accepted_more in
    let c = g.counter_more in
    record {
      serial_least = f.serial_least;
      serial_most = (let m = f.serial_most in omega arith);
      connection_least = f.connection_least;
      connection_most = (let m = f.connection_most in omega arith);
      units_least = f.units_least;
      units_most = (rw (g.connection_same p.connection f.connection_least f.connection_most) f.units_most);
      arrival_most = (let m = f.arrival_most in omega arith);
    }

-- A packet's rank does not change.
pub rank_stays : {box next : Box} → Grows box next → (p : Packet) → PacketFacts box p → rank_in next p ≡ rank_in box p
unfolding rank_in
rank_stays g p f = rw (g.connection_same p.connection f.connection_least f.connection_most, g.settings_same)
