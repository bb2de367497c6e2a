-- Isolation: what a connection is told depends on the admissions and on its own offers alone.
use Prim.Native.Nat.{ℕ, suc, ◌-◌, ◌≤◌}
use mathlib.Core.Path.{◌≡◌, refl, sym, ◌∙◌, ap, subst}
use mathlib.Core.Bool.{true, false, cond, not, and-eq-true_iff, true≢false}
use mathlib.Core.List.{List, [], ◌∷◌, ◌++◌, map, map-append}
use lib.Dec.{leb, eqb}
use lib.ListN.{length, get_or, length-map}
use borrow.Author.Tests.{not-true, eq-eqb, ne_eqb}
use native.Mathlib.Decide.{ℕ_discrete}
use Rattle.laws.specs.Tests.{within, within_facts, every}
use Rattle.laws.specs.Places.{get_d_last}
use Rattle.meaning.specs.declared.Refusal.{Refusal}
use Rattle.meaning.specs.declared.Stepped.{Stepped}
use Rattle.meaning.specs.declared.Connection.{Connection}
use Rattle.meaning.specs.Answers.{refusal_number, refusal, offered}
use Rattle.meaning.specs.Numbers.{Settings, settings_allowed, connection_allowed, most_connections}
use Rattle.meaning.specs.declared.Allowance.{Allowance}
use Rattle.meaning.specs.Envelope.{full, conforms, charged}
use Rattle.meaning.specs.Admission.{rate_holds, finite_search}
use Rattle.meaning.specs.declared.Standing.{Standing}
use Rattle.meaning.specs.Box.{Box, connections, connection, no_connection, stands, sound}
use Rattle.meaning.specs.Calls.{new_box, with_newcomer, search_answer, admission_answer, with_standing, after_admission, allowance, offer_answer}
use Rattle.meaning.specs.Calls.{after_offer}
use Rattle.meaning.specs.Step.{step_answer, moved, after_step}
use Rattle.meaning.proofs.KeepsSound.{new_box_sound}
use Rattle.guarantees.specs.Runs.{Call, admit, offer, step, to_offer, reply, after, Event, trace}
use Rattle.guarantees.specs.Isolation.{Ask, admission, offering, ask_of, asked, serial_aside, answer_to, told, is_ten, never_ten}
use Rattle.guarantees.proofs.Saying.{offer_unsound, no_connection_lem, wrong_length, not_fitting, store_full, OfferSays, offer_says}
use Rattle.guarantees.proofs.Moves.{move_grows, call_moves, accepting}
use Rattle.guarantees.proofs.Ahead.{connections_length}
use Rattle.guarantees.proofs.Known.{offer_connections}
use Rattle.guarantees.proofs.Records.{charged_mine, charged_other}
use Rattle.guarantees.proofs.Always.{sound_after}
use Rattle.std.proofs.Common.{Result, Ok, Err}

-- All of a box that the answers to one connection depend on: the contracts that stand, and its own record.
pub record View : Type 0 where
  pub contracts : List Connection
  pub meter : Allowance

-- The view that connection n has of a box.
unfoldable pub view : ℕ → Box → View
view n box = record { contracts = connections box; meter = allowance box n }

-- The answer to an admission, by the view.
unfoldable pub admitted_by : Settings → View → Connection → Result ℕ Refusal
admitted_by set v c =
    cond (not (connection_allowed set c)) (Err Refusal.ConnectionOffRange)
    (cond (leb most_connections (length v.contracts)) (Err Refusal.TableFull)
    (cond (not (rate_holds set (v.contracts ++ (c ∷ [])))) (Err Refusal.RateExceeded)
    (search_answer (suc (length v.contracts)) (finite_search set (v.contracts ++ (c ∷ []))))))

-- The view after that answer.
unfoldable pub view_admitted : ℕ → View → Connection → Result ℕ Refusal → View
view_admitted n v c (Ok k) =
    record { contracts = v.contracts ++ (c ∷ []); meter = cond (eqb (n - 1) (length v.contracts)) (full c) v.meter }
view_admitted n v c (Err why) = v

-- The contract of connection n.
abbrev pub mine : ℕ → View → Connection
mine n v = get_or v.contracts (n - 1) no_connection

-- The answer to an offer of connection n, by the view, if the store is not full.
unfoldable pub offered_by : ℕ → View → ℕ → ℕ → Result ℕ Refusal
offered_by n v slot units =
    cond (not (within 1 n (length v.contracts))) (Err Refusal.NoConnection)
    (cond (not (within 1 units (mine n v).longest)) (Err Refusal.WrongLength)
    (cond (not (conforms (mine n v) v.meter slot)) (Err Refusal.NotFitting)
    (Ok 0)))

-- The view after that answer.
unfoldable pub view_offered : ℕ → View → ℕ → Result ℕ Refusal → View
view_offered n v slot (Ok serial) = record { contracts = v.contracts; meter = charged (mine n v) v.meter slot }
view_offered n v slot (Err why) = v

-- What connection n is told, by its view and what is asked.
unfoldable pub replay : Settings → ℕ → View → List Ask → List (Result ℕ Refusal)
replay set n v [] = []
replay set n v (admission slot c ∷ asks) = replay set n (view_admitted n v c (admitted_by set v c)) asks
replay set n v (offering slot units ∷ asks) = offered_by n v slot units ∷ replay set n (view_offered n v slot (offered_by n v slot units)) asks

module _ (n : ℕ) (h : 1 ≤ n) where
  -- A sound box answers an admission by the view.
  admitted_same : (box : Box) (c : Connection) → sound box ≡ true → admission_answer box c ≡ admitted_by box.settings (view n box) c
  unfolding admission_answer admitted_by view with_newcomer
  admitted_same box c s = rw (s, connections_length box)

  -- The view after an admission is told by its answer.
  view_admitted_lem : (box : Box) (c : Connection) (a : Result ℕ Refusal) → view n (after_admission box c a) ≡ view_admitted n (view n box) c a
  unfolding after_admission view_admitted view
  view_admitted_lem box c (Ok k) =
      let row : Standing = record { asked = c; allowance = full c } in
      let contracts : connections (with_standing box (box.standing ++ (row ∷ []))) ≡ connections box ++ (c ∷ []) =
      unfold connections with_standing in map-append (λ (s : Standing). s.asked) box.standing (row ∷ []) in
      let meter : allowance (with_standing box (box.standing ++ (row ∷ []))) n ≡
      cond (eqb (n - 1) (length (connections box))) (full c) (allowance box n) =
      unfold allowance with_standing in
      (ap (λ l. get_or l (n - 1) (full no_connection)) (map-append (λ (s : Standing). s.allowance) box.standing (row ∷ [])) ∙
      get_d_last (map (λ (s : Standing). s.allowance) box.standing) (full c) (full no_connection) (n - 1) ∙
      ap (λ l. cond (eqb (n - 1) l) (full c) (get_or (map (λ (s : Standing). s.allowance) box.standing) (n - 1) (full no_connection)))
      (length-map box.standing (λ s. s.allowance) ∙ sym (connections_length box))) in
      λ i. record { contracts = contracts i; meter = meter i }
  view_admitted_lem box c (Err why) = refl

  -- A sound box that does not answer 10 answers an offer by the view, serials aside.
  offered_same : (box : Box) (units : ℕ) (o : Result ℕ Refusal) → sound box ≡ true → is_ten (to_offer o) ≡ false → OfferSays box n units o →
      serial_aside o ≡ offered_by n (view n box) box.counter units
  unfolding serial_aside offered_by view stands connection is_ten offered refusal refusal_number
  offered_same box units (Err why) s t (offer_unsound u) = absurd (true≢false (sym s ∙ u))
  offered_same box units (Err why) s t (no_connection_lem u a) = rw (connections_length box, a)
  offered_same box units (Err why) s t (wrong_length u a l) = rw (connections_length box, a, l)
  offered_same box units (Err why) s t (not_fitting u a l f) = rw (connections_length box, a, l, f)
  offered_same box units (Err why) s t (store_full u a l f w) = absurd (true≢false t)
  offered_same box units (Ok serial) s t says = rw (connections_length box, says.1, says.2, says.3)

  -- Its own offers change the view by what they are told.
  view_offered_lem : (box : Box) (units : ℕ) (o : Result ℕ Refusal) → OfferSays box n units o →
      view n (after_offer box n units o) ≡ view_offered n (view n box) box.counter (serial_aside o)
  unfolding view_offered view serial_aside connection
  view_offered_lem box units (Err why) says = unfold after_offer in refl
  view_offered_lem box units (Ok serial) says =
      let r = within_facts 1 n (length box.standing) (unfold stands in says.1) in
      let contracts = offer_connections box n units in
      let meter : allowance (accepting box n units) n ≡
      charged (get_or (connections box) (n - 1) no_connection) (allowance box n) box.counter =
      charged_mine box n units r.0 r.1 in
      rw says.5 (λ i. record { contracts = contracts i; meter = meter i })

  -- The offers of others do not change it.
  view_other : (box : Box) (m units : ℕ) → (m ≡ n → ⊥) → (o : Result ℕ Refusal) → OfferSays box m units o
      → view n (after_offer box m units o) ≡ view n box
  unfolding view
  view_other box m units ne (Err why) says = unfold after_offer in refl
  view_other box m units ne (Ok serial) says =
      let r = within_facts 1 m (length box.standing) (unfold stands in says.1) in
      let contracts = offer_connections box m units in
      let meter = charged_other box m units n r.0 h ne in
      rw says.5 (λ i. record { contracts = contracts i; meter = meter i })

  -- A step does not change the view.
  view_step : (box : Box) (a : Result Stepped Refusal) → view n (after_step box a) ≡ view n box
  unfolding view after_step moved connections allowance
  view_step box (Ok Stepped.Idle) = refl
  view_step box (Ok (Stepped.Sending serial left)) = refl
  view_step box (Ok (Stepped.Departed serial connection arrival departure)) = refl
  view_step box (Err why) = refl

  -- One call, and what is told after it.
  module _ (box : Box) (s : sound box ≡ true) (es : List Event) where
    -- What is told after the calls so far is what the view then gives.
    abbrev After : View → Type 0
    After v = told n es ≡ replay box.settings n v (asked n es)

    -- An offer of the connection itself.
    told_own : (units : ℕ) → is_ten (to_offer (offer_answer box n units)) ≡ false
        → After (view n (after_offer box n units (offer_answer box n units))) →
        serial_aside (offer_answer box n units) ∷ told n es ≡
        replay box.settings n (view n box) (offering box.counter units ∷ asked n es)
    unfolding replay
    told_own units t i =
        let o = offer_says box n units in
        let a = offered_same box units (offer_answer box n units) s t o in
        let v = view_offered_lem box units (offer_answer box n units) o in
        let rest = i ∙ ap (λ v. replay box.settings n v (asked n es)) (v ∙ ap (view_offered n (view n box) box.counter) a) in
        λ k. a k ∷ rest k

    -- With any offer made first, the connection is told what the replay of its own calls gives.
    told_offer : (m units : ℕ) → is_ten (to_offer (offer_answer box m units)) ≡ false
        → After (view n (after_offer box m units (offer_answer box m units))) →
        answer_to n (offer m units) (to_offer (offer_answer box m units)) ++ told n es ≡
        replay box.settings n (view n box) (ask_of n box.counter (offer m units) ++ asked n es)
    unfolding answer_to ask_of
    told_offer m units t i =
        elim (ℕ_discrete m n) [
          | yes e ↦ rw (eq-eqb m n e) (subst (λ m. is_ten (to_offer (offer_answer box m units)) ≡ false →
              After (view n (after_offer box m units (offer_answer box m units))) →
              serial_aside (offer_answer box m units) ∷ told n es ≡
              replay box.settings n (view n box) (offering box.counter units ∷ asked n es))
              (sym e) (told_own units) t i)
          | no e ↦ rw (ne_eqb m n e) (i ∙ ap (λ v. replay box.settings n v (asked n es))
              (view_other box m units e (offer_answer box m units) (offer_says box m units)))
        ]

    -- With any call made first, the connection is told what the replay of its own calls gives.
    told_call : (c : Call) → is_ten (reply box c) ≡ false → After (view n (after box c)) →
        answer_to n c (reply box c) ++ told n es ≡ replay box.settings n (view n box) (ask_of n box.counter c ++ asked n es)
    unfolding reply after
    told_call (offer m units) t i = told_offer m units t i
    told_call step t i = unfold answer_to ask_of in (i ∙ ap (λ v. replay box.settings n v (asked n es)) (view_step box (step_answer box)))
    told_call (admit c) t i =
        unfold answer_to ask_of replay in
        (i ∙ ap (λ v. replay box.settings n v (asked n es))
        (view_admitted_lem box c (admission_answer box c) ∙ ap (view_admitted n (view n box) c) (admitted_same box c s)))

  -- What connection n is told in a run that never answers 10 is what its view and what is asked give.
  pub replayed : (box : Box) (calls : List Call) → sound box ≡ true → never_ten (trace box calls) ≡ true →
      told n (trace box calls) ≡ replay box.settings n (view n box) (asked n (trace box calls))
  unfolding trace told asked never_ten every
  replayed box [] s e = unfold replay in refl
  replayed box (c ∷ calls) s e =
      let p = (and-eq-true_iff (not (is_ten (reply box c))) (every (λ e. not (is_ten e.answer)) (trace (after box c) calls))).0 e in
      let g : (after box c).settings ≡ box.settings = (move_grows (call_moves box [] [] c)).settings_same in
      let i = replayed (after box c) calls (sound_after box c s) p.1 in
      told_call box s (trace (after box c) calls) c (not-true (is_ten (reply box c)) p.0)
      (i ∙ ap (λ x. replay x n (view n (after box c)) (asked n (trace (after box c) calls))) g)

-- Isolation: two runs from the same new box with the same admissions and the same offers of one connection, all of these at the same
-- slots and in the same order among themselves, give it the same offer answers, serials aside, if neither answers 10. (Neither
-- answers 1: every run is sound.)
pub isolation : (set : Settings) → settings_allowed set ≡ true → (n : ℕ) → 1 ≤ n → (calls others : List Call) →
    asked n (trace (new_box set) calls) ≡ asked n (trace (new_box set) others) →
    never_ten (trace (new_box set) calls) ≡ true → never_ten (trace (new_box set) others) ≡ true →
    told n (trace (new_box set) calls) ≡ told n (trace (new_box set) others)
isolation set allowed n h calls others same e f =
    let s = new_box_sound set allowed in
    replayed n h (new_box set) calls s e ∙
    ap (replay (new_box set).settings n (view n (new_box set))) same ∙
    sym (replayed n h (new_box set) others s f)
