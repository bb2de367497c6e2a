-- The text of the run of any bytes is at most `text_most` bytes long.
use Prim.Native.Nat.{ℕ, zero, suc, ◌+◌, ◌/◌, ◌≤◌, ◌<◌}
use mathlib.Core.Path.{◌≡◌, refl, sym, ap, ◌∙◌, subst}
use mathlib.Core.Bool.{Bool, true, false, cond, not, ◌&&◌, and-eq-true_iff}
use mathlib.Core.List.Memᴰ
use mathlib.Core.List.{List, [], ◌∷◌, flatten, append-nil, Memᴰ}
use mathlib.Core.Logic.{⊎_elim}
use native.Mathlib.Omega.{arith}
use lib.ListN.{length, replicate}
use lib.Dec.{leb}
use borrow.Author.Tests.{leb-true, not-false}
use Rattle.laws.specs.Lists.{Placed, placed_from}
use Rattle.laws.specs.Search.{Search, fails_at, holds, first_failing}
use Rattle.laws.specs.Finding.{first_failing_fails}
use Rattle.meaning.specs.declared.Header.{Header}
use Rattle.meaning.specs.declared.Refusal.{Refusal}
use Rattle.meaning.specs.declared.Connection.{Connection}
use Rattle.meaning.specs.Numbers.{Settings, largest_factor, largest_bound, settings_allowed, connection_allowed}
use Rattle.meaning.specs.Admission.{condition_at, rate_holds, finite_search}
use Rattle.meaning.specs.Queues.{empty_queues}
use Rattle.meaning.specs.Box.{Box, on_link, waiting, packets, sound}
use Rattle.meaning.specs.Answers.{refusal_number, failing_t, admitted}
use Rattle.meaning.specs.Calls.{new_box, opening_answer, with_newcomer, search_answer, admission_answer, with_standing, after_admission}
use Rattle.meaning.specs.declared.Arrival.{Arrival}
use Rattle.meaning.specs.Plan.{Plan, words_of, header_of, contents_of, table, counts_allowed, layout_wrong, slots_wrong, size_wrong}
use Rattle.meaning.specs.Plan.{sum_wrong, reading_answer, connection_at, arrival_at}
use Rattle.meaning.specs.Run.{line_of_admission, admit_all, slots_enough, open_run, plan_run}
use Rattle.meaning.specs.Run.{read_run, run}
use Rattle.meaning.specs.Lines.{run_text, text_most}
use Rattle.meaning.proofs.Facts.{sound_facts, settings_facts}
use Rattle.meaning.specs.Rest.{from}
use Rattle.meaning.proofs.ArrivalSums.{from_start}
use Rattle.meaning.proofs.KeptByAdmission.{new_box_sound, admission_keeps_sound}
use Rattle.meaning.proofs.QueueLaws.{empty_flatten}
use Rattle.meaning.proofs.Readings.{refusal_range}
use Rattle.meaning.proofs.TextMost.{Printed, PrintedLine, text_most_lem}
use Rattle.meaning.proofs.LinesMost.{Few, few_append, few_more, few_one, one, length_is, slots_few}
use Rattle.std.proofs.Common.{Result, Ok, Err}
use Rattle.meaning.specs.declared.Line.{Line}

-- An admission: its line has small numbers, and it moves neither the counter nor a packet.
admission_printed : (box : Box) (c : Connection) (place : ℕ) → sound box ≡ true → Printed place → length box.standing ≤ 32
    → PrintedLine (line_of_admission place (admission_answer box c))
unfolding line_of_admission admission_answer admitted refusal_number failing_t search_answer finite_search
admission_printed box c place e p r =
    rw e
    (go (connection_allowed box.settings c) (leb 32 (length box.standing)) (rate_holds box.settings (with_newcomer box c))
    (first_failing (condition_at box.settings (with_newcomer box c)) (largest_bound box.settings + box.settings.cycle)) refl)
  where
    range : largest_bound box.settings + box.settings.cycle ≤ 5120
    range =
        let f = settings_facts box.settings (sound_facts box e).settings_allowed_lem in
        let a = f.bound_most in
        let b = f.cycle_most in
        omega arith

    go : (a b d : Bool) (s : Search)
        → first_failing (condition_at box.settings (with_newcomer box c)) (largest_bound box.settings + box.settings.cycle) ≡ s
        → PrintedLine
        (line_of_admission place
        (cond (not a) (Err Refusal.ConnectionOffRange)
        (cond b (Err Refusal.TableFull)
        (cond (not d) (Err Refusal.RateExceeded) (search_answer (suc (length box.standing)) s)))))
    go false b d s q = (p, omega arith, omega arith)
    go true true d s q = (p, omega arith, omega arith)
    go true false false s q = (p, omega arith, omega arith)
    go true false true (fails_at t) q =
        let l = (first_failing_fails (condition_at box.settings (with_newcomer box c))
        (largest_bound box.settings + box.settings.cycle) t q).0 in
        let g = range in
        (p, omega arith, omega arith)
    go true false true holds q = (p, omega arith, omega arith)

-- An admission leaves the counter and the packets.
admission_same : (box : Box) (c : Connection) (answer : Result ℕ Refusal)
    → ((after_admission box c answer).counter ≡ box.counter) × (packets (after_admission box c answer) ≡ packets box)
unfolding after_admission with_standing packets waiting
admission_same box c (Ok n) = (refl, refl)
admission_same box c (Err why) = (refl, refl)

-- What all admissions leave behind.
record Admitting (place : ℕ) (cs : List Connection) (box : Box) : Type 0 where
  still_sound : sound (admit_all place cs box).box ≡ true
  counter_stays : (admit_all place cs box).box.counter ≡ box.counter
  packets_stay : packets (admit_all place cs box).box ≡ packets box
  numbers_are : length (admit_all place cs box).numbers ≡ length cs
  few : Few (admit_all place cs box).lines (length cs)

-- The admissions of a file keep the box sound, leave counter and packets, and print one small line each.
admissions : (place : ℕ) (cs : List Connection) (box : Box) → sound box ≡ true → place + length cs ≤ 5000 → Admitting place cs box
unfolding admit_all
admissions place [] box e h =
    record {
      still_sound = e;
      counter_stays = refl;
      packets_stay = refl;
      numbers_are = refl;
      few = record { count = omega arith; printed = λ k m. absurd (Memᴰ.not-nil m) };
    }
admissions place (c ∷ cs) box e h =
    let answer = admission_answer box c in
    let next = after_admission box c answer in
    let rest = admissions (suc place) cs next (admission_keeps_sound box c e) (omega arith) in
    let same = admission_same box c answer in
    let own = admission_printed box c place e (omega arith) (sound_facts box e).connections_most in
    let n = rest.few.count in
    record {
      still_sound = rest.still_sound;
      counter_stays = rest.counter_stays ∙ same.0;
      packets_stay = rest.packets_stay ∙ same.1;
      numbers_are = ap suc rest.numbers_are;
      few =
          record {
            count = omega arith;
            printed =
                λ k m. ⊎_elim (λ (i : k ≡ line_of_admission place answer). subst PrintedLine (sym i) own) (rest.few.printed k)
                (Memᴰ.cases_cons m);
          };
    }

-- A new box has no packets.
new_packets : (opening : Settings) → packets (new_box opening) ≡ []
unfolding packets waiting new_box empty_queues on_link
new_packets opening = append-nil (flatten (replicate (suc (largest_factor opening)) [])) ∙ empty_flatten (suc (largest_factor opening))

-- The counter of a new box is 0.
new_counter : (opening : Settings) → (new_box opening).counter ≡ 0
unfolding new_box
new_counter opening = refl

-- The places of a list counted from n on are below n and its length.
placed_most : (n : ℕ) (l : List Arrival) (a : Placed Arrival) → Memᴰ a (placed_from n l) → a.place < n + length l
unfolding placed_from
placed_most n [] a m = absurd (Memᴰ.not-nil m)
placed_most n (x ∷ l) a m =
    ⊎_elim (λ (e : a ≡ record { place = n; entry = x }). let i : a.place ≡ n = ap (λ z. z.place) e in omega arith)
    (λ k. let i = placed_most (suc n) l a k in omega arith)
    (Memᴰ.cases_cons m)

-- A list with its places has as many entries.
placed_length : (n : ℕ) (l : List Arrival) → length (placed_from n l) ≡ length l
unfolding placed_from
placed_length n [] = refl
placed_length n (x ∷ l) = ap suc (placed_length (suc n) l)

-- The run of an opened plan has at most 8,225 lines, with small numbers.
open_few : (plan : Plan) → settings_allowed plan.settings ≡ true → length plan.connections ≤ 32 → length plan.arrivals ≤ 4096
    → Few (open_run plan) 8225
unfolding open_run
open_few plan e c a =
    let start = new_box plan.settings in
    let ad = admissions 1 plan.connections start (new_box_sound plan.settings e) (omega arith) in
    let box = (admit_all 1 plan.connections start).box in
    let numbers = (admit_all 1 plan.connections start).numbers in
    let l = placed_from 1 plan.arrivals in
    let p : length (packets box) ≡ 0 = ap length (ad.packets_stay ∙ new_packets plan.settings) in
    let k : box.counter ≡ 0 = ad.counter_stays ∙ new_counter plan.settings in
    let f : from one box.counter l ≡ length plan.arrivals =
    ap (λ n. from one n l) k ∙ from_start one l ∙ length_is l ∙ placed_length 1 plan.arrivals in
    let n = ad.numbers_are in
    let s = slots_few (slots_enough l) l numbers box 0
    (record {
      still_sound = ad.still_sound;
      numbers_most = omega arith;
      places = λ x m. (let g = placed_most 1 plan.arrivals x m in omega arith);
      together = omega arith;
    }) in
    few_more (few_append ad.few s) (omega arith)

-- A table of n entries has n entries.
table_length : {A : Type 0} (entry : List ℕ → ℕ → A) (width : ℕ) (ws : List ℕ) (i n : ℕ) → length (table entry width ws i n) ≡ n
unfolding table
table_length entry width ws i zero = refl
table_length entry width ws i (suc n) = ap suc (table_length entry width ws (i + width) n)

-- A layout that is right has counts that are allowed.
counts_kept : (size : ℕ) (h : Header) → layout_wrong size h ≡ false → (h.connections.count ≤ 32) × (h.arrivals.count ≤ 4096)
unfolding layout_wrong counts_allowed
counts_kept size h e =
    let a = not-false _ e in
    let b = ((and-eq-true_iff _ _).0 a).0 in
    let c = ((and-eq-true_iff _ _).0 b).0 in
    let d = ((and-eq-true_iff _ _).0 c).0 in
    let f = ((and-eq-true_iff _ _).0 d).0 in
    let g = (and-eq-true_iff (leb h.classes.count 8 && leb h.connections.count 32) (leb h.arrivals.count 4096)).0 f in
    (leb-true _ _ ((and-eq-true_iff (leb h.classes.count 8) (leb h.connections.count 32)).0 g.0).1, leb-true _ _ g.1)

-- A plan has as many connections as its header says.
connection_count : (ws : List ℕ) (h : Header) → length (contents_of ws h).connections ≡ h.connections.count
unfolding contents_of
connection_count ws h = table_length connection_at 4 ws (h.connections.start / 4) h.connections.count

-- A plan has as many arrivals as its header says.
arrival_count : (ws : List ℕ) (h : Header) → length (contents_of ws h).arrivals ≡ h.arrivals.count
unfolding contents_of
arrival_count ws h = table_length arrival_at 3 ws (h.arrivals.start / 4) h.arrivals.count

-- The line of a refusal is at most 8,225 lines, with small numbers.
refused_few : (why : Refusal) → Few (Line.Refused (refusal_number why) ∷ []) 8225
refused_few why = let r = refusal_range why in few_more (few_one (Line.Refused (refusal_number why)) (omega arith)) (omega arith)

-- The run of a plan, opened or refused, has at most 8,225 lines, with small numbers.
planned_few : (plan : Plan) → length plan.connections ≤ 32 → length plan.arrivals ≤ 4096
    → Few (plan_run plan (opening_answer 0 0 plan.settings)) 8225
unfolding plan_run opening_answer
planned_few plan c a = go (settings_allowed plan.settings) refl
  where
    go : (b : Bool) → settings_allowed plan.settings ≡ b
        → Few (plan_run plan (cond (not b) (Err Refusal.SettingsOffRange)
        (cond false (Err Refusal.TooShort) (Ok tt)))) 8225
    go true e = open_few plan e c a
    go false e = refused_few Refusal.SettingsOffRange

-- The run of any bytes has at most 8,225 lines, with small numbers.
read_few : (bytes : List ℕ) → Few (run bytes) 8225
unfolding run read_run reading_answer
read_few bytes = go (size_wrong bytes) (sum_wrong (words_of bytes)) (layout_wrong (length bytes) (header_of (words_of bytes))) refl
    (slots_wrong (contents_of (words_of bytes) (header_of (words_of bytes))).arrivals)
  where
    good : layout_wrong (length bytes) (header_of (words_of bytes)) ≡ false
        → Few (read_run bytes (Ok (header_of (words_of bytes)))) 8225
    good e =
        let k = counts_kept (length bytes) (header_of (words_of bytes)) e in
        planned_few (contents_of (words_of bytes) (header_of (words_of bytes)))
        (subst (λ n. n ≤ 32) (sym (connection_count (words_of bytes) (header_of (words_of bytes)))) k.0)
        (subst (λ n. n ≤ 4096) (sym (arrival_count (words_of bytes) (header_of (words_of bytes)))) k.1)

    go : (a b c : Bool) → layout_wrong (length bytes) (header_of (words_of bytes)) ≡ c → (d : Bool)
        → Few
        (read_run bytes
        (cond a (Err Refusal.WrongSize)
        (cond b (Err Refusal.WrongSum)
        (cond c (Err Refusal.WrongLayout)
        (cond d (Err Refusal.WrongSlots) (Ok (header_of (words_of bytes))))))))
        8225
    go true b c e d = refused_few Refusal.WrongSize
    go false true c e d = refused_few Refusal.WrongSum
    go false false true e d = refused_few Refusal.WrongLayout
    go false false false e true = refused_few Refusal.WrongSlots
    go false false false e false = good e

-- Whatever the bytes are, the text of their run fits into `text_most` bytes.
pub run_fits : (bytes : List ℕ) → length (run_text bytes) ≤ text_most
unfolding run_text
run_fits bytes =
    let f = read_few bytes in
    let t = text_most_lem (run bytes) f.printed in
    let c = f.count in
    omega arith
