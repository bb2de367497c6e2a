-- Both round trips over the calls: what writing leaves is read back, and what was read is written again.
use Rattle.std.proofs.Common.{◌≡◌, ℕ, zero, suc, ◌+◌, ◌/◌, ◌^◌, ◌<◌, ◌≤◌, Bool, true, false, List, [], ◌∷◌, ◌++◌, map, length, get_or, take, drop, sym, refl, ap, ◌∙◌, ap₂, ⊎_elim, true≢false, append-nil, zero-add, arith, take_at, Result, Ok, Err}
use mathlib.Core.List.{flatten}
use native.Mathlib.Decide.{dec_le}
use Rattle.laws.specs.Tests.{bool_cases}
use Rattle.meaning.specs.declared.Header.{Header}
use Rattle.meaning.specs.declared.Refusal.{Refusal}
use Rattle.meaning.specs.Plan.{Plan, Lent, lent_plan, lent_wrong, words_of, header_of, contents_of, table, factor_at, connection_at, arrival_at}
use Rattle.meaning.specs.Plan.{connection_words, arrival_words, plan_words, plan_bytes, size_of, slots_wrong, reading_answer, writing_answer}
use Rattle.plan_writer.specs.Bytes.{pasted}
use Rattle.plan.specs.Entries.{length_table}
use Rattle.plan_writer.proofs.Back.{connections_again, arrivals_again}
use Rattle.plan_writer.proofs.Sizes.{length_connections, length_arrivals, length_plan}
use Rattle.plan_writer.specs.Written.{bytes_after, bytes_by}
use Rattle.plan_writer.proofs.LentTables.{lengths_facts, lengths_right, tables_of_lent}
use Rattle.plan_writer.proofs.Answers.{answer_15, answer_16, answer_17, answer_0}
use Rattle.plan.proofs.Good.{read_facts}
use Rattle.plan_writer.specs.Writable.{Writable, Fits, Taken, lent_of}
use Rattle.plan_writer.proofs.RoundTrip.{written_and_read}
use Rattle.plan_writer.proofs.Again.{read_and_written}

-- Words joined to words are of 32 bits where both are.
both_fit :
    (l m : List ℕ) → ((i : ℕ) → get_or l i 0 < 2 ^ 32) → ((i : ℕ) → get_or m i 0 < 2 ^ 32) → (i : ℕ) → get_or (l ++ m) i 0 < 2 ^ 32
both_fit [] m p q i = q i
both_fit (a ∷ l) m p q zero = p zero
both_fit (a ∷ l) m p q (suc i) = both_fit l m (λ j. p (suc j)) q i

-- An answer that refuses.
abbrev refuses : Result ℕ Refusal → Bool
refuses (Ok n) = false
refuses (Err why) = true

-- Lent tables whose size was answered are right, and there was room for them.
pub write_facts : (l : Lent) (buf : List ℕ) (size : ℕ) → writing_answer l (length buf) ≡ Ok size → Taken l (length buf) size
write_facts l buf size done =
    ⊎_elim (λ a. other (Err Refusal.WrongLayout) refl (answer_15 l buf a).0)
    (λ a.
    ⊎_elim (λ b. other (Err Refusal.WrongSlots) refl (answer_16 l buf a b).0)
    (λ b. room a b (dec_le (size_of (lent_plan l)) (length buf)))
    (bool_cases (slots_wrong (lent_plan l).arrivals)))
    (bool_cases (lent_wrong l))
  where
    other : (r : Result ℕ Refusal) → refuses r ≡ true → r ≡ writing_answer l (length buf) → Taken l (length buf) size
    other r t e = absurd (true≢false (sym t ∙ ap refuses (e ∙ done)))

    room :
        lent_wrong l ≡ false → slots_wrong (lent_plan l).arrivals ≡ false → Dec (size_of (lent_plan l) ≤ length buf) → Taken l (length buf) size
    room a b (no h) = other (Err Refusal.TooShort) refl (answer_17 l buf a b (omega arith)).0
    room a b (yes h) =
        let same : Ok (size_of (lent_plan l)) ≡ Ok size =
        (answer_0 l buf a b (size_of (lent_plan l)) _ refl h refl).0 ∙ done in
        let e : size ≡ size_of (lent_plan l) = cc in
        record { right = a; slots_right = b; size_is = e; room_for = omega arith }

-- Lent tables that are not refused are contents that fit a plan file.
lent_writable : (l : Lent) → Fits l → lent_wrong l ≡ false → slots_wrong (lent_plan l).arrivals ≡ false → Writable (lent_plan l)
unfolding lent_plan
lent_writable l fits right slots =
    let w = lengths_facts l right in
    let front = both_fit l.factors l.connections fits.factors_fit fits.connections_fit in
    let words = both_fit (l.factors ++ l.connections) l.arrivals front fits.arrivals_fit in
    record {
      factors_few = w.factors_few;
      connections_few = rw (length_table connection_at 4 l.connections 0 (length l.connections / 4)) w.connections_few;
      arrivals_few = rw (length_table arrival_at 3 l.arrivals 0 (length l.arrivals / 3)) w.arrivals_few;
      slots_right = slots;
      interval_fits = fits.interval_fits;
      cycle_fits = fits.cycle_fits;
      tables_fit = λ i. rw (tables_of_lent l w) (words i);
    }

-- "reading what was written gives the contents"
pub write_then_read :
    (l : Lent) (buf : List ℕ) (size : ℕ) → Fits l → writing_answer l (length buf) ≡ Ok size →
    (reading_answer (take size (bytes_after l buf)) ≡ Ok (header_of (plan_words (lent_plan l)))) ×
    (contents_of (words_of (take size (bytes_after l buf))) (header_of (plan_words (lent_plan l))) ≡ lent_plan l)
unfolding bytes_after bytes_by
write_then_read l buf size fits done =
    let t = write_facts l buf size done in
    let long : length (plan_bytes (lent_plan l)) ≡ size = length_plan (lent_plan l) ∙ sym t.size_is in
    rw (done, take_at (plan_bytes (lent_plan l)) (drop size buf) size long)
    (written_and_read (lent_plan l) (lent_writable l fits t.right t.slots_right))

-- Contents that are lent to the writer are the contents that it writes.
pub lent_again : (plan : Plan) → lent_plan (lent_of plan) ≡ plan
unfolding lent_plan lent_of
lent_again plan =
    let c = flatten (map connection_words plan.connections) in
    let a = flatten (map arrival_words plan.arrivals) in
    let few : length c / 4 ≡ length plan.connections = omega (arith, length_connections plan.connections) in
    let many : length a / 3 ≡ length plan.arrivals = omega (arith, length_arrivals plan.arrivals) in
    let cs : table connection_at 4 c 0 (length c / 4) ≡ plan.connections =
    ap₂ (λ ws n. table connection_at 4 ws 0 n) (sym (append-nil c)) few ∙ connections_again plan.connections [] in
    let l : table arrival_at 3 a 0 (length a / 3) ≡ plan.arrivals =
    ap₂ (λ ws n. table arrival_at 3 ws 0 n) (sym (append-nil a)) many ∙ arrivals_again plan.arrivals [] in
    rw (cs, l)

-- Contents of few enough entries are lent right.
lent_right :
    (plan : Plan) → length plan.settings.factors ≤ 8 → length plan.connections ≤ 32 → length plan.arrivals ≤ 4096 →
    lent_wrong (lent_of plan) ≡ false
unfolding lent_of
lent_right plan f k n =
    let c = length_connections plan.connections in
    let a = length_arrivals plan.arrivals in
    lengths_right (lent_of plan)
    (record {
      factors_few = f;
      connections_few = omega arith;
      arrivals_few = omega arith;
      connections_whole = omega arith;
      arrivals_whole = omega arith;
    })

-- "writing what was read gives the bytes"
pub read_then_write :
    (bytes : List ℕ) (h : Header) (buf : List ℕ) → ((i : ℕ) → get_or bytes i 0 < 256) →
    reading_answer bytes ≡ Ok h → length bytes ≤ length buf →
    (writing_answer (lent_of (contents_of (words_of bytes) h)) (length buf) ≡ Ok (length bytes)) ×
    (bytes_after (lent_of (contents_of (words_of bytes) h)) buf ≡ bytes ++ drop (length bytes) buf)
unfolding contents_of pasted
read_then_write bytes h buf small good room =
    let r = read_facts bytes h good in
    let plan = contents_of (words_of bytes) h in
    let l = lent_of plan in
    let f = length_table factor_at 1 (words_of bytes) (h.classes.start / 4) h.classes.count in
    let k = length_table connection_at 4 (words_of bytes) (h.connections.start / 4) h.connections.count in
    let a = length_table arrival_at 3 (words_of bytes) (h.arrivals.start / 4) h.arrivals.count in
    let laid = r.laid in
    let right = lent_right plan (omega (arith, f)) (omega (arith, k)) (omega (arith, a)) in
    let slots : slots_wrong (lent_plan l).arrivals ≡ false = rw (lent_again plan) r.slots in
    let same : plan_bytes (lent_plan l) ≡ bytes = ap plan_bytes (lent_again plan) ∙ read_and_written bytes h r small in
    let size : length bytes ≡ size_of (lent_plan l) = ap length (sym same) ∙ length_plan (lent_plan l) in
    let done = answer_0 l buf right slots (length bytes) (pasted buf 0 (plan_bytes (lent_plan l))) size room refl in
    let end : 0 + length (plan_bytes (lent_plan l)) ≡ length bytes = zero-add (length (plan_bytes (lent_plan l))) ∙ ap length same in
    (sym done.0, sym done.1 ∙ ap₂ (λ x n. x ++ drop n buf) same end)
