-- The text of the run of any bytes: refused by reading, refused by opening, or run.
use Prim.Native.Nat.{ℕ, ◌/◌, ◌≤◌}
use mathlib.Core.Path.{◌≡◌, refl, sym, ap, ◌∙◌}
use mathlib.Core.Bool.{true}
use mathlib.Core.List.{List}
use native.Mathlib.Omega.{arith}
use lib.ListN.{length, take}
use borrow.Author.Tests.{lt-ltb, le-ltb}
use Rattle.meaning.specs.declared.Header.{Header}
use Rattle.meaning.specs.declared.Refusal.{Refusal}
use Rattle.meaning.specs.Numbers.{Settings}
use Rattle.meaning.specs.Answers.{refusal_number}
use Rattle.meaning.specs.Calls.{new_box, opening_answer}
use Rattle.meaning.specs.Plan.{words_of, contents_of, reading_answer, table, factor_at}
use Rattle.meaning.specs.Run.{open_run, plan_run, read_run, run}
use Rattle.meaning.specs.Lines.{line_text, run_text, text_of, text_most}
use Rattle.meaning.proofs.RunFits.{run_fits}
use Rattle.words.specs.Places.{box_words}
use Rattle.words.specs.Contents.{contents}
use Rattle.words.specs.Sound.{sound_words}
use Rattle.tables.specs.Opening as openings
use Rattle.tables.proofs.Opened.{opened_sound, opened_new}
use Rattle.plan.specs.Parts.{part_of}
use Rattle.plan.specs.Readable.{Readable}
use Rattle.plan.proofs.Good.{read_back}
use Rattle.lines.specs.Put.{Room, Put}
use Rattle.whole_run.specs.Printing.{printing_answer, text_after}
use Rattle.lines.proofs.Reached.{text_one}
use Rattle.whole_run.proofs.Whole.{factors_are}
use Rattle.std.proofs.Common.{Result, Ok, Err}
use Rattle.meaning.specs.declared.Line.{Line}

-- The text is that of the lines.
run_text_lem : (bytes : List ℕ) → run_text bytes ≡ text_of (run bytes)
unfolding run_text
run_text_lem bytes = refl

-- A buffer of 420,000 bytes has room for the text of any run.
pub text_room : (bytes out : List ℕ) → 420000 ≤ length out → Room out 0 (run_text bytes)
text_room bytes out h = let f = run_fits bytes in omega (arith, f, h)

-- Into a buffer that has room for any text no more bytes are written than it has.
pub written_within :
    (bytes : List ℕ) (room size : ℕ) → text_most ≤ room → Ok size ≡ printing_answer bytes room → size ≤ room
unfolding printing_answer
written_within bytes room size h e =
    let whole : ◌≡◌ {A = Result ℕ Refusal} (Ok size) (Ok (length (run_text bytes))) = e ∙ rw (le-ltb room text_most h) refl in
    let same : size ≡ length (run_text bytes) = cc in
    let f = run_fits bytes in
    omega arith

-- Reading refuses: one line.
module _ (bytes : List ℕ) (answer : Result Header Refusal) (is : answer ≡ reading_answer bytes) where
  -- The lines are those of the answer.
  reads : run bytes ≡ read_run bytes answer
  unfolding run
  reads = ap (read_run bytes) (sym is)

  -- They are one line, with the number of the refusal.
  pub refused_by_reading : (why : Refusal) → answer ≡ Err why → run_text bytes ≡ line_text (Line.Refused (refusal_number why))
  unfolding read_run
  refused_by_reading why e = run_text_lem bytes ∙ ap text_of (reads ∙ ap (read_run bytes) e) ∙ text_one (Line.Refused (refusal_number why))

-- Words enough are lent, so only the settings decide.
opening_same : (settings : Settings) (ws : List ℕ) → length ws ≡ box_words → (openings.opened settings ws).0 ≡ opening_answer 0 0 settings
unfolding openings.opened opening_answer
opening_same settings ws e =
    rw (le-ltb (length ws) box_words (omega (arith, e))) refl

-- Reading succeeds: opening decides.
module _ (bytes : List ℕ) (h : Header) (r : Readable bytes h) (classes factors ws : List ℕ)
    (part : classes ≡ part_of bytes h.classes 4) (copied : factors ≡ table factor_at 1 (words_of classes) 0 8)
    (size : box_words ≡ length ws) {answer : Result Unit Refusal} {exit : List ℕ}
    (is : (answer, exit) ≡ openings.opened (openings.asked h.interval h.cycle (take (length classes / 4) factors)) ws)
  where
    -- The settings that the box is opened with.
    abbrev settings : Settings
    settings = openings.asked h.interval h.cycle (take (length classes / 4) factors)

    -- The settings that the box is opened with are those of the plan.
    same : settings ≡ (contents_of (words_of bytes) h).settings
    same = factors_are bytes h r classes part factors copied

    -- The answer is that of opening with these settings.
    answer_is : answer ≡ (openings.opened settings ws).0
    answer_is = ap (λ (q : Result Unit Refusal × List ℕ). q.0) is

    -- The words afterwards are those that this opening leaves.
    exit_is : exit ≡ (openings.opened settings ws).1
    exit_is = ap (λ (q : Result Unit Refusal × List ℕ). q.1) is

    -- The run that an answer of opening makes of the plan.
    abbrev run_as : Result Unit Refusal → List Line
    run_as a = plan_run (contents_of (words_of bytes) h) a

    -- The run of the bytes is what the answer of opening makes of it.
    opens : run bytes ≡ run_as answer
    unfolding run read_run
    opens =
        ap (read_run bytes) (read_back bytes h r) ∙
        ap run_as (sym (answer_is ∙ opening_same settings ws (sym size) ∙ ap (opening_answer 0 0) same))

    -- a box is open
    module _ (done : answer ≡ (Ok tt)) where
      -- The text of the run is that of the opened plan.
      pub run_opened : run_text bytes ≡ text_of (open_run (contents_of (words_of bytes) h))
      unfolding plan_run
      run_opened = run_text_lem bytes ∙ ap text_of (opens ∙ ap run_as done)

      -- The words of the opened box are sound.
      pub opens_sound : sound_words exit ≡ true
      opens_sound = ap sound_words exit_is ∙ opened_sound settings ws (sym answer_is ∙ done)

      -- The words of the opened box stand for a new box with the plan's settings.
      pub opens_new : contents exit ≡ new_box (contents_of (words_of bytes) h).settings
      opens_new = ap contents exit_is ∙ opened_new settings ws (sym answer_is ∙ done) ∙ ap new_box same

    -- opening refuses: one line
    pub refused_by_opening : (why : Refusal) → answer ≡ Err why → run_text bytes ≡ line_text (Line.Refused (refusal_number why))
    unfolding plan_run
    refused_by_opening why e = run_text_lem bytes ∙ ap text_of (opens ∙ ap run_as e) ∙ text_one (Line.Refused (refusal_number why))

-- What is promised of a buffer that is too short, and of one that is long enough.
pub too_short : (bytes out : List ℕ) → length out ≤ 419999
    → (Err Refusal.TooShort ≡ printing_answer bytes (length out)) × (out ≡ text_after bytes out)
unfolding printing_answer text_after
too_short bytes out h = let e = lt-ltb (length out) text_most (omega (arith, h)) in (rw e refl, rw e refl)

-- A buffer that is long enough has the text.
pub printed_whole : (bytes out last : List ℕ) (next : ℕ) → 420000 ≤ length out → Put out last 0 (run_text bytes) next
    → (Ok next ≡ printing_answer bytes (length out)) × (last ≡ text_after bytes out)
unfolding printing_answer text_after
printed_whole bytes out last next h p =
    let e = le-ltb (length out) text_most (omega (arith, h)) in
    let n : next ≡ length (run_text bytes) = omega (arith, p.place) in
    (rw e (ap Ok n), rw e p.bytes)
