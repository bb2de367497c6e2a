-- The admissions of a file, one after another: what is left of `admit_all` at each place.
use Prim.Native.Nat.{ℕ, suc, ◌+◌, ◌*◌, ◌/◌, ◌<◌}
use mathlib.Core.Bool.{true}
use mathlib.Core.Path.{◌≡◌, refl, sym, ap, ◌∙◌, subst}
use mathlib.Core.List.{List, [], ◌∷◌, ◌++◌, append_assoc, append-nil}
use native.Mathlib.Omega.{arith}
use lib.ListN.{length, get_or, take, drop, set}
use lib.Seq.{drop-cons, drop-length, take-suc-set}
use Rattle.meaning.specs.declared.Connection.{Connection}
use Rattle.meaning.specs.Box.{Box}
use Rattle.meaning.specs.Answers.{admitted}
use Rattle.meaning.specs.Calls.{admission_answer, after_admission}
use Rattle.meaning.specs.Plan.{words_of, connection_at}
use Rattle.meaning.specs.Run.{AfterAdmissions, line_of_admission, admit_all}
use Rattle.meaning.specs.Lines.{line_text, text_of}
use Rattle.words.specs.Contents.{contents}
use Rattle.words.specs.Sound.{sound_words}
use Rattle.plan.specs.Entries.{length_table, get_or_table}
use Rattle.lines.specs.Put.{Room, Put}
use Rattle.multiplexer.specs.Promised.{Leaves}
use Rattle.whole_run.specs.Parts.{connections_in, admissions_of, Admits}
use Rattle.lines.proofs.Reached.{Reached, reached_start, reached_as, reached_next, reached_on, reached_end, text_cons, text_none}
use Rattle.std.proofs.Common.{Result}
use Rattle.meaning.specs.declared.Refusal.{Refusal}
use Rattle.meaning.specs.declared.Line.{Line}

-- The admissions from place i on, counted from 0.
abbrev rest_admitted : List ℕ → ℕ → Box → AfterAdmissions
rest_admitted bytes i box = admit_all (suc i) (drop i (connections_in bytes)) box

-- The first i admissions are done.
pub record Admitting (bytes : List ℕ) (box : Box) (i : ℕ) (ws numbers before out : List ℕ) (at : ℕ) : Type 0 where
  pub box_same : (rest_admitted bytes i (contents ws)).box ≡ (admissions_of bytes box).box
  pub numbers_join : take i numbers ++ (rest_admitted bytes i (contents ws)).numbers ≡ (admissions_of bytes box).numbers
  pub reached : Reached before out 0 (text_of (admissions_of bytes box).lines) (text_of (rest_admitted bytes i (contents ws)).lines) at

-- Before the first admission all of them are still to be done.
pub admit_start : (bytes ws numbers out : List ℕ) → Admitting bytes (contents ws) 0 ws numbers out out 0
admit_start bytes ws numbers out =
    record {
      box_same = refl;
      numbers_join = refl;
      reached = reached_start out 0 (text_of (admissions_of bytes (contents ws)).lines);
    }

-- The line of an admission from what the code prints.
line_is : (i place number t : ℕ) (answer : Result ℕ Refusal) → place ≡ suc i → number ≡ (admitted answer).number
    → t ≡ get_or (admitted answer).fields 1 0
    → Line.Admit place number t ≡ line_of_admission (suc i) answer
unfolding line_of_admission
line_is i place number t answer e f g = rw (e, f, g) refl

module _ (bytes : List ℕ) (i : ℕ) (c : Connection) (is : c ≡ connection_at (words_of bytes) (4 * i)) (below : i < length bytes / 16) where
  -- The connection at place i stands first among those from there on.
  first : drop i (connections_in bytes) ≡ c ∷ drop (suc i) (connections_in bytes)
  unfolding connections_in
  first =
      let n = length bytes / 16 in
      let l = length_table connection_at 4 (words_of bytes) 0 n in
      let z : 0 + 4 * i ≡ 4 * i = omega arith in
      drop-cons (connections_in bytes) i c (omega (arith, l, below)) ∙
      ap (λ x. x ∷ drop (suc i) (connections_in bytes))
      (get_or_table connection_at 4 (words_of bytes) 0 n i c below ∙ ap (connection_at (words_of bytes)) z ∙ sym is)

  -- The admission of that connection, and then the rest.
  abbrev opened : Box → AfterAdmissions
  opened box =
      let answer = admission_answer box c in
      let rest = rest_admitted bytes (suc i) (after_admission box c answer) in
      record {
        lines = line_of_admission (suc i) answer ∷ rest.lines;
        numbers = get_or (admitted answer).fields 0 0 ∷ rest.numbers;
        box = rest.box;
      }

  -- The admissions from place i on are that of the connection there and then the rest.
  opens : (box : Box) → rest_admitted bytes i box ≡ opened box
  unfolding admit_all
  opens box = ap (λ l. admit_all (suc i) l box) first

  module _ {box : Box} {ws numbers before out : List ℕ} {at : ℕ} (room : Room before 0 (text_of (admissions_of bytes box).lines))
      (a : Admitting bytes box i ws numbers before out at) (place number t : ℕ) (e : place ≡ suc i)
      (f : number ≡ (admitted (admission_answer (contents ws) c)).number)
      (g : t ≡ get_or (admitted (admission_answer (contents ws) c)).fields 1 0)
    where
      -- The answer to the connection.
      abbrev answer : Result ℕ Refusal
      answer = admission_answer (contents ws) c

      -- The box after that answer.
      abbrev after : Box
      after = after_admission (contents ws) c answer

      -- What is left to print is the connection's line and the lines of the rest.
      to_print :
          Reached before out 0 (text_of (admissions_of bytes box).lines)
          (line_text (Line.Admit place number t) ++ text_of (rest_admitted bytes (suc i) after).lines) at
      to_print =
          reached_as _
          (ap (λ r. text_of r.lines) (opens (contents ws)) ∙
          text_cons (line_of_admission (suc i) answer) (rest_admitted bytes (suc i) after).lines ∙
          ap (λ l. line_text l ++ text_of (rest_admitted bytes (suc i) after).lines) (sym (line_is i place number t answer e f g)))
          a.reached

      -- There is room for the connection's line.
      pub admit_room : Room out at (line_text (Line.Admit place number t))
      admit_room = reached_next (line_text (Line.Admit place number t)) (text_of (rest_admitted bytes (suc i) after).lines) room to_print

      -- Once the connection's line is printed and its number stands, one more admission is done, and the words are sound.
      pub admit_on :
          {next : List ℕ} {last : ℕ} (left : List ℕ) (given : ℕ) → i < length numbers → given ≡ get_or (admitted answer).fields 0 0
          → Leaves ws left after
          → Put out next at (line_text (Line.Admit place number t)) last
          → Admitting bytes box (i + 1) left (set numbers i given) before next last × (sound_words left ≡ true)
      admit_on {next} {last} left given h v l p =
          let s : suc i ≡ i + 1 = omega arith in
          let o = opens (contents ws) in
          let same : rest_admitted bytes (suc i) (contents left) ≡ rest_admitted bytes (suc i) after =
          ap (rest_admitted bytes (suc i)) l.stand_for in (
            subst (λ k. Admitting bytes box k left (set numbers i given) before next last) s
                (record {
                  box_same = ap (λ r. r.box) same ∙ sym (ap (λ r. r.box) o) ∙ a.box_same;
                  numbers_join =
                      ap (λ m. m ++ (rest_admitted bytes (suc i) (contents left)).numbers) (take-suc-set numbers i given h) ∙
                      append_assoc (take i numbers) (given ∷ []) (rest_admitted bytes (suc i) (contents left)).numbers ∙
                      ap (λ r. take i numbers ++ (given ∷ r.numbers)) same ∙
                      ap (λ x. take i numbers ++ (x ∷ (rest_admitted bytes (suc i) after).numbers)) v ∙
                      sym (ap (λ r. take i numbers ++ r.numbers) o) ∙
                      a.numbers_join;
                  reached =
                      reached_as _ (sym (ap (λ r. text_of r.lines) same))
                      (reached_on (line_text (Line.Admit place number t)) (text_of (rest_admitted bytes (suc i) after).lines) room to_print p);
                }),
            l.still_sound,
          )

-- All admissions are done.
pub admit_end :
    (bytes : List ℕ) {box : Box} {i : ℕ} {ws numbers before out : List ℕ} {at : ℕ} → i ≡ length bytes / 16
    → Admitting bytes box i ws numbers before out at
    → Admits (admissions_of bytes box) (length bytes / 16) ws numbers before out at
unfolding admit_all connections_in
admit_end bytes {box} {i} {ws} {numbers} {before} {out} {at} e a =
    let l = length_table connection_at 4 (words_of bytes) 0 (length bytes / 16) in
    let k : i ≡ length (connections_in bytes) = omega (arith, l, e) in
    let none : drop i (connections_in bytes) ≡ [] = ap (λ n. drop n (connections_in bytes)) k ∙ drop-length (connections_in bytes) in
    let o : rest_admitted bytes i (contents ws) ≡ record { lines = []; numbers = []; box = contents ws } =
    ap (λ m. admit_all (suc i) m (contents ws)) none in
    record {
      text = reached_end (reached_as [] (ap (λ r. text_of r.lines) o ∙ text_none) a.reached);
      numbers_are =
          ap (λ n. take n numbers) (sym e) ∙ sym (append-nil (take i numbers)) ∙ sym (ap (λ r. take i numbers ++ r.numbers) o) ∙
          a.numbers_join;
      stand_for = sym (ap (λ r. r.box) o) ∙ a.box_same;
    }
