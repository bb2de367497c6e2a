-- How far the text of a run has come: the bytes that are put, and those still to come.
use Prim.Native.Nat.{ℕ}
use mathlib.Core.Path.{◌≡◌, refl, sym, ap, ◌∙◌, subst}
use mathlib.Core.List.{List, [], ◌∷◌, ◌++◌, map, flatten, append_assoc, append-nil}
use native.Mathlib.Omega.{arith}
use lib.ListN.{length}
use Rattle.laws.specs.Series.{map-append, flatten_append}
use Rattle.meaning.specs.Lines.{line_text, text_of}
use Rattle.lines.specs.Put.{Room, Put}
use Rattle.lines.proofs.Puts.{put_nothing, then, room_after, room_first, put_length}
use Rattle.meaning.specs.declared.Line.{Line}

-- The text of lines is that of the first, and then that of the others.
pub text_cons : (l : Line) (ls : List Line) → text_of (l ∷ ls) ≡ line_text l ++ text_of ls
unfolding text_of flatten
text_cons l ls = refl

-- The text of a list of one line is the text of that line.
pub text_one : (l : Line) → text_of (l ∷ []) ≡ line_text l
unfolding text_of flatten
text_one l = append-nil (line_text l)

-- No line has no text.
pub text_none : text_of [] ≡ []
unfolding text_of flatten
text_none = refl

-- The text of lines after others comes after theirs.
pub text_append : (a b : List Line) → text_of (a ++ b) ≡ text_of a ++ text_of b
unfolding text_of
text_append a b = ap flatten (map-append line_text a b) ∙ flatten_append (map line_text a) (map line_text b)

-- Of the whole text, which starts at `start`, all but the rest is put, and the rest starts at `at`.
pub record Reached (before now : List ℕ) (start : ℕ) (whole rest : List ℕ) (at : ℕ) : Type 0 where
  pub done : List ℕ
  pub put : Put before now start done at
  pub joins : done ++ rest ≡ whole

-- An empty text is put by doing nothing.
pub put_none : (out : List ℕ) (at : ℕ) → Put out out at [] at
put_none out at = record { bytes = sym (put_nothing out at); place = omega arith }

-- At the start nothing is put and the whole is the rest.
pub reached_start : (out : List ℕ) (start : ℕ) (whole : List ℕ) → Reached out out start whole whole start
reached_start out start whole = record { done = []; put = put_none out start; joins = refl }

-- The rest, said in another way.
pub reached_as :
    {before now : List ℕ} {start : ℕ} {whole rest : List ℕ} {at : ℕ} (other : List ℕ) → rest ≡ other
    → Reached before now start whole rest at
    → Reached before now start whole other at
reached_as {before} {now} {start} {whole} {rest} {at} other e r = subst (λ l. Reached before now start whole l at) e r

-- Where no rest is left the whole is put.
pub reached_end : {before now : List ℕ} {start : ℕ} {whole : List ℕ} {at : ℕ}
    → Reached before now start whole [] at → Put before now start whole at
reached_end {before} {now} {start} {whole} {at} r =
    subst (λ l. Put before now start l at) (sym (append-nil r.done) ∙ r.joins) r.put

module _ {before now : List ℕ} {start : ℕ} {whole rest : List ℕ} {at : ℕ}
    (room : Room before start whole) (r : Reached before now start whole rest at)
  where
    -- the room, said of what is put and of the rest
    room_joined : Room before start (r.done ++ rest)
    room_joined = subst (λ l. Room before start l) (sym r.joins) room

    -- there is room for the rest
    pub reached_room : Room now at rest
    reached_room = room_after rest r.put room_joined

    -- the buffer has the same length
    pub reached_length : length now ≡ length before
    reached_length = put_length r.put (room_first before start r.done rest room_joined)

    -- Once the rest is put too, the whole text is put.
    pub reached_last : {out : List ℕ} {next : ℕ} → Put now out at rest next → Put before out start whole next
    reached_last {out} {next} p = subst (λ l. Put before out start l next) r.joins (then r.put p room_joined)

module _ {before now : List ℕ} {start : ℕ} {whole : List ℕ} (s rest : List ℕ) {at : ℕ}
    (room : Room before start whole) (r : Reached before now start whole (s ++ rest) at)
  where
    -- the whole is what is put, the next piece and the rest
    joins_on : (r.done ++ s) ++ rest ≡ whole
    joins_on = append_assoc r.done s rest ∙ r.joins

    -- there is room for the next piece
    pub reached_next : Room now at s
    reached_next = room_first now at s rest (reached_room room r)

    -- Once the next piece is put, the text is reached as far as its end.
    pub reached_on : {out : List ℕ} {next : ℕ} → Put now out at s next → Reached before out start whole rest next
    reached_on p =
        record {
          done = r.done ++ s;
          put = then r.put p (room_first before start (r.done ++ s) rest (subst (λ l. Room before start l) (sym joins_on) room));
          joins = joins_on;
        }
