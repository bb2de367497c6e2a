-- Laws of bytes put into a buffer: one after another, and one byte.
use Prim.Native.Nat.{ℕ, suc, ◌+◌, ◌/◌, ◌%◌, ◌≤◌, ◌<◌}
use mathlib.Core.Path.{◌≡◌, refl, sym, ap, ◌∙◌, subst}
use mathlib.Core.List.{List, [], ◌∷◌, ◌++◌, append_assoc}
use native.Mathlib.Omega.{arith}
use lib.ListN.{length, take, drop, set, length-append, take-append-drop}
use lib.Seq.{set_split, take_at, drop_at, length-take-le, drop-drop, take-length, paste, length-paste}
use Rattle.meaning.specs.Lines.{digit, decimal}
use Rattle.meaning.proofs.Decimal.{decimal_small, decimal_large}
use Rattle.lines.specs.Put.{put_at, Room, Put}

-- Bytes that are pasted whole are put.
pub put_paste : (out : List ℕ) (at : ℕ) (s : List ℕ) → paste out at s (length s) ≡ put_at out at s
unfolding put_at
put_paste out at s = ap (λ l. take at out ++ l ++ drop (at + length s) out) (take-length s)

-- Putting bytes for which there is room keeps the length.
pub length_put : (out : List ℕ) (at : ℕ) (s : List ℕ) → Room out at s → length (put_at out at s) ≡ length out
length_put out at s h = ap length (sym (put_paste out at s)) ∙ length-paste out at s (length s) h (omega arith)

-- Storing one byte puts it.
pub put_one : (out : List ℕ) (at v : ℕ) → at < length out → set out at v ≡ put_at out at (v ∷ [])
unfolding put_at
put_one out at v h =
    set_split out at v h ∙ (let e : suc at ≡ at + 1 = omega arith in ap (λ k. take at out ++ v ∷ drop k out) e) ∙
    sym (append_assoc (take at out) (v ∷ []) (drop (at + 1) out))

-- Putting nothing changes nothing.
pub put_nothing : (out : List ℕ) (at : ℕ) → put_at out at [] ≡ out
unfolding put_at
put_nothing out at =
    let e : at + 0 ≡ at = omega arith in
    append_assoc (take at out) [] (drop (at + 0) out) ∙ ap (λ k. take at out ++ drop k out) e ∙ take-append-drop at out

-- Putting bytes and then others behind them puts both.
pub put_put : (out : List ℕ) (at : ℕ) (s t : List ℕ) → at + length s + length t ≤ length out
    → put_at (put_at out at s) (at + length s) t ≡ put_at out at (s ++ t)
unfolding put_at
put_put out at s t h =
    let front : length (take at out ++ s) ≡ at + length s =
    length-append (take at out) s ∙ ap (λ k. k + length s) (length-take-le at out (omega arith)) in
    let a : take (at + length s) (take at out ++ s ++ drop (at + length s) out) ≡ take at out ++ s =
    take_at (take at out ++ s) (drop (at + length s) out) (at + length s) front in
    let b : drop (at + length s + length t) (take at out ++ s ++ drop (at + length s) out) ≡ drop (at + length s + length t) out =
    sym (drop-drop (length t) (at + length s) (take at out ++ s ++ drop (at + length s) out)) ∙
    ap (drop (length t)) (drop_at (take at out ++ s) (drop (at + length s) out) (at + length s) front) ∙
    drop-drop (length t) (at + length s) out in
    let e : at + length s + length t ≡ at + length (s ++ t) = (let l = length-append s t in omega arith) in
    ap (λ l. l ++ t ++ drop (at + length s + length t) (take at out ++ s ++ drop (at + length s) out)) a ∙
    ap (λ l. take at out ++ s ++ t ++ l) b ∙
    ap (λ k. take at out ++ s ++ t ++ drop k out) e ∙
    ap (λ l. l ++ drop (at + length (s ++ t)) out) (append_assoc (take at out) s t)

-- One put after another.
pub then : {a b c : List ℕ} {at next last : ℕ} {s t : List ℕ} → Put a b at s next → Put b c next t last → Room a at (s ++ t)
    → Put a c at (s ++ t) last
then {a} {b} {c} {at} {next} {last} {s} {t} p q h =
    let n = p.place in
    let l = length-append s t in
    let m = q.place in
    record {
      bytes =
          q.bytes ∙ ap (λ k. put_at b k t) n ∙ ap (λ o. put_at o (at + length s) t) p.bytes ∙ put_put a at s t (omega arith);
      place = omega arith;
    }

-- The room for the second of two, once the first is put.
pub room_after : {a b : List ℕ} {at next : ℕ} {s : List ℕ} (t : List ℕ) → Put a b at s next → Room a at (s ++ t) → Room b next t
room_after {a} {b} {at} {next} {s} t p h =
    let n = p.place in
    let l = length-append s t in
    let e : length b ≡ length a = ap length p.bytes ∙ length_put a at s (omega arith) in
    omega arith

-- Room for two is room for the first.
pub room_first : (a : List ℕ) (at : ℕ) (s t : List ℕ) → Room a at (s ++ t) → Room a at s
room_first a at s t h = let l = length-append s t in omega arith

-- A buffer into which bytes that fit were put is as long as before.
pub put_length : {a b : List ℕ} {at next : ℕ} {s : List ℕ} → Put a b at s next → Room a at s → length b ≡ length a
put_length {a} {b} {at} {next} {s} p h = ap length p.bytes ∙ length_put a at s h

-- A byte that is stored is put, and the text ends one byte on.
pub put_byte : (out : List ℕ) (at v : ℕ) → Room out at (v ∷ []) → Put out (set out at v) at (v ∷ []) (at + 1)
put_byte out at v h = record { bytes = put_one out at v (omega arith); place = refl }

-- Numbers: below ten, and from ten on.
module _ (out : List ℕ) (at n : ℕ) (room : Room out at (decimal n)) where
  -- There is room for the digit of a number below ten.
  pub small_room : n < 10 → Room out at ((48 + n) ∷ [])
  unfolding digit
  small_room h = subst (λ l. Room out at l) (decimal_small n h) room

  -- Storing the digit of a number below ten puts the number.
  pub small_put : n < 10 → Put out (set out at (48 + n)) at (decimal n) (at + 1)
  unfolding digit
  small_put h = subst (λ l. Put out (set out at (48 + n)) at l (at + 1)) (sym (decimal_small n h)) (put_byte out at (48 + n) (small_room h))

  -- The digits of the number divided by ten.
  abbrev digits : List ℕ
  digits = decimal (n / 10)

  -- There is room for them and the last digit.
  large_room : 10 ≤ n → Room out at (digits ++ ((48 + n % 10) ∷ []))
  unfolding digit
  large_room h = subst (λ l. Room out at l) (decimal_large n h) room

  -- There is room for the digits of a tenth of the number.
  pub tenth_room : 10 ≤ n → Room out at (decimal (n / 10))
  tenth_room h = room_first out at digits ((48 + n % 10) ∷ []) (large_room h)

  module _ {after : List ℕ} {last : ℕ} (p : Put out after at (decimal (n / 10)) last) (h : 10 ≤ n) where
    -- Then there is room for the last digit.
    pub last_room : last + 1 ≤ length after
    last_room = room_after ((48 + n % 10) ∷ []) p (large_room h)

    -- After the digits of a tenth the buffer is as long as before.
    pub large_length : length after ≡ length out
    large_length = put_length p (tenth_room h)

    -- They and the last digit put the number.
    pub large_put : Put out (set after last (48 + n % 10)) at (decimal n) (last + 1)
    unfolding digit
    large_put =
        subst (λ l. Put out (set after last (48 + n % 10)) at l (last + 1)) (sym (decimal_large n h))
        (then p (put_byte after last (48 + n % 10) last_room) (large_room h))
