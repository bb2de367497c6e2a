-- What stores of words leave: the word that was stored, the others as they were; a stretch of words that is written at once.
use Prim.Native.Nat.{ℕ, ◌+◌, ◌-◌, ◌≤◌, ◌<◌}
use mathlib.Core.Path.{◌≡◌, refl, sym, ap, ◌∙◌}
use mathlib.Core.List.{List, [], ◌∷◌}
use native.Mathlib.Omega.{arith}
use lib.ListN.{length, set}
use lib.Seq.{get_or-set_same, get_or-set_other}
use borrow.Rule.Slice.PartMut.{put_mid}
use Rattle.std.proofs.Common.{rules, add-zero}
use Rattle.std.proofs.lemmas.List.{places}
use Rattle.meaning.specs.declared.Packet.{Packet}
use Rattle.words.specs.Places.{word}
use Rattle.words.specs.Contents.{packet_at}
use Rattle.words.specs.Changes.{PacketPut}

-- A store changes no other word.
pub word_other : (ws : List ℕ) (i v j : ℕ) → (j ≡ i → ⊥) → word (set ws i v) j ≡ word ws j
word_other ws i v j h = get_or-set_other ws i j v 0 h

-- A stored word is read at its place.
pub word_same : (ws : List ℕ) (i v j : ℕ) → i < length ws → j ≡ i → word (set ws i v) j ≡ v
word_same ws i v j h e = ap (λ k. word (set ws i v) k) e ∙ get_or-set_same ws i v 0 h

-- Words l that are written at word `at` over k words:
module _ (ws l : List ℕ) (at k : ℕ) (h : at + k ≤ length ws) (e : length l ≡ k) where
  -- There are as many words as before.
  pub length_written : length (put_mid at k ws l) ≡ length ws
  length_written = search (rules, places)

  -- They are read there.
  pub word_written : (i : ℕ) → i < k → word (put_mid at k ws l) (at + i) ≡ word l i
  word_written i g = search (rules, places)

  -- The words below stay.
  pub word_below : (i : ℕ) → i < at → word (put_mid at k ws l) i ≡ word ws i
  word_below i g = search (rules, places)

  -- The words above stay.
  pub word_above : (i : ℕ) → at + k ≤ i → word (put_mid at k ws l) i ≡ word ws i
  word_above i g = search (rules, places)

-- Four words written at once are a packet.
pub packet_stored : (ws : List ℕ) (at : ℕ) (p : Packet) {l : List ℕ} → at + 4 ≤ length ws
    → l ≡ p.serial ∷ p.connection ∷ p.units ∷ p.arrival ∷ [] → PacketPut ws (put_mid at (at + 4 - at) ws l) at p
unfolding packet_at
packet_stored ws at p h e =
    let k : at + 4 - at ≡ 4 = omega arith in
    let l = p.serial ∷ p.connection ∷ p.units ∷ p.arrival ∷ [] in
    let first : word (put_mid at 4 ws l) at ≡ p.serial =
    ap (λ i. word (put_mid at 4 ws l) i) (sym (add-zero at)) ∙ word_written ws l at 4 h refl 0 (omega arith) in
    let w = word_written ws l at 4 h refl in
    rw (k, e) (record {
      same_length = length_written ws l at 4 h refl;
      packet = rw (first, w 1 (omega arith), w 2 (omega arith), w 3 (omega arith));
      below = word_below ws l at 4 h refl;
      above = word_above ws l at 4 h refl;
    })
