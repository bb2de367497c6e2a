-- The link read and written: what its words stand for, and that a written link is clear where it is free.
use Prim.Native.Nat.{ℕ, ◌+◌, ◌-◌}
use mathlib.Core.Path.{◌≡◌, refl, sym, ap, ◌∙◌}
use mathlib.Core.Bool.{true, false, cond}
use mathlib.Core.List.{List}
use mathlib.Core.Logic.{⊎_elim}
use native.Mathlib.Omega.{arith}
use lib.ListN.{set}
use lib.Dec.{eqb}
use borrow.Author.Tests.{eqb-true}
use Rattle.laws.specs.Series.{series}
use Rattle.laws.specs.Tests.{every, bool_cases}
use Rattle.meaning.specs.declared.Packet.{Packet}
use Rattle.words.specs.Places.{word, left_at, link_at, lengths_at}
use Rattle.words.specs.Contents.{contents, link_of, packet_at, no_packet}
use Rattle.words.specs.Sound.{zeros, link_clear, Fitting}
use Rattle.words.specs.Changes.{PacketPut}
use Rattle.meaning.specs.declared.Link.{Link}
use Rattle.words.proofs.Storing.{word_same}
use Rattle.words.proofs.ContentsPut.{link_carries}

-- A packet by its numbers.
abbrev packet_of : ℕ → ℕ → ℕ → ℕ → Packet
packet_of s n u a = record { serial = s; connection = n; units = u; arrival = a }

-- A packet whose numbers are 0 is that of a free link.
pub all_zero : (p : Packet) → p.serial ≡ 0 → p.connection ≡ 0 → p.units ≡ 0 → p.arrival ≡ 0 → p ≡ no_packet
all_zero p a b c d =
    ap (λ n. packet_of n p.connection p.units p.arrival) a ∙ ap (λ n. packet_of 0 n p.units p.arrival) b ∙
    ap (λ n. packet_of 0 0 n p.arrival) c ∙ ap (packet_of 0 0 0) d

-- Where no units are left, the link is free.
pub link_free : (ws : List ℕ) → word ws left_at ≡ 0 → (contents ws).link ≡ Link.Free
unfolding contents link_of
link_free ws e = ap (λ n. link_of n (packet_at ws link_at)) e

-- Where units are left, the link carries the packet at its place.
pub link_busy : (ws : List ℕ) → (word ws left_at ≡ 0 → ⊥) → (contents ws).link ≡ Link.Carries (packet_at ws link_at) (word ws left_at)
unfolding contents
link_busy ws e = link_carries (word ws left_at) (packet_at ws link_at) (omega arith)

-- Four words of the link that are 0 are a stretch of zeros.
four_zeros : (ws : List ℕ) → word ws link_at ≡ 0 → word ws (link_at + 1) ≡ 0 → word ws (link_at + 2) ≡ 0 → word ws (link_at + 3) ≡ 0
    → zeros ws link_at (lengths_at - link_at) ≡ true
unfolding zeros series every
four_zeros ws a b c d = rw (a, b, c, d)

-- Units left and their packet, or a free link with no packet, are written so that a free link is clear.
pub link_written : (ws after : List ℕ) (left : ℕ) (p : Packet) → Fitting ws → PacketPut (set ws left_at left) after link_at p
    → (left ≡ 0 → p ≡ no_packet) → link_clear after ≡ true
unfolding link_clear packet_at
link_written ws after left p k w f =
    (let l : word after left_at ≡ left = w.below left_at (omega arith) ∙ word_same ws left_at left left_at (omega (arith, k.enough)) refl in
    ⊎_elim
    (λ (q : eqb (word after left_at) 0 ≡ true).
    (let z = w.packet ∙ f (sym l ∙ eqb-true (word after left_at) 0 q) in
    ap (λ b. cond b (zeros after link_at (lengths_at - link_at)) true) q ∙
    four_zeros after (ap (λ x. x.serial) z) (ap (λ x. x.connection) z) (ap (λ x. x.units) z) (ap (λ x. x.arrival) z)))
    (λ (q : eqb (word after left_at) 0 ≡ false). ap (λ b. cond b (zeros after link_at (lengths_at - link_at)) true) q)
    (bool_cases (eqb (word after left_at) 0)))
