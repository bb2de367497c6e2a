-- The place that C is handed is that of the stretch: "a stretch of the caller's own bytes, empty when there are none".
use Prim.Native.Nat.{ℕ, ◌+◌, ◌-◌, ◌*◌, ◌/◌, ◌≤◌, ◌<◌}
use mathlib.Core.Path.{◌≡◌, sym, ap, ◌∙◌}
use mathlib.Core.List.{List}
use native.Mathlib.Omega.{arith}
use native.Mathlib.Decide.{dec_le}
use lib.ListN.{length, take, drop, length-take}
use lib.Seq.{take-take, take-length}
use borrow.Author.Tests.{eq-eqb, ne_eqb}
use Rattle.plan.specs.Parts.{arrivals_in, boundary, stretch_start, stretch_end, stretch_of}
use Rattle.plan.specs.StretchPlaces.{boundary_within, length_stretch}
use Rattle.plan.proofs.Stretch.{stretch_past}
use Rattle.cabinet.specs.Places.{stretch_first, stretch_size}

module _ (bytes : List ℕ) (from slot : ℕ) where
  -- A stretch that is not empty lies in the table.
  pub stretch_lies :
      0 < stretch_size bytes from slot → 12 * stretch_start bytes from slot + stretch_size bytes from slot ≤ length bytes
  unfolding stretch_size stretch_start stretch_end
  stretch_lies some =
      elim (dec_le from (length bytes / 12)) [
        | yes inside ↦
            let first = boundary_within bytes from slot inside in
            let after = boundary_within bytes (boundary (arrivals_in bytes) from slot) (slot + 1) first.1 in
            omega (arith, length_stretch bytes from slot inside)
        | no outside ↦
            let none : length (stretch_of bytes from slot) ≡ 0 = ap length (sym (stretch_past bytes from slot (omega arith))) in
            absurd (omega arith)
      ]

  -- The first byte of a stretch that is not empty is where it starts.
  pub first_of_some : 0 < stretch_size bytes from slot → 12 * stretch_start bytes from slot ≡ stretch_first bytes from slot
  unfolding stretch_first
  first_of_some some = rw (ne_eqb (stretch_size bytes from slot) 0 (λ none. omega arith))

  -- The first byte of an empty stretch is given as 0.
  pub first_of_none : stretch_size bytes from slot ≡ 0 → 0 ≡ stretch_first bytes from slot
  unfolding stretch_first
  first_of_none none = rw (eq-eqb (stretch_size bytes from slot) 0 none)

  -- So many bytes from where the stretch starts are the stretch.
  whole : take (stretch_size bytes from slot) (drop (12 * stretch_start bytes from slot) bytes) ≡ stretch_of bytes from slot
  unfolding stretch_size stretch_of
  whole =
      let rest = drop (12 * stretch_start bytes from slot) bytes in
      let n = 12 * (stretch_end bytes from slot - stretch_start bytes from slot) in
      sym (take-take (length (take n rest)) n rest (omega (arith, length-take n rest))) ∙ take-length (take n rest)

  -- The bytes at the place that is handed out are the stretch, and they lie in the table.
  pub stretch_there :
      (take (stretch_size bytes from slot) (drop (stretch_first bytes from slot) bytes) ≡ stretch_of bytes from slot) ×
      (stretch_first bytes from slot + stretch_size bytes from slot ≤ length bytes)
  stretch_there =
      elim (dec_le (stretch_size bytes from slot) 0) [
        | yes h ↦
            let none : stretch_size bytes from slot ≡ 0 = omega arith in
            let there : take (stretch_size bytes from slot) (drop (stretch_first bytes from slot) bytes) ≡ stretch_of bytes from slot =
            ap (λ n. take n (drop (stretch_first bytes from slot) bytes)) none ∙
            sym (ap (λ n. take n (drop (12 * stretch_start bytes from slot) bytes)) none) ∙
            whole in
            (there, omega (arith, first_of_none none))
        | no h ↦
            let first = first_of_some (omega arith) in
            (ap (λ n. take (stretch_size bytes from slot) (drop n bytes)) (sym first) ∙ whole, omega (arith, stretch_lies (omega arith)))
      ]
