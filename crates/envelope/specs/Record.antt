-- What the functions on an allowance ask of the row that it stands in.
use Rattle.std.specs.Prelude.{ℕ, ◌≤◌, ◌≡◌, true}
use Rattle.meaning.specs.declared.Standing.{Standing}
use Rattle.meaning.specs.Numbers.{last_slot}
use Rattle.meaning.specs.Envelope.{conforms, allowance_kept}

-- What the functions ask: numbers in the ranges of the table, and an allowance in its range at this slot.
pub record Ready (row : Standing) (slot : ℕ) : Type 0 where
  pub burst_most : row.asked.burst ≤ 64
  pub period_least : 1 ≤ row.asked.period
  pub period_most : row.asked.period ≤ 4096
  pub slot_most : slot ≤ last_slot
  pub kept : allowance_kept row.asked slot row.allowance ≡ true

-- What a charge asks: that, and that a packet at this slot conforms.
abbrev pub Chargeable : Standing → ℕ → Type 0
Chargeable row slot = Ready row slot × (conforms row.asked row.allowance slot ≡ true)
