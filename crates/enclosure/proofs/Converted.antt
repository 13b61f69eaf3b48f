-- All that enclosure and width ask of a conversion to midpoint and radius: `Conversion` shows it of the one in use.
use Prim.Native.Nat.{ℕ, ◌+◌, ◌*◌, ◌≤◌, ◌<◌}
use lib.IntN.{pos, nat_abs, ◌+ℤ◌, ◌*ℤ◌, ◌-ℤ◌}
use Rattle.algebra.specs.Order.{◌≼◌}
use Rattle.algebra.specs.Absolute.{abs}
use Rattle.algebra.proofs.Order.{≼_trans}
use Rattle.enclosure.specs.Cell.{Cell}
use Rattle.enclosure.proofs.Within.{Within}

-- The midpoint lies in the cell, and midpoint and radius cover it. The midpoint is off by at most a P-th of itself and a unit; the radius
-- exceeds half the width, and what the midpoint is off, by at most a P-th.
pub record Converted (P : ℕ) (c : Cell) : Type 0 where
  pub mid_above : c.low ≼ c.mid
  pub mid_below : c.mid ≼ c.high
  pub rad_nonneg : pos 0 ≼ c.rad
  pub covers_low : c.mid -ℤ c.rad ≼ c.low
  pub covers_high : c.high ≼ c.mid +ℤ c.rad
  pub centred : P * nat_abs (pos 2 *ℤ c.mid -ℤ (c.low +ℤ c.high)) ≤ nat_abs (c.low +ℤ c.high) + P
  pub tight : pos (2 * P) *ℤ c.rad ≼ pos (P + 1) *ℤ ((c.high -ℤ c.low) +ℤ abs (pos 2 *ℤ c.mid -ℤ (c.low +ℤ c.high)))

-- each of k cells
abbrev pub EachConverted : (P k : ℕ) → (ℕ → Cell) → Type 0
EachConverted P k a = (l : ℕ) → l < k → Converted P (a l)

module _ {P : ℕ} {c : Cell} (o : Converted P c) where
  pub bounds_ordered : c.low ≼ c.high
  bounds_ordered = ≼_trans o.mid_above o.mid_below

  pub low_within : Within c.mid c.rad c.low
  low_within = record { not_under = o.covers_low; not_over = ≼_trans bounds_ordered o.covers_high }

  pub high_within : Within c.mid c.rad c.high
  high_within = record { not_under = ≼_trans o.covers_low bounds_ordered; not_over = o.covers_high }
