-- A cell (interval), its largest magnitude, and the least and the greatest corner product of two cells, all exact. Definitions only.
use Rattle.std.specs.Prelude.{ℕ, max, ℤ, nat_abs, ◌*ℤ◌}
use Rattle.algebra.specs.Extremes.{least₄, greatest₄}

-- the bounds of a cell, and its midpoint and radius, all in units
pub record Cell : Type 0 where
  pub low : ℤ
  pub high : ℤ
  pub mid : ℤ
  pub rad : ℤ

-- the larger of the magnitudes of the two bounds
unfoldable pub largest : Cell → ℕ
largest c = max (nat_abs c.low) (nat_abs c.high)

-- the least and the greatest of the four corner products: each bound of a times each bound of b
unfoldable pub least_corner : Cell → Cell → ℤ
least_corner a b = least₄ (a.low *ℤ b.low) (a.low *ℤ b.high) (a.high *ℤ b.low) (a.high *ℤ b.high)

unfoldable pub greatest_corner : Cell → Cell → ℤ
greatest_corner a b = greatest₄ (a.low *ℤ b.low) (a.low *ℤ b.high) (a.high *ℤ b.low) (a.high *ℤ b.high)
