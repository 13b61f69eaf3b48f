-- Pairs <m, r> of numbers of a format that enclose a range [a, b], and which of them is optimal. Definitions only.
use Rattle.std.specs.Prelude.{ℤ, ◌+ℤ◌, ◌-ℤ◌}
use Rattle.algebra.specs.Order.{◌≼◌}
use Rattle.rounding.specs.Format.{Format, Num}

-- m and r are numbers, and [a, b] lies between m - r and m + r
pub record Enclosing (f : Format) (a b m r : ℤ) : Type 0 where
  pub mid_number : Num f m
  pub rad_number : Num f r
  pub low_reached : m -ℤ r ≼ a
  pub high_reached : b ≼ m +ℤ r

-- <m, r> is such a pair, and no such pair has a smaller radius
pub record Optimal (f : Format) (a b m r : ℤ) : Type 0 where
  pub encloses : Enclosing f a b m r
  pub least : (n s : ℤ) → Enclosing f a b n s → r ≼ s
