-- Fractions, any whole number, negative and zero too, over a whole number above zero, and the test that a fraction lies in an interval. Definitions only.
use Rattle.std.specs.Prelude.{ℕ, zero, suc, ◌*◌, ◌<◌, ℤ, pos, ◌+ℤ◌, ◌*ℤ◌}
use Rattle.std.proofs.Common.{mul-pos, lit<}
use Rattle.algebra.specs.Order.{◌≼◌}

-- num / den, not reduced
pub record Fraction : Type 0 where
  pub num : ℤ
  pub den : ℕ
  pub above : 0 < den

-- sum and product
infixl 6 ◌⊹◌
infixl 7 ◌⊛◌
unfoldable pub ◌⊹◌ : Fraction → Fraction → Fraction
x ⊹ y = record { num = x.num *ℤ pos y.den +ℤ y.num *ℤ pos x.den; den = x.den * y.den; above = mul-pos x.above y.above }

unfoldable pub ◌⊛◌ : Fraction → Fraction → Fraction
x ⊛ y = record { num = x.num *ℤ y.num; den = x.den * y.den; above = mul-pos x.above y.above }

-- x 0 + .. + x (n - 1)
unfoldable pub fsum : ℕ → (ℕ → Fraction) → Fraction
fsum zero x = record { num = pos 0; den = 1; above = lit< tt }
fsum (suc n) x = fsum n x ⊹ x n

-- l / Q ≤ x ≤ u / Q: the bounds l and u are in units, of which Q make 1. The same test serves a pick from a cell and a sum in an entry
pub record In (Q : ℕ) (l u : ℤ) (x : Fraction) : Type 0 where
  pub not_below : l *ℤ pos x.den ≼ x.num *ℤ pos Q
  pub not_above : x.num *ℤ pos Q ≼ u *ℤ pos x.den
