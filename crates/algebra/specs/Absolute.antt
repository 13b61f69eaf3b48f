-- The absolute value as an integer. Definitions only.
-- It is `pos` of a natural number, so the decision procedure `omega` knows that it is not negative, and neither is a product of two of them.
use Rattle.std.specs.Prelude.{ℤ, pos, nat_abs}

abbrev pub abs : ℤ → ℤ
abs x = pos (nat_abs x)
