-- The three roundings as they are computed. Definitions only. proofs/Directed and proofs/Nearest show that they have the properties of `Property`.
-- What is rounded is X / D units, with D at least 1: D = 1 for a sum, 2 for a midpoint, `units` for a product of two numbers.
use Rattle.std.specs.Prelude.{cond, ℕ, zero, suc, ◌+◌, ◌*◌, ◌/◌, ◌%◌, ◌^◌, min, leb, ℤ, pos, negsuc, neg_ℤ, nat_abs}
use Rattle.std.proofs.Math.Option.{Option, none, some}
use Rattle.std.specs.Float.Ieee.Nearest.{closest}
use Rattle.rounding.specs.Format.{Format, MAX, expo}

-- ---- rounding a magnitude N / D

-- N / D is rounded to a multiple of 2 ^ ex units, so N to a multiple of `step`
abbrev pub ex : Format → ℕ → ℕ → ℕ
ex f D N = expo f (N / D)

abbrev pub step : Format → ℕ → ℕ → ℕ
step f D N = 2 ^ ex f D N * D

-- 1 where there is a remainder
abbrev pub sticky : ℕ → ℕ
sticky zero = 0
sticky (suc r) = 1

-- a / b, rounded up
unfoldable pub ceil : ℕ → ℕ → ℕ
ceil a b = a / b + sticky (a % b)

-- N / D rounded toward zero
unfoldable pub lo : Format → ℕ → ℕ → ℕ
lo f D N = 2 ^ ex f D N * (N / step f D N)

-- N / D rounded away from zero
unfoldable pub hi : Format → ℕ → ℕ → ℕ
hi f D N = 2 ^ ex f D N * ceil N (step f D N)

-- N / D rounded to nearest, ties to the even multiple of 2 ^ ex
unfoldable pub nr : Format → ℕ → ℕ → ℕ
nr f D N = 2 ^ ex f D N * closest N (step f D N)

-- ---- rounding X / D: a number, or none

-- the result with the other sign; none stays none
abbrev pub negate : Option ℤ → Option ℤ
negate (some v) = some (neg_ℤ v)
negate none = none

-- v with the sign of X
abbrev pub signed : ℤ → ℕ → ℤ
signed (pos n) v = pos v
signed (negsuc n) v = neg_ℤ (pos v)

-- X / D rounded up: the least number not below it; none above MAX, and -MAX for all values below -MAX
unfoldable pub up : Format → ℕ → ℤ → Option ℤ
up f D (pos N) = cond (leb (hi f D N) (MAX f)) (some (pos (hi f D N))) none
up f D (negsuc n) = some (neg_ℤ (pos (min (lo f D (suc n)) (MAX f))))

-- X / D rounded down: the greatest number not above it
unfoldable pub down : Format → ℕ → ℤ → Option ℤ
down f D X = negate (up f D (neg_ℤ X))

-- X / D rounded to nearest
unfoldable pub near : Format → ℕ → ℤ → Option ℤ
near f D X = cond (leb (nr f D (nat_abs X)) (MAX f)) (some (signed X (nr f D (nat_abs X)))) none
