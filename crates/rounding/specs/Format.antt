-- A binary floating-point format and its numbers, as integers. Definitions only.
-- A number is a whole number of units; the unit is the smallest positive number of the format.
use Rattle.std.specs.Prelude.{◌≡◌, ℕ, ◌-◌, ◌*◌, ◌^◌, ◌≤◌, ◌<◌, ℤ, nat_abs}
use Rattle.std.proofs.Common.{lit≤}
use Rattle.std.specs.Float.Ieee.{size}

-- a number is a significand of `prec` bits, shifted up by at most `top` places, in units of 2 ^ -`unit`
pub record Format : Type 0 where
  pub prec : ℕ
  pub unit : ℕ
  pub top : ℕ
  pub enough : 2 ≤ prec

abbrev pub binary32 : Format
binary32 = record { prec = 24; unit = 149; top = 253; enough = lit≤ tt }

abbrev pub binary64 : Format
binary64 = record { prec = 53; unit = 1074; top = 2045; enough = lit≤ tt }

-- how many units make 1; a product of two numbers is a whole number of 1 / `units` of a unit
abbrev pub units : Format → ℕ
units f = 2 ^ f.unit

-- 2 ^ (prec - 1): the least significand of `prec` bits
abbrev pub half : Format → ℕ
half f = 2 ^ (f.prec - 1)

-- the largest number: all bits of the significand are 1, and the shift is `top`
unfoldable pub MAX : Format → ℕ
MAX f = (2 ^ f.prec - 1) * 2 ^ f.top

-- ---- the numbers of a format

-- v is a significand, shifted by any number of places: a number of the format without the upper limit
pub record Form (f : Format) (v : ℕ) : Type 0 where
  pub significand : ℕ
  pub shift : ℕ
  pub few : significand < 2 ^ f.prec
  pub is : v ≡ significand * 2 ^ shift

-- a finite number of the format
pub record Num (f : Format) (v : ℤ) : Type 0 where
  pub form : Form f (nat_abs v)
  pub within : nat_abs v ≤ MAX f

-- ---- the distance of neighbouring numbers

-- how many more bits than `prec` n has; 0 where it has no more
unfoldable pub expo : Format → ℕ → ℕ
expo f n = size n - f.prec

-- the distance from the number v to the next one of larger magnitude, its ulp (proved in proofs/Spacing)
abbrev pub spacing : Format → ℤ → ℕ
spacing f v = 2 ^ expo f (nat_abs v)
