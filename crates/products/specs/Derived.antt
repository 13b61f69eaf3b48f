-- Values that are computed once for each cell, from its midpoint m and radius r. Definitions only.
use Rattle.std.specs.Prelude.{List, ◌≡◌, ℕ, ◌+◌, ◌*◌, ◌^◌, ◌≤◌, ◌<◌, ℤ, pos, length, get_or}
use Rattle.std.proofs.Math.Option.{Option, some}
use Rattle.algebra.specs.Order.{◌≼◌}
use Rattle.rounding.specs.Format.{binary32}
use Rattle.enclosure.specs.Arithmetic.{of}
use Rattle.enclosure.specs.Methods.{part, outer_radius, raised_radius}
use Rattle.binary32.specs.Number.{value_of, Finite, held}

-- |m| + r, rounded up
abbrev pub outer_of : ℤ → ℤ → Option ℤ
outer_of = outer_radius (of binary32)

-- (f × |m|) + r, each step rounded up
abbrev pub raised_of : ℤ → ℤ → ℤ → Option ℤ
raised_of = raised_radius (of binary32)

-- (k + 2) × 2^-24 in units
abbrev pub factor_of : ℕ → ℤ
factor_of k = pos ((k + 2) * 2 ^ 125)

-- p = sign(m) × min(|m|, r), which is exact
abbrev pub part_of : ℤ → ℤ → Option ℤ
part_of m r = some (part m r)

-- the factor as a result that is not none
unfoldable pub raised_factor : ℕ → Option ℤ
raised_factor k = some (factor_of k)

-- the patterns m and r are a finite midpoint and a finite radius that is not negative
pub record MidRad (m r : ℕ) : Type 0 where
  pub mid : Finite m
  pub rad : Finite r
  pub nonneg : pos 0 ≼ value_of r

-- ---- the first count cells

pub record MidRads (count : ℕ) (m r : List ℕ) : Type 0 where
  pub mids : count ≤ length m
  pub rads : count ≤ length r
  pub each : (c : ℕ) → c < count → MidRad (get_or m c 0) (get_or r c 0)

-- `made` holds of each midpoint, each radius and the pattern of p at their place
pub record MadeOf (made : ℕ → ℕ → ℕ → Type 0) (count : ℕ) (m r p : List ℕ) : Type 0 where
  pub long : count ≤ length p
  pub each : (c : ℕ) → c < count → made (get_or m c 0) (get_or r c 0) (get_or p c 0)

-- the first count patterns of p have the values of f for the midpoints and radii in m and r; exponent field 255 means none
pub record Derived (f : ℤ → ℤ → Option ℤ) (count : ℕ) (m r p : List ℕ) : Type 0 where
  pub long : count ≤ length p
  pub each : (c : ℕ) → c < count → held (get_or p c 0) ≡ f (value_of (get_or m c 0)) (value_of (get_or r c 0))
