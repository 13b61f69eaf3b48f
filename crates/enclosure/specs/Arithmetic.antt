-- The rounded arithmetic that the methods use: three roundings of X / D units, and the constants of methods 3 and 5. Definitions only.
-- The methods are defined for any such arithmetic; `of` gives that of a number format.
use Rattle.std.proofs.Math.Option.{Option}
use Rattle.std.specs.Prelude.{ℕ, ◌-◌, ◌^◌, ℤ}
use Rattle.rounding.specs.Format as Format
use Rattle.rounding.specs.Format.{Format}
use Rattle.rounding.specs.Rounding as Rounding

pub record Arithmetic : Type 0 where
  -- X / D rounded up, down and to nearest, in units; none where the result is too large
  pub up : ℕ → ℤ → Option ℤ
  pub down : ℕ → ℤ → Option ℤ
  pub near : ℕ → ℤ → Option ℤ
  -- how many units make 1
  pub units : ℕ
  -- 2 ^ -prec in units: 2 ^ -24 for binary32
  pub eps : ℕ
  -- the constant that method 3 adds to a radius: 2 ^ prec units, 2 ^ -125 for binary32
  pub tiny : ℕ
  -- the distance from a number to the next one of larger magnitude, in units
  pub spacing : ℤ → ℕ
  -- the constant that method 5 adds to its bound on the error: the least normal number, 2 ^ (prec - 1) units, 2 ^ -126 for binary32
  pub normal : ℕ

-- the arithmetic of a format whose unit is at most 2 ^ -prec
abbrev pub of : Format → Arithmetic
of f =
    record {
      up = λ D X. Rounding.up f D X;
      down = λ D X. Rounding.down f D X;
      near = λ D X. Rounding.near f D X;
      units = Format.units f;
      eps = 2 ^ (f.unit - f.prec);
      tiny = 2 ^ f.prec;
      spacing = λ v. Format.spacing f v;
      normal = Format.half f;
    }
