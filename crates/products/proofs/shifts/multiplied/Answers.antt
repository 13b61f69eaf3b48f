-- `products::shifts::multiplied` meets its contract: the product has 48 digits.
use native.Mathlib.Omega.{arith}
use native.Mathlib.Nat.{mul-le-mul}
use lib.IntN.{◌*ℤ◌}
use mir.Syntax.{w64}
use mir.ValLaws.{to_z-of_z}
use Rattle.algebra.proofs.Absolute.{nat_abs_mul}
use Rattle.algebra.proofs.Machine.{fits_nat_abs}
use Rattle.products.proofs.shifts.multiplied.Goals as goal

pub returns : goal.returns
returns c =
    let a = c.args.a in
    let b = c.args.b in
    rw (to_z-of_z w64 a c.ranges.a, to_z-of_z w64 b c.ranges.b)
    (to_z-of_z w64 (a *ℤ b) (fits_nat_abs (a *ℤ b) (omega (arith, nat_abs_mul a b, mul-le-mul c.requires.0 c.requires.1))))
