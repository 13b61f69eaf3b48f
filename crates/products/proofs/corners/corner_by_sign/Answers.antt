-- `products::corners::corner_by_sign` meets its contract: by its test of the sign.
use mathlib.Core.Bool.{true, false}
use native.Mathlib.Omega.{arith}
use Rattle.algebra.proofs.Machine.{fits_nat_abs}
use Rattle.binary32.proofs.Ints.{test}
use Rattle.unpacked.proofs.CornerSteps.{by_sign_is}
use Rattle.products.proofs.corners.corner_by_sign.Goals as goal

pub returns-then-x-lt0 : goal.returns-then-x-lt0
returns-then-x-lt0 c =
    let x = c.args.x.sig in
    by_sign_is _ _ c.requires.0 true (test x (fits_nat_abs x (omega (arith, c.requires.0.normal.few))) true c.if-x-lt0.true) c.corner_of.ensures

pub returns-else-x-lt0 : goal.returns-else-x-lt0
returns-else-x-lt0 c =
    let x = c.args.x.sig in
    by_sign_is _ _ c.requires.0 false (test x (fits_nat_abs x (omega (arith, c.requires.0.normal.few))) false c.if-x-lt0.false) c.corner_of-else-x-lt0.ensures
