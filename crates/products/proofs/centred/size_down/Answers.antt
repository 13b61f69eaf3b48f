-- `products::centred::size_down` meets its contract: by its test of the sign.
use mathlib.Core.Bool.{true, false}
use native.Mathlib.Omega.{arith}
use Rattle.algebra.proofs.Machine.{fits_nat_abs}
use Rattle.binary32.proofs.Ints.{test}
use Rattle.products.proofs.Continuing.{size_below, size_above}
use Rattle.products.proofs.centred.size_down.Goals as goal

pub returns-then-p-lt0 : goal.returns-then-p-lt0
returns-then-p-lt0 c =
    let p = c.args.p in
    size_below p _ (test p.sig (fits_nat_abs p.sig (omega (arith, c.requires.0.few))) true c.if-p-lt0.true) c.requires.2

pub returns : goal.returns
returns c =
    let p = c.args.p in
    size_above p _ (test p.sig (fits_nat_abs p.sig (omega (arith, c.requires.0.few))) false c.if-p-lt0.false) c.requires.1
