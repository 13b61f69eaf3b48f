-- `products::short::DownShort::limit` meets its contract: by `limit_fits`, `limit_below` and `limit_above`.
use mathlib.Core.Path.{sym, ◌∙◌, subst}
use mathlib.Core.Bool.{true, false}
use native.Mathlib.Omega.{arith}
use Rattle.algebra.proofs.Machine.{fits_nat_abs}
use Rattle.binary32.proofs.Ints.{test}
use Rattle.unpacked.specs.Number.{worth, Holds}
use Rattle.unpacked.specs.Cuts.{limited}
use Rattle.unpacked.proofs.Limits.{limit_fits, limit_below, limit_above}
use Rattle.products.proofs.short.DownShort.limit.Goals as goal

pub returns-then-fits : goal.returns-then-fits
returns-then-fits c =
    limit_fits c.args.x c.requires.0 (sym c.fits.ensures ∙ c.if-fits.true)

pub returns-then-x-lt0 : goal.returns-then-x-lt0
returns-then-x-lt0 c =
    subst (Holds (limited (worth c.args.x))) (sym c.none.ensures)
    (limit_below c.args.x c.requires.0 (sym c.fits.ensures ∙ c.if-fits.false)
    (test c.args.x.sig (fits_nat_abs c.args.x.sig (omega (arith, c.requires.0.few))) true c.if-x-lt0.true))

pub returns : goal.returns
returns c =
    limit_above c.args.x c.requires.0 (sym c.fits.ensures ∙ c.if-fits.false)
    (test c.args.x.sig (fits_nat_abs c.args.x.sig (omega (arith, c.requires.0.few))) false c.if-x-lt0.false)
