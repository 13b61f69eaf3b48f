-- `binary32::exact::times` meets its contract: the product of two numbers of 24 digits fits, and is exact (`product_is`).
use mathlib.Core.Path.{◌≡◌, ap, ap₂, ◌∙◌}
use native.Mathlib.Omega.{arith}
use lib.IntN.{ℤ, ◌*ℤ◌}
use mir.Syntax.{w64}
use mir.Val.{SFits, of_z, to_z}
use mir.ValLaws.{to_z-of_z}
use Rattle.algebra.proofs.Machine.{fits_nat_abs}
use Rattle.binary32.proofs.Ints.{read_small}
use Rattle.binary32.proofs.Products.{product_short, product_is}
use Rattle.binary32.proofs.exact.times.Goals as goal

pub returns : goal.returns
returns c =
    let x = c.args.x.sig in
    let y = c.args.y.sig in
    let short = c.requires in
    let is : to_z w64 (of_z w64 x) *ℤ to_z w64 (of_z w64 y) ≡ x *ℤ y =
    ap₂ ◌*ℤ◌ (read_small x (omega (arith, short.first.few))) (read_small y (omega (arith, short.second.few))) in
    let fits : SFits w64 (x *ℤ y) = fits_nat_abs _ (omega (arith, product_short x y short.first.few short.second.few)) in
    product_is short.first short.second _ (ap (λ (t : ℤ). to_z w64 (of_z w64 t)) is ∙ to_z-of_z w64 _ fits)
