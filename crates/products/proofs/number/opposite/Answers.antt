-- `products::number::opposite` meets its contract: by `opposite_is`.
use mathlib.Core.Path.{◌≡◌, ap, ◌∙◌}
use native.Mathlib.Omega.{arith}
use lib.IntN.{ℤ, pos, neg_ℤ, ◌-ℤ◌, +ℤ_idl}
use mir.Syntax.{w64}
use mir.Val.{SFits, to_z, of_z}
use mir.ValLaws.{to_z-of_z}
use Rattle.algebra.proofs.Machine.{fits_nat_abs}
use Rattle.rounding.proofs.Sign.{nat_abs_neg}
use Rattle.binary32.proofs.Ints.{read_small}
use Rattle.unpacked.specs.declared.Number.{Number}
use Rattle.unpacked.specs.Number.{Normal}
use Rattle.unpacked.proofs.Opposites.{opposite_is}
use Rattle.products.proofs.number.opposite.Goals as goal

is : (x : Number) → Normal x → pos 0 -ℤ to_z w64 (of_z w64 x.sig) ≡ neg_ℤ x.sig
is x n = +ℤ_idl (neg_ℤ (to_z w64 (of_z w64 x.sig))) ∙ ap neg_ℤ (read_small x.sig (omega (arith, n.few)))

fits : (x : Number) → Normal x → SFits w64 (neg_ℤ x.sig)
fits x n = fits_nat_abs (neg_ℤ x.sig) (omega (arith, nat_abs_neg x.sig, n.few))

pub returns : goal.returns
returns c =
    opposite_is c.args.x _ c.requires (ap (λ (t : ℤ). to_z w64 (of_z w64 t)) (is c.args.x c.requires) ∙ to_z-of_z w64 (neg_ℤ c.args.x.sig) (fits c.args.x c.requires))
