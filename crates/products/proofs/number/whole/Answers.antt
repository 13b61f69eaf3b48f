-- `products::number::whole` meets its contract: by `whole_holds`.
use mathlib.Core.Path.{◌≡◌, ap, ◌∙◌, subst}
use Prim.Native.Nat.{◌^◌}
use lib.IntN.{ℤ, pos, ◌*ℤ◌}
use mir.Syntax.{w64}
use mir.Val.{to_z, of_z}
use mir.ValLaws.{to_z-of_z}
use Rattle.binary32.proofs.Ints.{read}
use Rattle.unpacked.specs.Cuts.{CutDown}
use Rattle.unpacked.proofs.CutSums.{whole_holds}
use Rattle.products.proofs.number.whole.Goals as goal

pub returns : goal.returns
returns c =
    let z = c.args.z in
    let is : to_z w64 (of_z w64 c.raised.result) ≡ z *ℤ pos (2 ^ 36) =
    read c.raised.result c.raised.type_inv ∙ c.raised.ensures ∙ ap (λ (t : ℤ). t *ℤ pos (2 ^ 36)) (to_z-of_z w64 z c.ranges.z) in
    whole_holds z c.cut.result c.requires (subst (λ (t : ℤ). CutDown t 400 c.cut.result) is c.cut.ensures)
