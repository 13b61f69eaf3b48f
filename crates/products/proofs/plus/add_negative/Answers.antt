-- `products::plus::add_negative` meets its contract: by the law `fills`.
use mathlib.Core.Path.{◌≡◌, sym, subst}
use Prim.Native.Nat.{◌^◌, ◌≤◌}
use native.Mathlib.Omega.{arith}
use lib.IntN.{ℤ, nat_abs}
use mir.Syntax.{w64}
use mir.Val.{to_z, of_z}
use Rattle.binary32.proofs.Ints.{read_small}
use Rattle.unpacked.specs.Cuts.{Filled, CutFilled}
use Rattle.unpacked.proofs.Found.{aligned_form, negative_form}
use Rattle.products.proofs.plus.add_negative.Goals as goal

plain : (w : ℤ) → nat_abs w ≤ 2 ^ 61 → to_z w64 (of_z w64 w) ≡ w
plain w few = read_small w (omega arith)

pub cut_negative-requires : goal.cut_negative-requires
cut_negative-requires g c =
    let p = c.requires in
    let a = c.align-s.result in
    let f = aligned_form p.0 a c.align-s.ensures in
    (subst (λ (t : ℤ). Filled t a.exp) (sym (plain a.w f.0)) (negative_form p.0 a c.align-s.ensures p.1 p.2), f.2)

pub returns : goal.returns
returns g c =
    let p = c.requires in
    let a = c.align-s.result in
    g.met.D.Short.laws.fills p.0 a c.align-s.ensures p.1 p.2 c.cut_negative.result
    (subst (λ (t : ℤ). CutFilled g.D.Short.part t a.exp c.cut_negative.result) (plain a.w (aligned_form p.0 a c.align-s.ensures).0) c.cut_negative.ensures)
