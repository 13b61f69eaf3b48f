-- `products::plus::add` meets its contract: by the law `cuts`.
use mathlib.Core.Path.{◌≡◌, sym, subst}
use Prim.Native.Nat.{◌^◌, ◌≤◌}
use native.Mathlib.Omega.{arith}
use lib.IntN.{ℤ, nat_abs}
use mir.Syntax.{w64}
use mir.Val.{to_z, of_z}
use Rattle.binary32.proofs.Ints.{read_small}
use Rattle.unpacked.specs.Cuts.{Cut}
use Rattle.unpacked.proofs.Found.{aligned_form}
use Rattle.products.proofs.plus.add.Goals as goal

plain : (w : ℤ) → nat_abs w ≤ 2 ^ 61 → to_z w64 (of_z w64 w) ≡ w
plain w few = read_small w (omega arith)

pub cut-requires : goal.cut-requires
cut-requires g c =
    let f = aligned_form c.requires c.align-s.result c.align-s.ensures in
    (subst (λ (t : ℤ). nat_abs t ≤ 2 ^ 61) (sym (plain c.align-s.result.w f.0)) f.0, f.1, f.2)

pub returns : goal.returns
returns g c =
    let a = c.align-s.result in
    g.met.D.Short.laws.cuts c.requires a c.align-s.ensures c.cut.result
    (subst (λ (t : ℤ). Cut g.D.Short.part t a.exp c.cut.result) (plain a.w (aligned_form c.requires a c.align-s.ensures).0) c.cut.ensures)
