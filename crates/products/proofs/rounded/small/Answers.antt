-- `products::rounded::small` meets its contract: by the law `units`.
use mathlib.Core.Path.{◌≡◌, ap₂, ◌∙◌, subst}
use mathlib.Core.Option.{some}
use Prim.Native.Nat.{ℕ, ◌^◌, ◌≤◌, ◌<◌}
use native.Mathlib.Omega.{arith}
use lib.IntN.{ℤ, nat_abs}
use lib.Signed.{mag}
use mir.Syntax.{w64}
use mir.Val.{to_z, of_z}
use Rattle.binary32.proofs.Ints.{read, read_small}
use Rattle.unpacked.specs.Number.{Holds}
use Rattle.products.proofs.rounded.small.Goals as goal

-- the units, read back
units_are : (part : ℤ → ℕ → ℤ) (s v : ℤ) (d n : ℕ) → nat_abs s ≤ 2 ^ 48 → d ≡ n → mag v < 2 ^ 63 → v ≡ part (to_z w64 (of_z w64 s)) (2 ^ d)
    → to_z w64 (of_z w64 v) ≡ part s (2 ^ n)
units_are part s v d n h k t e = read v t ∙ e ∙ ap₂ (λ (a : ℤ) (b : ℕ). part a (2 ^ b)) (read_small s (omega (arith, h))) k

pub returns : goal.returns
returns g c = λ X i.
    let is = units_are g.D.Short.part c.args.p.sig c.shorten.result c.min.result _ c.requires.0 c.min.ensures c.shorten.type_inv c.shorten.ensures in
    g.met.D.Short.laws.units c.args.p c.requires.0 c.requires.1 X i c.whole.result (subst (λ (t : ℤ). Holds (some t) c.whole.result) is c.whole.ensures)
