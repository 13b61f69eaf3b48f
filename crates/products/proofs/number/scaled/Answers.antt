-- `products::number::scaled` meets its contract: by `scaled_is`.
use mathlib.Core.Path.{subst, sym}
use Prim.Native.Nat.{◌+◌}
use native.Mathlib.Omega.{arith}
use lib.IntN.{ℤ}
use Rattle.binary32.proofs.Ints.{read_small}
use Rattle.unpacked.specs.Number.{Scaled}
use Rattle.unpacked.proofs.Scaling.{scaled_is}
use Rattle.products.proofs.number.scaled.Goals as goal

pub returns : goal.returns
returns c =
    let a = c.args in
    subst (λ (z : ℤ). Scaled a.x a.n (record { sig = z; exp = a.x.exp + a.n })) (sym (read_small a.x.sig (omega (arith, c.requires.0.few)))) (scaled_is a.x a.n c.requires.0 c.requires.1)
