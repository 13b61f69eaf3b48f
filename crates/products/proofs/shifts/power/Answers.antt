-- `products::shifts::power` meets its contract: for n up to 62 the shifted bit is 2 ^ n (`shifted`), which fits.
use Prim.Native.Nat.{◌^◌, ◌<◌}
use native.Mathlib.Omega.{arith}
use lib.Pow.{pow-lt}
use mir.Syntax.{w64}
use mir.ValLaws.{to_z_pos}
use Rattle.binary32.proofs.Rests.{shifted}
use Rattle.products.proofs.shifts.power.Goals as goal

pub returns : goal.returns
returns c =
    let below : 2 ^ c.args.n < 2 ^ 63 = pow-lt {i = c.args.n} {j = 63} (omega (arith, c.requires)) in
    rw (shifted c.args.n c.requires) (to_z_pos w64 (2 ^ c.args.n) (omega (arith, below)))
