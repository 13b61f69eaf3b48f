-- `binary32::mul`: `checked` turns what `partial::mul` holds, a number or none, into the answer (`answered`).
use lib.Pow.{pow_pos}
use Rattle.std.proofs.Common.{◌*ℤ◌, ◌^◌}
use Rattle.binary32.proofs.Exacts.{answered}
use Rattle.binary32.proofs.mul.Goals as goal

pub returns : goal.returns
returns g c = answered g.met.D.Direction.laws (2 ^ 149) ◌*ℤ◌ c.args.a c.args.b (pow_pos 149) c.checked.ensures c.mul.ensures
