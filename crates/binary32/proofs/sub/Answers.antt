-- `binary32::sub`: `checked` turns what `partial::sub` holds, a number or none, into the answer (`answered`).
use lib.Dec.{lit<}
use Rattle.std.proofs.Common.{◌-ℤ◌}
use Rattle.binary32.proofs.Exacts.{answered}
use Rattle.binary32.proofs.sub.Goals as goal

pub returns : goal.returns
returns g c = answered g.met.D.Direction.laws 1 ◌-ℤ◌ c.args.a c.args.b (lit< tt) c.checked.ensures c.sub.ensures
