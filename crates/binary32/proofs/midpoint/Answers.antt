-- `binary32::midpoint`: `checked` turns what `partial::midpoint` holds, a number or none, into the answer (`answered`).
use lib.Dec.{lit<}
use Rattle.std.proofs.Common.{◌+ℤ◌}
use Rattle.binary32.proofs.Exacts.{answered}
use Rattle.binary32.proofs.midpoint.Goals as goal

pub returns : goal.returns
returns g c = answered g.met.D.Direction.laws 2 ◌+ℤ◌ c.args.a c.args.b (lit< tt) c.checked.ensures c.midpoint.ensures
