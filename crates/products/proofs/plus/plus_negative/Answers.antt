-- `products::plus::plus_negative` meets its contract: by the law `sums`.
use Rattle.unpacked.proofs.Partials.{summands}
use Rattle.products.proofs.plus.plus_negative.Goals as goal

pub add_negative-requires : goal.add_negative-requires
add_negative-requires g c = (summands c.args.s c.args.y c.requires.0 c.requires.1, c.requires.2, c.requires.3)

pub returns : goal.returns
returns g c =
    g.met.D.Short.laws.sums c.args.s c.args.y c.add_negative.result c.limit_sum.result c.requires.0 c.add_negative.ensures c.limit_sum.ensures
