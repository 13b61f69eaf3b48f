-- `products::plus::plus` meets its contract: by the law `sums`.
use Rattle.unpacked.proofs.Partials.{summands}
use Rattle.products.proofs.plus.plus.Goals as goal

pub add-requires : goal.add-requires
add-requires g c = summands c.args.s c.args.y c.requires.0 c.requires.1

pub returns : goal.returns
returns g c =
    g.met.D.Short.laws.sums c.args.s c.args.y c.add.result c.limit_sum.result c.requires.0 c.add.ensures c.limit_sum.ensures
