-- `products::derived::raised_radius` meets its contract.
use Rattle.products.proofs.Derivations.{raised_held}
use Rattle.products.proofs.derived.raised_radius.Goals as goal

pub returns : goal.returns
returns c = raised_held c.args.m c.args.r c.add.result c.args.c c.magnitude.result c.mul.result c.requires c.magnitude.ensures c.mul.ensures c.add.ensures
