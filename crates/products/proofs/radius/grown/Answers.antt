-- `products::radius::grown` meets its contract: the product of what is read from the magnitudes is exact, and the radius takes it, rounded up.
use Rattle.rounding.specs.Rounding.{up, negate}
use Rattle.binary32.specs.Operations.{mul, with₂}
use Rattle.binary32.specs.Order.{magnitude_of}
use Rattle.unpacked.specs.Number.{Holds}
use Rattle.unpacked.specs.Exact.{Exactly}
use Rattle.unpacked.proofs.Multiplying.{exactly_of}
use Rattle.unpacked.proofs.RoundedProducts.{exactly_formed, up_exactly}
use Rattle.products.proofs.Radii.{by_sizes, term_below}
use Rattle.products.proofs.radius.grown.Goals as goal

exactly : (c : goal.After-times) → Exactly c.magnitude-a.result c.magnitude-b.result c.times.result
exactly c =
    exactly_of _ _ c.unpack.result c.unpack-2.result c.times.result c.unpack.ensures c.unpack-2.ensures c.times.ensures

grows : (c : goal.After-rounded_up) → Holds (negate (with₂ (mul up) (magnitude_of c.args.u) (magnitude_of c.args.v))) c.rounded_up.result
grows c =
    by_sizes _ _ _ _ c.rounded_up.result c.magnitude-a.ensures c.magnitude-b.ensures (up_exactly (exactly c.before) c.rounded_up.ensures)

pub rounded_up-requires : goal.rounded_up-requires
rounded_up-requires c = exactly_formed (exactly c)

pub plus_negative-requires : goal.plus_negative-requires
plus_negative-requires c =
    let p = c.requires in
    (p.0, (grows c).part, p.1, term_below _ _ c.rounded_up.result (grows c))

pub returns : goal.returns
returns c = c.plus_negative.ensures _ (grows c.before)
