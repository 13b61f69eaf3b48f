-- `products::shifts::nearest` meets its contract: by `near_shift`.
use Rattle.unpacked.proofs.NearShifts.{first_fits, near_shift}
use Rattle.products.proofs.shifts.nearest.Goals as goal

pub overflow_add-t : goal.overflow_add-t
overflow_add-t c =
    first_fits c.args.t c.args.n c.ranges.t c.requires.0 c.requires.1 c.requires.2 c.half.result c.half.type_inv c.half.ensures

pub returns : goal.returns
returns c =
    near_shift c.args.t c.args.n c.ranges.t c.requires.0 c.requires.1 c.requires.2 c.half.result c.half.type_inv c.half.ensures
    c.lowered.result c.lowered.type_inv c.lowered.ensures c.odd.result c.odd.type_inv c.odd.ensures
    c.lowered-2.result c.lowered-2.type_inv c.lowered-2.ensures
