-- `Sums::ends` meets its contract: two sums of numbers, rounded down.
use mathlib.Core.Option.{some, bind}
use Rattle.unpacked.specs.Number.{worth}
use Rattle.unpacked.proofs.Limits.{number_part, number_holds}
use Rattle.products.proofs.Carrying.{held_fits}
use Rattle.products.proofs.sums.Sums.ends.Goals as goal

pub plus-requires : goal.plus-requires
plus-requires g c = (c.requires.0, number_part c.requires.2)

pub plus-requires-2 : goal.plus-requires-2
plus-requires-2 g c = (c.requires.1, number_part c.requires.2)

pub whole-requires : goal.whole-requires
whole-requires g c =
    let r = number_holds c.requires.2 in
    (held_fits (c.plus.ensures _ r), held_fits (c.plus-2.ensures _ r))

pub returns : goal.returns
unfolding bind
returns g c =
    let t = some (worth c.args.radius) in
    let r = number_holds c.requires.2 in
    c.whole.ensures _ _ (c.plus.ensures t r) (c.plus-2.ensures t r)
