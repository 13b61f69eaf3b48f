-- `Centred::step_parts` meets its contract: the product of what is read from the patterns is exact, and each sum takes it, rounded.
use Rattle.rounding.specs.Rounding.{down, up, negate}
use Rattle.binary32.specs.Operations.{mul, with₂}
use Rattle.unpacked.proofs.Multiplying.{exactly_of}
use Rattle.unpacked.proofs.RoundedProducts.{exactly_formed, down_exactly, up_exactly}
use Rattle.products.proofs.Continuing.{size_exactly}
use Rattle.products.proofs.Carrying.{held_fits}
use Rattle.products.proofs.centred.Centred.step_parts.Goals as goal

pub rounded-below-requires : goal.rounded-below-requires
rounded-below-requires c =
    exactly_formed (exactly_of c.args.x c.args.y c.unpack.result c.unpack-2.result c.times-p.result c.unpack.ensures c.unpack-2.ensures c.times-p.ensures)

pub rounded_up-above-requires : goal.rounded_up-above-requires
rounded_up-above-requires c =
    exactly_formed (exactly_of c.args.x c.args.y c.unpack.result c.unpack-2.result c.times-p.result c.unpack.ensures c.unpack-2.ensures c.times-p.ensures)

pub plus-lower-requires : goal.plus-lower-requires
plus-lower-requires c =
    let e = exactly_of c.args.x c.args.y c.unpack.result c.unpack-2.result c.times-p.result c.unpack.ensures c.unpack-2.ensures c.times-p.ensures in
    (c.args.self.lower_number, (down_exactly e c.rounded-below.ensures).part)

pub plus-opposed-requires : goal.plus-opposed-requires
plus-opposed-requires c =
    let e = exactly_of c.args.x c.args.y c.unpack.result c.unpack-2.result c.times-p.result c.unpack.ensures c.unpack-2.ensures c.times-p.ensures in
    (c.args.self.opposed_number, (up_exactly e c.rounded_up-above.ensures).part)

pub size_down-requires : goal.size_down-requires
size_down-requires c =
    let e = exactly_of c.args.x c.args.y c.unpack.result c.unpack-2.result c.times-p.result c.unpack.ensures c.unpack-2.ensures c.times-p.ensures in
    (exactly_formed e, c.rounded-below.ensures, c.rounded_up-above.ensures)

pub plus-radius-requires : goal.plus-radius-requires
plus-radius-requires c =
    let e = exactly_of c.args.x c.args.y c.unpack.result c.unpack-2.result c.times-p.result c.unpack.ensures c.unpack-2.ensures c.times-p.ensures in
    (c.args.self.radius_number, (size_exactly _ _ _ _ e c.size_down.ensures).part)

pub whole-requires : goal.whole-requires
whole-requires c =
    let a = c.args in
    let e = exactly_of a.x a.y c.unpack.result c.unpack-2.result c.times-p.result c.unpack.ensures c.unpack-2.ensures c.times-p.ensures in
    let l = c.plus-lower.ensures (with₂ (mul down) a.x a.y) (down_exactly e c.rounded-below.ensures) in
    let o = c.plus-opposed.ensures (negate (with₂ (mul up) a.x a.y)) (up_exactly e c.rounded_up-above.ensures) in
    let r = c.plus-radius.ensures _ (size_exactly _ _ _ _ e c.size_down.ensures) in
    (held_fits l, held_fits o, held_fits r)

pub returns : goal.returns
returns c =
    let a = c.args in
    let e = exactly_of a.x a.y c.unpack.result c.unpack-2.result c.times-p.result c.unpack.ensures c.unpack-2.ensures c.times-p.ensures in
    let l = c.plus-lower.ensures (with₂ (mul down) a.x a.y) (down_exactly e c.rounded-below.ensures) in
    let o = c.plus-opposed.ensures (negate (with₂ (mul up) a.x a.y)) (up_exactly e c.rounded_up-above.ensures) in
    let r = c.plus-radius.ensures _ (size_exactly _ _ _ _ e c.size_down.ensures) in
    c.whole.ensures _ _ _ l o r
