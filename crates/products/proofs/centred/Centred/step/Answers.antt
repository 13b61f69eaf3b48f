-- `Centred::step` meets its contract: the products of what is read from the patterns are exact, and each sum takes its rounded product.
use mathlib.Core.Path.{refl}
use Rattle.rounding.specs.Rounding.{down, up, negate}
use Rattle.binary32.specs.Operations.{mul, with₂}
use Rattle.unpacked.proofs.Opposites.{absolute_unpacked}
use Rattle.unpacked.proofs.Multiplying.{exactly_of}
use Rattle.unpacked.proofs.RoundedProducts.{exactly_formed, down_exactly, up_exactly}
use Rattle.products.proofs.Radii.{by_sizes, term_below}
use Rattle.products.proofs.Carrying.{held_fits}
use Rattle.products.proofs.centred.Centred.step.Goals as goal

pub rounded_up-requires : goal.rounded_up-requires
rounded_up-requires g c =
    let s = absolute_unpacked c.args.x c.unpack-f.result c.absolute.result c.requires.1 c.unpack-f.ensures c.absolute.ensures in
    exactly_formed (exactly_of _ c.magnitude-w.result c.absolute.result c.unpack-2.result c.times-q.result s c.unpack-2.ensures c.times-q.ensures)

pub plus_negative-radius-requires : goal.plus_negative-radius-requires
plus_negative-radius-requires g c =
    let p = c.requires in
    let s = absolute_unpacked c.args.x c.unpack-f.result c.absolute.result c.requires.1 c.unpack-f.ensures c.absolute.ensures in
    let q = exactly_of _ c.magnitude-w.result c.absolute.result c.unpack-2.result c.times-q.result s c.unpack-2.ensures c.times-q.ensures in
    let g = by_sizes _ _ _ _ c.rounded_up.result refl c.magnitude-w.ensures (up_exactly q c.rounded_up.ensures) in
    (c.args.self.radius_number, g.part, p.0, term_below _ _ c.rounded_up.result g)

pub rounded-requires : goal.rounded-requires
rounded-requires g c =
    exactly_formed (exactly_of c.args.x c.args.y c.unpack-f.result c.unpack.result c.times-p.result c.unpack-f.ensures c.unpack.ensures c.times-p.ensures)

pub plus-lower-requires : goal.plus-lower-requires
plus-lower-requires g c =
    let e = exactly_of c.args.x c.args.y c.unpack-f.result c.unpack.result c.times-p.result c.unpack-f.ensures c.unpack.ensures c.times-p.ensures in
    (c.args.self.lower_number, (down_exactly e c.rounded.ensures).part)

pub rounded_up-requires-2 : goal.rounded_up-requires-2
rounded_up-requires-2 g c =
    exactly_formed (exactly_of c.args.x c.args.y c.unpack-f.result c.unpack.result c.times-p.result c.unpack-f.ensures c.unpack.ensures c.times-p.ensures)

pub plus-opposed-requires : goal.plus-opposed-requires
plus-opposed-requires g c =
    let e = exactly_of c.args.x c.args.y c.unpack-f.result c.unpack.result c.times-p.result c.unpack-f.ensures c.unpack.ensures c.times-p.ensures in
    (c.args.self.opposed_number, (up_exactly e c.rounded_up-2.ensures).part)

pub whole-requires : goal.whole-requires
whole-requires g c =
    let a = c.args in
    let e = exactly_of a.x a.y c.unpack-f.result c.unpack.result c.times-p.result c.unpack-f.ensures c.unpack.ensures c.times-p.ensures in
    let s = absolute_unpacked a.x c.unpack-f.result c.absolute.result c.requires.1 c.unpack-f.ensures c.absolute.ensures in
    let q = exactly_of _ c.magnitude-w.result c.absolute.result c.unpack-2.result c.times-q.result s c.unpack-2.ensures c.times-q.ensures in
    let l = c.plus-lower.ensures (with₂ (mul down) a.x a.y) (down_exactly e c.rounded.ensures) in
    let o = c.plus-opposed.ensures (negate (with₂ (mul up) a.x a.y)) (up_exactly e c.rounded_up-2.ensures) in
    let r = c.plus_negative-radius.ensures _ (by_sizes _ _ _ _ c.rounded_up.result refl c.magnitude-w.ensures (up_exactly q c.rounded_up.ensures)) in
    (held_fits l, held_fits o, held_fits r)

pub returns : goal.returns
returns g c =
    let a = c.args in
    let e = exactly_of a.x a.y c.unpack-f.result c.unpack.result c.times-p.result c.unpack-f.ensures c.unpack.ensures c.times-p.ensures in
    let s = absolute_unpacked a.x c.unpack-f.result c.absolute.result c.requires.1 c.unpack-f.ensures c.absolute.ensures in
    let q = exactly_of _ c.magnitude-w.result c.absolute.result c.unpack-2.result c.times-q.result s c.unpack-2.ensures c.times-q.ensures in
    let l = c.plus-lower.ensures (with₂ (mul down) a.x a.y) (down_exactly e c.rounded.ensures) in
    let o = c.plus-opposed.ensures (negate (with₂ (mul up) a.x a.y)) (up_exactly e c.rounded_up-2.ensures) in
    let r = c.plus_negative-radius.ensures _ (by_sizes _ _ _ _ c.rounded_up.result refl c.magnitude-w.ensures (up_exactly q c.rounded_up.ensures)) in
    c.whole.ensures _ _ _ l o r
