-- `products::sums::Sums::step` meets its contract: the least and the greatest corner product, each rounded and added to its sum (PairStep).
use Rattle.unpacked.proofs.RoundedProducts.{exact_formed}
use Rattle.products.proofs.ClassicalSums.{pair_holds}
use Rattle.products.proofs.Carrying.{held_fits}
use Rattle.products.proofs.PairStep as step
use Rattle.products.proofs.PairStep.{bounds_of}
use Rattle.products.proofs.sums.Sums.step.Goals as goal

pub corner_by_sign-requires : goal.corner_by_sign-requires
corner_by_sign-requires g c =
    let b = bounds_of c.args.a c.args.bl c.args.bu c.lower-w.result c.upper-x.result c.unpack-y.result c.unpack-z.result c.requires c.lower-w.ensures c.upper-x.ensures c.unpack-y.ensures c.unpack-z.ensures in
    (b.w_number, b.y_number, b.z_number)

pub corner_by_sign-requires-2 : goal.corner_by_sign-requires-2
corner_by_sign-requires-2 g c =
    let b = bounds_of c.args.a c.args.bl c.args.bu c.lower-w.result c.upper-x.result c.unpack-y.result c.unpack-z.result c.requires c.lower-w.ensures c.upper-x.ensures c.unpack-y.ensures c.unpack-z.ensures in
    (b.x_number, b.y_number, b.z_number)

pub corner_by_sign-requires-3 : goal.corner_by_sign-requires-3
corner_by_sign-requires-3 g c =
    let b = bounds_of c.args.a c.args.bl c.args.bu c.lower-w.result c.upper-x.result c.unpack-y.result c.unpack-z.result c.requires c.lower-w.ensures c.upper-x.ensures c.unpack-y.ensures c.unpack-z.ensures in
    (b.w_number, b.z_number, b.y_number)

pub corner_by_sign-requires-4 : goal.corner_by_sign-requires-4
corner_by_sign-requires-4 g c =
    let b = bounds_of c.args.a c.args.bl c.args.bu c.lower-w.result c.upper-x.result c.unpack-y.result c.unpack-z.result c.requires c.lower-w.ensures c.upper-x.ensures c.unpack-y.ensures c.unpack-z.ensures in
    (b.x_number, b.z_number, b.y_number)

pub rounded-requires : goal.rounded-requires
rounded-requires g c =
    let b = bounds_of c.args.a c.args.bl c.args.bu c.lower-w.result c.upper-x.result c.unpack-y.result c.unpack-z.result c.requires c.lower-w.ensures c.upper-x.ensures c.unpack-y.ensures c.unpack-z.ensures in
    exact_formed (step.least_exact b c.corner_by_sign.ensures c.corner_by_sign-2.ensures c.lesser.ensures)

pub plus-lower-requires : goal.plus-lower-requires
plus-lower-requires g c =
    let b = bounds_of c.args.a c.args.bl c.args.bu c.lower-w.result c.upper-x.result c.unpack-y.result c.unpack-z.result c.requires c.lower-w.ensures c.upper-x.ensures c.unpack-y.ensures c.unpack-z.ensures in
    let l = step.least_exact b c.corner_by_sign.ensures c.corner_by_sign-2.ensures c.lesser.ensures in
    (c.args.self.lower_number, (step.lower_term b l c.rounded.ensures).part)

pub rounded_up-requires : goal.rounded_up-requires
rounded_up-requires g c =
    let b = bounds_of c.args.a c.args.bl c.args.bu c.lower-w.result c.upper-x.result c.unpack-y.result c.unpack-z.result c.requires c.lower-w.ensures c.upper-x.ensures c.unpack-y.ensures c.unpack-z.ensures in
    exact_formed (step.greatest_exact b c.corner_by_sign-3.ensures c.corner_by_sign-4.ensures c.greater.ensures)

pub plus-opposed-requires : goal.plus-opposed-requires
plus-opposed-requires g c =
    let b = bounds_of c.args.a c.args.bl c.args.bu c.lower-w.result c.upper-x.result c.unpack-y.result c.unpack-z.result c.requires c.lower-w.ensures c.upper-x.ensures c.unpack-y.ensures c.unpack-z.ensures in
    let h = step.greatest_exact b c.corner_by_sign-3.ensures c.corner_by_sign-4.ensures c.greater.ensures in
    (c.args.self.opposed_number, (step.upper_term b h c.rounded_up.ensures).part)

pub whole-requires : goal.whole-requires
whole-requires g c =
    let b = bounds_of c.args.a c.args.bl c.args.bu c.lower-w.result c.upper-x.result c.unpack-y.result c.unpack-z.result c.requires c.lower-w.ensures c.upper-x.ensures c.unpack-y.ensures c.unpack-z.ensures in
    let l = c.plus-lower.ensures _ (step.lower_term b (step.least_exact b c.corner_by_sign.ensures c.corner_by_sign-2.ensures c.lesser.ensures) c.rounded.ensures) in
    let h = c.plus-opposed.ensures _ (step.upper_term b (step.greatest_exact b c.corner_by_sign-3.ensures c.corner_by_sign-4.ensures c.greater.ensures) c.rounded_up.ensures) in
    (held_fits l, held_fits h)

pub returns : goal.returns
returns g c =
    let b = bounds_of c.args.a c.args.bl c.args.bu c.lower-w.result c.upper-x.result c.unpack-y.result c.unpack-z.result c.requires c.lower-w.ensures c.upper-x.ensures c.unpack-y.ensures c.unpack-z.ensures in
    let l = c.plus-lower.ensures _ (step.lower_term b (step.least_exact b c.corner_by_sign.ensures c.corner_by_sign-2.ensures c.lesser.ensures) c.rounded.ensures) in
    let h = c.plus-opposed.ensures _ (step.upper_term b (step.greatest_exact b c.corner_by_sign-3.ensures c.corner_by_sign-4.ensures c.greater.ensures) c.rounded_up.ensures) in
    pair_holds c.args.self _ _ _ (c.whole.ensures _ _ l h)
