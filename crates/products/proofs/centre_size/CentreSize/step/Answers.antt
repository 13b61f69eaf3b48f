-- `products::centre_size::CentreSize::step` meets its contract: the product is exact, and each sum takes it rounded to nearest.
use mathlib.Core.Path.{subst}
use lib.IntN.{ℤ}
use Rattle.rounding.specs.Rounding.{near}
use Rattle.binary32.specs.Number.{value_of}
use Rattle.binary32.specs.Operations.{mul}
use Rattle.unpacked.specs.declared.Number.{Number}
use Rattle.unpacked.specs.Number.{worth, Holds, Negative}
use Rattle.unpacked.proofs.Limits.{number_part}
use Rattle.unpacked.proofs.Opposites.{negative_holds, negative_under}
use Rattle.unpacked.proofs.RoundedProducts.{exact_formed}
use Rattle.products.specs.CentreSize.{minus_size}
use Rattle.products.proofs.CentreSizes.{exact_product, minus_size_is, size_under}
use Rattle.products.proofs.Carrying.{held_fits}
use Rattle.products.proofs.centre_size.CentreSize.step.Goals as goal

-- what G gets, from what C gets
size_term : (x y : ℤ) (t g : Number) → Holds (mul near x y) t → Negative t g → Holds (minus_size x y) g
size_term x y t g h n = subst (λ m. Holds m g) (minus_size_is x y) (negative_holds _ t g h n)

pub times-requires : goal.times-requires
times-requires c = record { first = number_part c.requires.0; second = c.unpack.ensures.part }

pub rounded-t-requires : goal.rounded-t-requires
rounded-t-requires c =
    exact_formed (exact_product c.args.x c.args.y c.unpack.result c.times.result c.requires.0 c.requires.1 c.unpack.ensures c.times.ensures)

pub plus-centre-requires : goal.plus-centre-requires
plus-centre-requires c =
    let e = exact_product c.args.x c.args.y c.unpack.result c.times.result c.requires.0 c.requires.1 c.unpack.ensures c.times.ensures in
    (c.args.self.centre_number, (c.rounded-t.ensures.number _ e).part)

pub negative-requires : goal.negative-requires
negative-requires c =
    let e = exact_product c.args.x c.args.y c.unpack.result c.times.result c.requires.0 c.requires.1 c.unpack.ensures c.times.ensures in
    (c.rounded-t.ensures.number _ e).part.normal

pub plus_negative-size-requires : goal.plus_negative-size-requires
plus_negative-size-requires c =
    let e = exact_product c.args.x c.args.y c.unpack.result c.times.result c.requires.0 c.requires.1 c.unpack.ensures c.times.ensures in
    let n = c.args.self in
    let g = size_term (worth c.args.x) (value_of c.args.y) _ c.negative.result (c.rounded-t.ensures.number _ e) c.negative.ensures in
    (n.size_number, g.part, n.below, negative_under c.rounded-t.result c.negative.result c.negative.ensures)

pub whole-requires : goal.whole-requires
whole-requires c =
    let e = exact_product c.args.x c.args.y c.unpack.result c.times.result c.requires.0 c.requires.1 c.unpack.ensures c.times.ensures in
    let t = c.rounded-t.ensures.number _ e in
    let m = c.plus-centre.ensures _ t in
    let g = c.plus_negative-size.ensures _ (size_term (worth c.args.x) (value_of c.args.y) _ c.negative.result t c.negative.ensures) in
    (held_fits m, held_fits g, size_under c.args.self.size (worth c.args.x) (value_of c.args.y) c.plus_negative-size.result c.args.self.below g)

pub returns : goal.returns
returns c =
    let e = exact_product c.args.x c.args.y c.unpack.result c.times.result c.requires.0 c.requires.1 c.unpack.ensures c.times.ensures in
    let t = c.rounded-t.ensures.number _ e in
    let m = c.plus-centre.ensures _ t in
    let g = c.plus_negative-size.ensures _ (size_term (worth c.args.x) (value_of c.args.y) _ c.negative.result t c.negative.ensures) in
    c.whole.ensures _ _ m g
