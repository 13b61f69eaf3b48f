-- `products::nearest::Nearest::step` meets its contract: the products of what is read from the patterns are exact, and each sum takes its rounded product.
use mathlib.Core.Path.{◌≡◌, refl}
use Prim.Native.Nat.{ℕ}
use Rattle.binary32.specs.Number.{Finite}
use Rattle.rounding.specs.Rounding.{up, near, negate}
use Rattle.binary32.specs.Operations.{mul, with₂}
use Rattle.binary32.specs.Order.{magnitude_of}
use Rattle.unpacked.specs.declared.Number.{Number}
use Rattle.unpacked.specs.declared.Product.{Product}
use Rattle.unpacked.specs.Number.{Holds, Unpacked, Absolute}
use Rattle.unpacked.specs.Exact.{ProductIs, RoundedUp}
use Rattle.unpacked.proofs.Opposites.{absolute_unpacked}
use Rattle.unpacked.proofs.Multiplying.{exactly_of}
use Rattle.unpacked.proofs.RoundedProducts.{exactly_formed, near_exactly, up_exactly}
use Rattle.products.proofs.Radii.{by_sizes, grown_below, term_below}
use Rattle.products.proofs.Carrying.{held_fits}
use Rattle.products.proofs.nearest.Nearest.step.Goals as goal

-- what the radius gets
grows : (x v w : ℕ) (f a b r : Number) (q : Product) → Finite x → Unpacked x f → Absolute f a → w ≡ magnitude_of v → Unpacked w b → ProductIs a b q
    → RoundedUp q r → Holds (negate (with₂ (mul up) (magnitude_of x) (magnitude_of v))) r
grows x v w f a b r q h u e m k p d =
    by_sizes _ _ _ _ r refl m (up_exactly (exactly_of _ _ a b q (absolute_unpacked x f a h u e) k p) d)

pub times-p-requires : goal.times-p-requires
times-p-requires c = record { first = c.unpack-f.ensures.part; second = c.unpack.ensures.part }

pub absolute-requires : goal.absolute-requires
absolute-requires c = c.unpack-f.ensures.part.normal

pub times-q-requires : goal.times-q-requires
times-q-requires c =
    record {
      first = (absolute_unpacked c.args.x c.unpack-f.result c.absolute.result c.requires c.unpack-f.ensures c.absolute.ensures).part;
      second = c.unpack-2.ensures.part;
    }

pub rounded-requires : goal.rounded-requires
rounded-requires c =
    exactly_formed (exactly_of c.args.x c.args.y c.unpack-f.result c.unpack.result c.times-p.result c.unpack-f.ensures c.unpack.ensures c.times-p.ensures)

pub plus-centre-requires : goal.plus-centre-requires
plus-centre-requires c =
    let first = exactly_of c.args.x c.args.y c.unpack-f.result c.unpack.result c.times-p.result c.unpack-f.ensures c.unpack.ensures c.times-p.ensures in
    (c.args.self.centre_number, (near_exactly first c.rounded.ensures).part)

pub rounded_up-requires : goal.rounded_up-requires
rounded_up-requires c =
    let size = absolute_unpacked c.args.x c.unpack-f.result c.absolute.result c.requires c.unpack-f.ensures c.absolute.ensures in
    exactly_formed (exactly_of (magnitude_of c.args.x) _ c.absolute.result c.unpack-2.result c.times-q.result size c.unpack-2.ensures c.times-q.ensures)

pub plus_negative-radius-requires : goal.plus_negative-radius-requires
plus_negative-radius-requires c =
    let a = c.args in
    let g =
    grows a.x a.v c.magnitude-w.result c.unpack-f.result c.absolute.result c.unpack-2.result c.rounded_up.result c.times-q.result
    c.requires c.unpack-f.ensures c.absolute.ensures c.magnitude-w.ensures c.unpack-2.ensures c.times-q.ensures c.rounded_up.ensures in
    (a.self.radius_number, g.part, a.self.below, term_below _ _ c.rounded_up.result g)

pub whole-requires : goal.whole-requires
whole-requires c =
    let a = c.args in
    let first = exactly_of a.x a.y c.unpack-f.result c.unpack.result c.times-p.result c.unpack-f.ensures c.unpack.ensures c.times-p.ensures in
    let g =
    grows a.x a.v c.magnitude-w.result c.unpack-f.result c.absolute.result c.unpack-2.result c.rounded_up.result c.times-q.result
    c.requires c.unpack-f.ensures c.absolute.ensures c.magnitude-w.ensures c.unpack-2.ensures c.times-q.ensures c.rounded_up.ensures in
    let m = c.plus-centre.ensures (with₂ (mul near) a.x a.y) (near_exactly first c.rounded.ensures) in
    let r = c.plus_negative-radius.ensures _ g in
    (held_fits m, held_fits r, grown_below a.self.radius a.x a.v c.plus_negative-radius.result a.self.below r)

pub returns : goal.returns
returns c =
    let a = c.args in
    let first = exactly_of a.x a.y c.unpack-f.result c.unpack.result c.times-p.result c.unpack-f.ensures c.unpack.ensures c.times-p.ensures in
    let g =
    grows a.x a.v c.magnitude-w.result c.unpack-f.result c.absolute.result c.unpack-2.result c.rounded_up.result c.times-q.result
    c.requires c.unpack-f.ensures c.absolute.ensures c.magnitude-w.ensures c.unpack-2.ensures c.times-q.ensures c.rounded_up.ensures in
    let m = c.plus-centre.ensures (with₂ (mul near) a.x a.y) (near_exactly first c.rounded.ensures) in
    let r = c.plus_negative-radius.ensures _ g in
    c.whole.ensures _ _ m r
