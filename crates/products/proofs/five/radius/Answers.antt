-- `products::five::radius` meets its contract: the sum of `outer`, then - G and + 2 × E (`ErrorBounds`).
use mathlib.Core.Path.{◌≡◌, refl, sym, subst}
use lib.IntN.{pos, neg_ℤ}
use Rattle.rounding.specs.Format.{binary32, Num}
use Rattle.rounding.specs.Rounding.{negate}
use Rattle.rounding.proofs.Sign.{num_neg}
use Rattle.unpacked.specs.declared.Number.{Number}
use Rattle.unpacked.specs.Number.{worth, IsNumber, Below, Holds, zero_number}
use Rattle.unpacked.proofs.Packing.{num_of}
use Rattle.products.specs.Continued.{Line, Continued, grown_by}
use Rattle.products.specs.Line.{line_of}
use Rattle.products.proofs.Carrying.{zero_runs, zero_below}
use Rattle.products.proofs.ErrorBounds.{twice_number, less_holds, radius_holds}
use Rattle.products.proofs.five.radius.Goals as goal

-- the sum that `outer` returns, from zero
sums : (w : Line) (z r : Number) → z ≡ zero_number → Continued w z r → Holds (negate (grown_by w (pos 0) w.k)) r
unfolding worth
sums w z r e h = subst (λ (z : Number). Holds (negate (grown_by w (neg_ℤ (worth z)) w.k)) r) e h

number : (size : Number) → IsNumber size → Num binary32 (neg_ℤ (worth size))
number size n = num_neg (num_of size n)

pub outer-requires : goal.outer-requires
outer-requires c =
    let z : (c.zero.result ≡ zero_number) = c.zero.ensures in
    (subst IsNumber (sym z) zero_runs.number, subst Below (sym z) zero_below)

pub plus-requires : goal.plus-requires
plus-requires c =
    let w = line_of c.args.line in
    let g = number c.args.size c.requires.0 in
    let S = sums w c.zero.result c.outer.result c.zero.ensures c.outer.ensures in
    let L = less_holds w.k c.requires.2 _ g w refl c.opposite.result c.plus-less.result c.opposite.ensures.worths (c.plus-less.ensures _ S) in
    ((twice_number w.k c.requires.2 _ g c.twice_error.result c.twice_error.ensures).0, L.part)

pub returns : goal.returns
returns c =
    let w = line_of c.args.line in
    let g = number c.args.size c.requires.0 in
    let S = sums w c.zero.result c.outer.result c.zero.ensures c.outer.ensures in
    let L = less_holds w.k c.requires.2 _ g w refl c.opposite.result c.plus-less.result c.opposite.ensures.worths (c.plus-less.ensures _ S) in
    radius_holds w.k c.requires.2 _ g w refl c.twice_error.result c.plus.result c.twice_error.ensures (c.plus.ensures _ L)
