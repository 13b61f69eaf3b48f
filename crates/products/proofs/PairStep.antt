-- A step of method 1 on a pair of cells, from what its calls promise: the bounds of both cells are numbers, and the least and the greatest of their corner
-- products, each rounded, are the terms of the two sums. One step serves the loop of method 1 and that of a single pair (pair.rt).
use mathlib.Core.Path.{◌≡◌, sym, ap₂, subst}
use Prim.Native.Nat.{ℕ}
use lib.IntN.{◌*ℤ◌}
use Rattle.algebra.specs.Order.{◌≼◌}
use Rattle.rounding.specs.Format.{binary32}
use Rattle.rounding.specs.Rounding.{negate}
use Rattle.enclosure.specs.Arithmetic.{of}
use Rattle.enclosure.specs.Cell.{Cell, least_corner, greatest_corner}
use Rattle.enclosure.specs.Conversion.{cell_of}
use Rattle.enclosure.specs.Methods.{least_term, greatest_term}
use Rattle.binary32.specs.Number.{value_of}
use Rattle.binary32.proofs.Held.{is_finite}
use Rattle.unpacked.specs.declared.Number.{Number}
use Rattle.unpacked.specs.declared.Product.{Product}
use Rattle.unpacked.specs.declared.Corner.{Corner}
use Rattle.unpacked.specs.Number.{worth, IsNumber, Holds, Unpacked}
use Rattle.unpacked.specs.Exact.{Exact, RoundedDown, RoundedUp}
use Rattle.unpacked.specs.Corners.{CornerAt, by_sign, lesser_of, greater_of}
use Rattle.unpacked.proofs.Multiplying.{unpacked_number}
use Rattle.unpacked.proofs.CornerSteps.{least_of, greatest_of, least_rounded, greatest_rounded}
use Rattle.products.specs.declared.apart.Apart.{Apart}
use Rattle.products.specs.Apart.{Cells, lower_number, upper_number}
use Rattle.products.specs.Classical.{apart_cell, pattern_cell}

-- w and x are the bounds of the cell a, y and z those of [bl, bu], all numbers, and the latter in order
pub record Bounds (a : Apart) (bl bu : ℕ) (w x y z : Number) : Type 0 where
  pub w_number : IsNumber w
  pub x_number : IsNumber x
  pub y_number : IsNumber y
  pub z_number : IsNumber z
  pub a_is : cell_of (of binary32) (worth w) (worth x) ≡ apart_cell a
  pub b_is : cell_of (of binary32) (worth y) (worth z) ≡ pattern_cell bl bu
  pub order : worth y ≼ worth z

pub bounds_of : (a : Apart) (bl bu : ℕ) (w x y z : Number) → Cells a bl bu → w ≡ lower_number a → x ≡ upper_number a → Unpacked bl y → Unpacked bu z → Bounds a bl bu w x y z
bounds_of a bl bu w x y z C e f u v =
    let l = unpacked_number bl y (is_finite bl C.b_lower) u in
    let h = unpacked_number bu z (is_finite bu C.b_upper) v in
    record {
      w_number = subst IsNumber (sym e) C.a_lower;
      x_number = subst IsNumber (sym f) C.a_upper;
      y_number = l.0;
      z_number = h.0;
      a_is = ap₂ (λ (m n : Number). cell_of (of binary32) (worth m) (worth n)) e f;
      b_is = ap₂ (cell_of (of binary32)) l.1 h.1;
      order = subst (λ t. t ≼ worth z) (sym l.1) (subst (λ t. value_of bl ≼ t) (sym h.1) C.b_order);
    }

module _ {a : Apart} {bl bu : ℕ} {w x y z : Number} (B : Bounds a bl bu w x y z) where
  abbrev pub wx : Cell
  wx = cell_of (of binary32) (worth w) (worth x)

  abbrev pub yz : Cell
  yz = cell_of (of binary32) (worth y) (worth z)

  -- of the corners that the signs of w and x choose, p and q
  module _ {p q m : Corner} where
    pub least_exact : CornerAt (worth w *ℤ by_sign (worth w) (worth y) (worth z)) p → CornerAt (worth x *ℤ by_sign (worth x) (worth y) (worth z)) q → m ≡ lesser_of p q
        → Exact (least_corner wx yz) m.product
    least_exact = least_of wx yz B.order

    pub greatest_exact : CornerAt (worth w *ℤ by_sign (worth w) (worth z) (worth y)) p → CornerAt (worth x *ℤ by_sign (worth x) (worth z) (worth y)) q → m ≡ greater_of p q
        → Exact (greatest_corner wx yz) m.product
    greatest_exact = greatest_of wx yz B.order

  -- rounded, they are the terms of the pair
  module _ {p : Product} {r : Number} where
    pub lower_term : Exact (least_corner wx yz) p → RoundedDown p r → Holds (least_term (of binary32) (apart_cell a) (pattern_cell bl bu)) r
    lower_term e d = subst (λ t. Holds t r) (ap₂ (least_term (of binary32)) B.a_is B.b_is) (least_rounded wx yz e d)

    pub upper_term : Exact (greatest_corner wx yz) p → RoundedUp p r → Holds (negate (greatest_term (of binary32) (apart_cell a) (pattern_cell bl bu))) r
    upper_term e d = subst (λ t. Holds (negate t) r) (ap₂ (greatest_term (of binary32)) B.a_is B.b_is) (greatest_rounded wx yz e d)
