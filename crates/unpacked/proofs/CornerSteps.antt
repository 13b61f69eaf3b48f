-- The corners of two cells. A number times a cell's bounds: the sign of the number tells which product is the lesser. Of these for the two bounds of the
-- other cell, the one of the lesser rank is the least of all four, and likewise the greatest, and these two alone are rounded.
use mathlib.Core.Path.{◌≡◌, refl, sym, ◌∙◌, subst}
use mathlib.Core.Bool.{Bool, true, false, cond}
use mathlib.Core.List.{[], ◌∷◌}
use Prim.Native.Nat.{suc, ◌^◌}
use native.Mathlib.Nat.{not-suc-le-zero}
use native.Mathlib.Omega.{arith}
use lib.Dec.{T}
use borrow.Author.Tests.{ltb-true}
use lib.IntN.{ℤ, pos, negsuc, ◌*ℤ◌}
use lib.Signed.{lt_z}
use Rattle.algebra.specs.Order.{◌≼◌}
use Rattle.algebra.specs.Extremes.{minℤ, maxℤ}
use Rattle.algebra.proofs.Linear.{reading, le, lin_le}
use Rattle.algebra.proofs.Order.{nonneg, ◌⊠◌}
use Rattle.rounding.specs.Format.{binary32}
use Rattle.rounding.specs.Rounding.{negate}
use Rattle.rounding.proofs.Sign.{neg_le_pos}
use Rattle.enclosure.specs.Arithmetic.{of}
use Rattle.enclosure.specs.Cell.{Cell, least_corner, greatest_corner}
use Rattle.enclosure.specs.Methods.{least_term, greatest_term}
use Rattle.unpacked.specs.declared.Number.{Number}
use Rattle.unpacked.specs.declared.Product.{Product}
use Rattle.unpacked.specs.declared.Corner.{Corner}
use Rattle.unpacked.specs.Number.{worth, IsNumber, Holds}
use Rattle.unpacked.specs.Exact.{Exact, RoundedDown, RoundedUp}
use Rattle.unpacked.specs.Corners.{CornerAt, by_sign, lesser_of, greater_of}
use Rattle.unpacked.proofs.Packing.{same_sign}
use Rattle.unpacked.proofs.CornerRounding.{mirror, least_term_is, greatest_term_is}
use Rattle.unpacked.proofs.CornerOrder.{min_left, min_right, max_left, max_right, lesser_at, greater_at}

-- ---- u times the bounds v and w of a cell
falls : (u v w : ℤ) → lt_z u (pos 0) ≡ true → v ≼ w → u *ℤ w ≼ u *ℤ v
falls (pos n) v w t h = absurd (not-suc-le-zero (ltb-true n 0 t))
falls (negsuc n) v w t h = lin_le (negsuc n ∷ v ∷ w ∷ []) (le (neg_le_pos (suc n) 0 ⊠ h) ∷ []) (search reading depth 20) (omega arith)

rises : (u v w : ℤ) → lt_z u (pos 0) ≡ false → v ≼ w → u *ℤ v ≼ u *ℤ w
rises (pos n) v w t h = lin_le (pos n ∷ v ∷ w ∷ []) (le (nonneg n ⊠ h) ∷ []) (search reading depth 20) (omega arith)
rises (negsuc n) v w t h = absurd (subst T t tt)

module _ (u v w : ℤ) (h : v ≼ w) where
  lesser_by_sign : u *ℤ by_sign u v w ≡ minℤ (u *ℤ v) (u *ℤ w)
  lesser_by_sign = go (lt_z u (pos 0)) refl
    where
      go : (t : Bool) → lt_z u (pos 0) ≡ t → u *ℤ cond t w v ≡ minℤ (u *ℤ v) (u *ℤ w)
      go true e = min_right (falls u v w e h)
      go false e = min_left (rises u v w e h)

  greater_by_sign : u *ℤ by_sign u w v ≡ maxℤ (u *ℤ v) (u *ℤ w)
  greater_by_sign = go (lt_z u (pos 0)) refl
    where
      go : (t : Bool) → lt_z u (pos 0) ≡ t → u *ℤ cond t v w ≡ maxℤ (u *ℤ v) (u *ℤ w)
      go true e = max_left (falls u v w e h)
      go false e = max_right (rises u v w e h)

-- the sign of a number is that of its significand
pub by_sign_is : {x : Number} {r : Corner} (v w : ℤ) → IsNumber x → (t : Bool) → lt_z x.sig (pos 0) ≡ t → CornerAt (worth x *ℤ cond t w v) r → CornerAt (worth x *ℤ by_sign (worth x) v w) r
by_sign_is {x} {r} v w n t e = subst (λ s. CornerAt (worth x *ℤ cond s w v) r) (sym e ∙ same_sign x n.normal)

-- ---- the four corners of two cells
module _ (a b : Cell) where
  -- of the two that the bounds of a give by their signs, p and q
  module _ {p q m : Corner} (h : b.low ≼ b.high) where
    pub least_of : CornerAt (a.low *ℤ by_sign a.low b.low b.high) p → CornerAt (a.high *ℤ by_sign a.high b.low b.high) q → m ≡ lesser_of p q
        → Exact (least_corner a b) m.product
    unfolding least_corner
    least_of i k e =
        (subst (CornerAt (least_corner a b)) (sym e)
        (lesser_at (subst (λ t. CornerAt t p) (lesser_by_sign a.low _ _ h) i) (subst (λ t. CornerAt t q) (lesser_by_sign a.high _ _ h) k))).exact

    pub greatest_of : CornerAt (a.low *ℤ by_sign a.low b.high b.low) p → CornerAt (a.high *ℤ by_sign a.high b.high b.low) q → m ≡ greater_of p q
        → Exact (greatest_corner a b) m.product
    unfolding greatest_corner
    greatest_of i k e =
        (subst (CornerAt (greatest_corner a b)) (sym e)
        (greater_at (subst (λ t. CornerAt t p) (greater_by_sign a.low _ _ h) i) (subst (λ t. CornerAt t q) (greater_by_sign a.high _ _ h) k))).exact

  -- what they are rounded to
  module _ {p : Product} {r : Number} where
    pub least_rounded : Exact (least_corner a b) p → RoundedDown p r → Holds (least_term (of binary32) a b) r
    least_rounded i d = subst (λ m. Holds m r) (sym (least_term_is a b)) (d.number (least_corner a b) i)

    pub greatest_rounded : Exact (greatest_corner a b) p → RoundedUp p r → Holds (negate (greatest_term (of binary32) a b)) r
    greatest_rounded i d = subst (λ m. Holds m r) (mirror binary32 (2 ^ 149) (greatest_corner a b) ∙ sym (greatest_term_is a b)) (d.number (greatest_corner a b) i)
