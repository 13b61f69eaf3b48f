-- A product of two bounded integers lies between bounds of its four corner products: a is between l and u, b between m and v.
use mathlib.Core.List.{[], ◌∷◌}
use mathlib.Core.Logic.{⊎_elim}
use native.Mathlib.Omega.{arith}
use lib.IntN.{ℤ, pos, neg_ℤ, ◌*ℤ◌}
use Rattle.algebra.specs.Order.{◌≼◌}
use Rattle.algebra.proofs.Linear.{reading, le, lin_le}
use Rattle.algebra.proofs.Order.{≼_total, neg_mono, ◌⊠◌}

module _ (a l u b m v : ℤ) (al : l ≼ a) (au : a ≼ u) (bm : m ≼ b) (bv : b ≼ v) where
  pub corner_upper : (t : ℤ) → l *ℤ m ≼ t → l *ℤ v ≼ t → u *ℤ m ≼ t → u *ℤ v ≼ t → a *ℤ b ≼ t
  corner_upper t lm lv um uv =
      ⊎_elim
      (λ (p : pos 0 ≼ b). ⊎_elim
      (λ (q : pos 0 ≼ u). lin_le (a ∷ l ∷ u ∷ b ∷ m ∷ v ∷ t ∷ []) (le uv ∷ le (au ⊠ p) ∷ le (q ⊠ bv) ∷ []) (search reading depth 20) (omega arith))
      (λ (q : u ≼ pos 0). lin_le (a ∷ l ∷ u ∷ b ∷ m ∷ v ∷ t ∷ []) (le um ∷ le (au ⊠ p) ∷ le (q ⊠ bm) ∷ []) (search reading depth 20) (omega arith))
      (≼_total (pos 0) u))
      (λ (p : b ≼ pos 0). ⊎_elim
      (λ (q : pos 0 ≼ l). lin_le (a ∷ l ∷ u ∷ b ∷ m ∷ v ∷ t ∷ []) (le lv ∷ le (al ⊠ p) ∷ le (q ⊠ bv) ∷ []) (search reading depth 20) (omega arith))
      (λ (q : l ≼ pos 0). lin_le (a ∷ l ∷ u ∷ b ∷ m ∷ v ∷ t ∷ []) (le lm ∷ le (al ⊠ p) ∷ le (q ⊠ bm) ∷ []) (search reading depth 20) (omega arith))
      (≼_total (pos 0) l))
      (≼_total (pos 0) b)

-- the same from below, by the box of -a
pub corner_lower : (a l u b m v : ℤ) → l ≼ a → a ≼ u → m ≼ b → b ≼ v
    → (t : ℤ) → t ≼ l *ℤ m → t ≼ l *ℤ v → t ≼ u *ℤ m → t ≼ u *ℤ v → t ≼ a *ℤ b
corner_lower a l u b m v al au bm bv t lm lv um uv =
    negated (corner_upper (neg_ℤ a) (neg_ℤ u) (neg_ℤ l) b m v (neg_mono au) (neg_mono al) bm bv (neg_ℤ t) (flip u m um) (flip u v uv) (flip l m lm) (flip l v lv))
  where
    flip : (x y : ℤ) → t ≼ x *ℤ y → neg_ℤ x *ℤ y ≼ neg_ℤ t
    flip x y h = lin_le (x ∷ y ∷ t ∷ []) (le h ∷ []) (search reading depth 20) (omega arith)

    negated : neg_ℤ a *ℤ b ≼ neg_ℤ t → t ≼ a *ℤ b
    negated h = lin_le (a ∷ b ∷ t ∷ []) (le h ∷ []) (search reading depth 20) (omega arith)
