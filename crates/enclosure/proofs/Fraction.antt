-- What is shown of whole numbers holds of every choice of fractions: products and sums of fractions that lie in intervals lie in the corners' range.
use mathlib.Core.Path.{◌≡◌, sym}
use mathlib.Core.List.{[], ◌∷◌}
use Prim.Native.Nat.{ℕ, zero, suc, ◌*◌, ◌<◌}
use native.Mathlib.Omega.{arith}
use lib.IntN.{ℤ, pos, ◌+ℤ◌, ◌*ℤ◌, zero-*ℤ}
use Rattle.algebra.specs.Order.{◌≼◌}
use Rattle.algebra.specs.Sum.{Σ<}
use Rattle.algebra.proofs.Reading.{by_ring}
use Rattle.algebra.proofs.Linear.{reading, le, lin_le}
use Rattle.algebra.proofs.Order.{≼_trans, ≼_of_≡, ◌⊠◌, nonneg, cancel_le}
use Rattle.algebra.proofs.Natural.{of_lt}
use Rattle.algebra.proofs.Corner.{corner_upper, corner_lower}
use Rattle.enclosure.specs.Cell.{Cell}
use Rattle.enclosure.specs.Fraction.{Fraction, ◌⊹◌, ◌⊛◌, fsum, In}
use Rattle.enclosure.specs.Demand.{Picked, sum_of_products, exact_lower, exact_upper}
use Rattle.enclosure.proofs.Corners.{Corners, corners}

-- ---- over whole numbers: d and e are denominators
module _ (a b t d e : ℤ) (p : pos 0 ≼ d *ℤ e) where
  corner_low : t ≼ a *ℤ b → t *ℤ (d *ℤ e) ≼ (a *ℤ d) *ℤ (b *ℤ e)
  corner_low h = lin_le (t ∷ a ∷ b ∷ d ∷ e ∷ []) (le (h ⊠ p) ∷ []) (search reading depth 30) (omega arith)

  corner_high : a *ℤ b ≼ t → (a *ℤ d) *ℤ (b *ℤ e) ≼ t *ℤ (d *ℤ e)
  corner_high h = lin_le (t ∷ a ∷ b ∷ d ∷ e ∷ []) (le (h ⊠ p) ∷ []) (search reading depth 30) (omega arith)

regroup : (n m Q : ℤ) → (n *ℤ Q) *ℤ (m *ℤ Q) ≡ (n *ℤ m) *ℤ (Q *ℤ Q)
regroup n m Q = by_ring (n ∷ m ∷ Q ∷ []) (search reading depth 20) tt

module _ (n m Q l u : ℤ) (d e : ℕ) where
  sum_not_below : l *ℤ pos d ≼ n *ℤ Q → u *ℤ pos e ≼ m *ℤ Q → (l +ℤ u) *ℤ pos (d * e) ≼ (n *ℤ pos e +ℤ m *ℤ pos d) *ℤ Q
  sum_not_below h k =
      lin_le (l ∷ u ∷ n ∷ m ∷ Q ∷ pos d ∷ pos e ∷ []) (le (h ⊠ nonneg e) ∷ le (k ⊠ nonneg d) ∷ []) (search reading depth 30) (omega arith)

  sum_not_above : n *ℤ Q ≼ l *ℤ pos d → m *ℤ Q ≼ u *ℤ pos e → (n *ℤ pos e +ℤ m *ℤ pos d) *ℤ Q ≼ (l +ℤ u) *ℤ pos (d * e)
  sum_not_above h k =
      lin_le (l ∷ u ∷ n ∷ m ∷ Q ∷ pos d ∷ pos e ∷ []) (le (h ⊠ nonneg e) ∷ le (k ⊠ nonneg d) ∷ []) (search reading depth 30) (omega arith)

module _ (n Q : ℤ) (d : ℕ) (t x : ℤ) where
  coarse_low : x *ℤ pos d ≼ n *ℤ (Q *ℤ Q) → t *ℤ Q ≼ x → Q *ℤ (t *ℤ pos d) ≼ Q *ℤ (n *ℤ Q)
  coarse_low h k = lin_le (n ∷ Q ∷ pos d ∷ t ∷ x ∷ []) (le h ∷ le (k ⊠ nonneg d) ∷ []) (search reading depth 30) (omega arith)

  coarse_high : n *ℤ (Q *ℤ Q) ≼ x *ℤ pos d → x ≼ t *ℤ Q → Q *ℤ (n *ℤ Q) ≼ Q *ℤ (t *ℤ pos d)
  coarse_high h k = lin_le (n ∷ Q ∷ pos d ∷ t ∷ x ∷ []) (le h ∷ le (k ⊠ nonneg d) ∷ []) (search reading depth 30) (omega arith)

-- ---- of fractions
module _ (Q : ℕ) where
  -- a product lies between bounds of the corners
  pub in_mul : {a₁ a₂ b₁ b₂ l u : ℤ} {x y : Fraction} → Corners a₁ a₂ b₁ b₂ l u → In Q a₁ a₂ x → In Q b₁ b₂ y → In (Q * Q) l u (x ⊛ y)
  unfolding ◌⊛◌
  in_mul {a₁} {a₂} {b₁} {b₂} {l} {u} {x} {y} c i j =
      let d : ℤ = pos x.den in
      let e : ℤ = pos y.den in
      let X : ℤ = x.num *ℤ pos Q in
      let Y : ℤ = y.num *ℤ pos Q in
      let p : pos 0 ≼ d *ℤ e = nonneg (x.den * y.den) in
      let s : l *ℤ (d *ℤ e) ≼ X *ℤ Y =
      corner_lower X (a₁ *ℤ d) (a₂ *ℤ d) Y (b₁ *ℤ e) (b₂ *ℤ e) i.not_below i.not_above j.not_below j.not_above (l *ℤ (d *ℤ e))
      (corner_low a₁ b₁ l d e p c.low₁₁) (corner_low a₁ b₂ l d e p c.low₁₂)
      (corner_low a₂ b₁ l d e p c.low₂₁) (corner_low a₂ b₂ l d e p c.low₂₂) in
      let t : X *ℤ Y ≼ u *ℤ (d *ℤ e) =
      corner_upper X (a₁ *ℤ d) (a₂ *ℤ d) Y (b₁ *ℤ e) (b₂ *ℤ e) i.not_below i.not_above j.not_below j.not_above (u *ℤ (d *ℤ e))
      (corner_high a₁ b₁ u d e p c.high₁₁) (corner_high a₁ b₂ u d e p c.high₁₂)
      (corner_high a₂ b₁ u d e p c.high₂₁) (corner_high a₂ b₂ u d e p c.high₂₂) in
      let g : X *ℤ Y ≡ (x.num *ℤ y.num) *ℤ (pos Q *ℤ pos Q) = regroup x.num y.num (pos Q) in
      record { not_below = ≼_trans s (≼_of_≡ g); not_above = ≼_trans (≼_of_≡ (sym g)) t }

  pub in_add : {l u l' u' : ℤ} {x y : Fraction} → In Q l u x → In Q l' u' y → In Q (l +ℤ l') (u +ℤ u') (x ⊹ y)
  unfolding ◌⊹◌
  in_add {l} {u} {l'} {u'} {x} {y} i j =
      record {
        not_below = sum_not_below x.num y.num (pos Q) l l' x.den y.den i.not_below j.not_below;
        not_above = sum_not_above x.num y.num (pos Q) u u' x.den y.den i.not_above j.not_above;
      }

  -- the empty sum
  pub in_none : (x : ℕ → Fraction) → In Q (pos 0) (pos 0) (fsum 0 x)
  unfolding fsum
  in_none x = record { not_below = ≼_of_≡ (sym (zero-*ℤ (pos Q))); not_above = ≼_of_≡ (zero-*ℤ (pos Q)) }

  -- a range in units of 1 / (Q * Q) within one in units of 1 / Q
  pub in_coarse : {L H l u : ℤ} {x : Fraction} → 0 < Q → In (Q * Q) L H x → l *ℤ pos Q ≼ L → H ≼ u *ℤ pos Q → In Q l u x
  in_coarse {L} {H} {l} {u} {x} q i h k =
      record {
        not_below = cancel_le (of_lt q) (coarse_low x.num (pos Q) x.den l L i.not_below h);
        not_above = cancel_le (of_lt q) (coarse_high x.num (pos Q) x.den u H i.not_above k);
      }

-- ---- the sum of the products of k picks from each side lies in the exact range
module _ (Q : ℕ) (a b : ℕ → Cell) (x y : ℕ → Fraction) where
  pub in_exact : (k : ℕ) → Picked Q k a x → Picked Q k b y → In (Q * Q) (exact_lower k a b) (exact_upper k a b) (sum_of_products k x y)
  unfolding exact_lower exact_upper Σ< fsum
  in_exact zero i j = in_none (Q * Q) (λ l. x l ⊛ y l)
  in_exact (suc k) i j =
      in_add (Q * Q) (in_exact k (λ l h. i l (omega arith)) (λ l h. j l (omega arith)))
      (in_mul Q (corners (a k) (b k)) (i k (omega arith)) (j k (omega arith)))
