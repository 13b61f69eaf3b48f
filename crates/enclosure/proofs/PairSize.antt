-- The sizes of a pair of converted cells: the product of the reaches against |mA| × |mB|, the exact width of the pair, and the product and the
-- sum of the largest magnitudes.
use mathlib.Core.Path.{◌≡◌, sym, ap, subst, subst₂}
use mathlib.Core.List.{List, [], ◌∷◌}
use Prim.Native.Nat.{ℕ, ◌+◌, ◌*◌, ◌≤◌}
use native.Mathlib.Omega.{arith}
use native.Mathlib.Nat.{mul-le-mul, mul-le-mul_left, mul-le-mul_right, le_of_mul-le-mul_left}
use lib.IntN.{ℤ, pos, nat_abs, ◌+ℤ◌, ◌*ℤ◌, ◌-ℤ◌}
use Rattle.algebra.specs.Order.{◌≼◌}
use Rattle.algebra.specs.Absolute.{abs}
use Rattle.algebra.proofs.Linear.{Fact, reading, le, eq, lin_le}
use Rattle.algebra.proofs.Order.{≼_trans, gap_nonneg}
use Rattle.algebra.proofs.Natural.{to_le}
use Rattle.algebra.proofs.Absolute.{abs_split}
use Rattle.enclosure.specs.Cell.{Cell, largest, least_corner, greatest_corner}
use Rattle.enclosure.proofs.Corners.{Corners, corners}
use Rattle.enclosure.proofs.Within.{abs_nonneg}
use Rattle.enclosure.proofs.Converted.{Converted}
use Rattle.enclosure.proofs.CellSize.{reach, twice_middle, wide, wide_is, middle_and_width_≤, largest_≤, mid_≤_largest, reach_≤, middle_≤}

-- ---- over naturals

-- a product of two numbers that are each a little larger: A and B are the largest magnitudes
reaches_product : (P z₁ z₂ A B : ℕ) → P * z₁ ≤ (P + 2) * A + P → P * z₂ ≤ (P + 2) * B + P → 4 ≤ P
    → P * (z₁ * z₂) ≤ (P + 5) * (A * B) + (P + 2) * (A + B) + P
reaches_product P z₁ z₂ A B h k p =
    let s : P * (P * (z₁ * z₂)) ≤ P * ((P + 5) * (A * B) + (P + 2) * (A + B) + P) = omega (arith, mul-le-mul h k, mul-le-mul_right (A * B) p) in
    le_of_mul-le-mul_left s (omega arith)

-- u is about u' and v about v'
pub about_product : (P u v u' v' A B : ℕ) → u ≤ 2 * A → v' ≤ 2 * B → P * u ≤ P * u' + 2 * A + P → P * v ≤ P * v' + 2 * B + P
    → P * (u * v) ≤ P * (u' * v') + 8 * (A * B) + 2 * P * (A + B)
about_product P u v u' v' A B h₁ h₂ h₃ h₄ =
    omega (arith, mul-le-mul_left u h₄, mul-le-mul_right v' h₃, mul-le-mul_right (2 * B + P) h₁, mul-le-mul_left (2 * A + P) h₂)

-- z the reaches' product, y that of the midpoints, w the exact width, s and t product and sum of the largest, mm that of the doubled middles
exceeds_mids : (P z y w s t mm : ℕ) → P * z ≤ (P + 5) * s + (P + 2) * t + P → 4 * s ≤ mm + 3 * w → P * mm ≤ P * (4 * y) + 8 * s + 2 * P * t
    → 4 * (P * z) ≤ 4 * (P * y) + 3 * (P * w) + 28 * s + (6 * P + 8) * t + 4 * P
exceeds_mids P z y w s t mm h₁ h₂ h₃ = omega (arith, mul-le-mul_left P h₂)

-- ---- three corner differences: the mixed products of |a₁ + a₂| or the width of the first cell with those of the second
corner_differences : (a₁ a₂ b₁ b₂ l h : ℤ) → Corners a₁ a₂ b₁ b₂ l h
    → abs (a₁ +ℤ a₂) *ℤ (b₂ -ℤ b₁) +ℤ (a₂ -ℤ a₁) *ℤ abs (b₁ +ℤ b₂) +ℤ (a₂ -ℤ a₁) *ℤ (b₂ -ℤ b₁) ≼ pos 3 *ℤ (h -ℤ l)
corner_differences a₁ a₂ b₁ b₂ l h c =
    let ρ : List ℤ = a₁ ∷ a₂ ∷ b₁ ∷ b₂ ∷ l ∷ h ∷ abs (a₁ +ℤ a₂) ∷ abs (b₁ +ℤ b₂) ∷ [] in
    abs_split (a₁ +ℤ a₂)
    (λ p e. abs_split (b₁ +ℤ b₂)
    (λ q f. lin_le ρ (first e ∷ second f ∷ le c.high₂₂ ∷ le c.low₁₁ ∷ le c.low₁₂ ∷ le c.low₂₁ ∷ []) (search reading depth 40) (omega arith))
    (λ q f. lin_le ρ (first e ∷ second f ∷ le c.high₁₁ ∷ le c.high₁₂ ∷ le c.high₂₂ ∷ le c.low₂₁ ∷ []) (search reading depth 40) (omega arith)))
    (λ p e. abs_split (b₁ +ℤ b₂)
    (λ q f. lin_le ρ (first e ∷ second f ∷ le c.high₁₁ ∷ le c.high₂₁ ∷ le c.high₂₂ ∷ le c.low₁₂ ∷ []) (search reading depth 40) (omega arith))
    (λ q f. lin_le ρ (first e ∷ second f ∷ le c.high₁₁ ∷ le c.low₁₂ ∷ le c.low₂₁ ∷ le c.low₂₂ ∷ []) (search reading depth 40) (omega arith)))
  where
    first : {x : ℤ} → abs (a₁ +ℤ a₂) ≡ x → Fact
    first e = eq (ap (λ z. z *ℤ (b₂ -ℤ b₁)) e)

    second : {y : ℤ} → abs (b₁ +ℤ b₂) ≡ y → Fact
    second f = eq (ap (λ z. (a₂ -ℤ a₁) *ℤ z) f)

-- as naturals, where X, Y and w stand for integers that are not negative
to_naturals : (x y X Y w : ℕ) (U U' W : ℤ) → pos X ≡ U → pos Y ≡ U' → pos w ≡ W
    → pos x *ℤ U' +ℤ U *ℤ pos y +ℤ U *ℤ U' ≼ pos 3 *ℤ W → x * Y + X * y + X * Y ≤ 3 * w
to_naturals x y X Y w U U' W e f g h =
    let h' : pos x *ℤ pos Y +ℤ pos X *ℤ pos y +ℤ pos X *ℤ pos Y ≼ pos 3 *ℤ pos w =
    subst₂ (λ u u'. pos x *ℤ u' +ℤ u *ℤ pos y +ℤ u *ℤ u' ≼ pos 3 *ℤ pos w) (sym e) (sym f)
    (subst (λ z. pos x *ℤ U' +ℤ U *ℤ pos y +ℤ U *ℤ U' ≼ pos 3 *ℤ z) (sym g) h) in
    to_le h'

-- ---- the pair
-- the exact width
unfoldable pub pair_width : Cell → Cell → ℕ
pair_width a b = nat_abs (greatest_corner a b -ℤ least_corner a b)

pub pair_width_is : (a b : Cell) → pos (pair_width a b) ≡ greatest_corner a b -ℤ least_corner a b
unfolding pair_width
pair_width_is a b =
    let c = corners a b in
    abs_nonneg (greatest_corner a b -ℤ least_corner a b) (gap_nonneg (≼_trans c.low₁₁ c.high₁₁))

module _ {P : ℕ} (a b : Cell) (i : Converted P a) (j : Converted P b) where
  pub middles_and_width : twice_middle a * wide b + wide a * twice_middle b + wide a * wide b ≤ 3 * pair_width a b
  middles_and_width =
      to_naturals (twice_middle a) (twice_middle b) (wide a) (wide b) (pair_width a b) _ _ _ (wide_is a i) (wide_is b j) (pair_width_is a b)
      (corner_differences a.low a.high b.low b.high (least_corner a b) (greatest_corner a b) (corners a b))

  pub largest_product_≤ : 4 * (largest a * largest b) ≤ twice_middle a * twice_middle b + 3 * pair_width a b
  largest_product_≤ = omega (arith, middles_and_width, mul-le-mul (largest_≤ a i) (largest_≤ b j))

  pub reaches_≤ : 4 ≤ P → P * (reach a * reach b) ≤ (P + 5) * (largest a * largest b) + (P + 2) * (largest a + largest b) + P
  reaches_≤ h = reaches_product P (reach a) (reach b) (largest a) (largest b) (reach_≤ a i) (reach_≤ b j) h

  pub reaches_exceed : 4 ≤ P → 4 * (P * (reach a * reach b))
      ≤ 4 * (P * (nat_abs a.mid * nat_abs b.mid)) + 3 * (P * pair_width a b) + 28 * (largest a * largest b) + (6 * P + 8) * (largest a + largest b) + 4 * P
  reaches_exceed h =
      let u : twice_middle a ≤ 2 * largest a = omega (arith, middle_and_width_≤ a i) in
      let v : 2 * nat_abs b.mid ≤ 2 * largest b = omega (arith, mid_≤_largest b j) in
      let e = about_product P (twice_middle a) (twice_middle b) (2 * nat_abs a.mid) (2 * nat_abs b.mid) (largest a) (largest b)
      u v (middle_≤ a i) (middle_≤ b j) in
      exceeds_mids P (reach a * reach b) (nat_abs a.mid * nat_abs b.mid) (pair_width a b) (largest a * largest b) (largest a + largest b)
      (twice_middle a * twice_middle b) (reaches_≤ h) largest_product_≤ (omega (arith, e))
