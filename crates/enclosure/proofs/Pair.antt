-- The product of two cells lies within centre and radius: m × n + p × q, and |m| × s + r × (|n| + s) - |p| × |q|, where p and q are
-- method 7's or 0. So do all corner products of a pair.
use mathlib.Core.Path.{◌≡◌, refl, sym, ◌∙◌, ap₂}
use mathlib.Core.List.{List, [], ◌∷◌}
use mathlib.Core.Logic.{⊎_elim}
use Prim.Native.Nat.{ℕ}
use native.Mathlib.Omega.{arith}
use lib.IntN.{ℤ, pos, neg_ℤ, nat_abs, ◌+ℤ◌, ◌*ℤ◌, ◌-ℤ◌}
use Rattle.algebra.specs.Order.{◌≼◌}
use Rattle.algebra.specs.Absolute.{abs}
use Rattle.algebra.proofs.RingLaws.{neg_mul, mul_neg}
use Rattle.algebra.proofs.Reading.{by_ring}
use Rattle.algebra.proofs.Linear.{reading, le, lin_le}
use Rattle.algebra.proofs.Order.{◌⊠◌, nonneg}
use Rattle.algebra.proofs.Corner.{corner_lower}
use Rattle.enclosure.specs.Cell.{Cell, least_corner, greatest_corner}
use Rattle.enclosure.proofs.Corners.{≼_least, greatest_≼}
use Rattle.enclosure.proofs.Within.{Within, within_at, within_neg, within_of_neg, abs_nonneg, abs_nonpos}
use Rattle.enclosure.proofs.Part.{Part}
use Rattle.enclosure.proofs.Converted.{Converted, low_within, high_within}

-- ---- both midpoints not negative: x in m ± r, y in n ± s
module _ (x y m n r s p q : ℤ) (x₁ : m -ℤ r ≼ x) (x₂ : x ≼ m +ℤ r) (y₁ : n -ℤ s ≼ y) (y₂ : y ≼ n +ℤ s)
    (p₀ : pos 0 ≼ p) (pm : p ≼ m) (pr : p ≼ r) (q₀ : pos 0 ≼ q) (qn : q ≼ n) (qs : q ≼ s) where
  product_high : x *ℤ y ≼ m *ℤ n +ℤ (m *ℤ s +ℤ r *ℤ (n +ℤ s))
  product_high =
      let u₁ : pos 0 ≼ (m +ℤ r) +ℤ x = lin_le (x ∷ m ∷ r ∷ p ∷ []) (le x₁ ∷ le p₀ ∷ le pm ∷ []) (search reading depth 30) (omega arith) in
      let u₂ : pos 0 ≼ (n +ℤ s) +ℤ y = lin_le (y ∷ n ∷ s ∷ q ∷ []) (le y₁ ∷ le q₀ ∷ le qn ∷ []) (search reading depth 30) (omega arith) in
      lin_le (x ∷ y ∷ m ∷ n ∷ r ∷ s ∷ []) (le (x₂ ⊠ u₂) ∷ le (u₁ ⊠ y₂) ∷ []) (search reading depth 30) (omega arith)

  product_low : m *ℤ n +ℤ p *ℤ q -ℤ (m *ℤ s +ℤ r *ℤ (n +ℤ s) -ℤ p *ℤ q) ≼ x *ℤ y
  product_low =
      let ρ : List ℤ = m ∷ n ∷ r ∷ s ∷ p ∷ q ∷ [] in
      let g₁ : p *ℤ q ≼ m *ℤ s = lin_le ρ (le (pm ⊠ q₀) ∷ le (p₀ ⊠ qs) ∷ le (pm ⊠ qs) ∷ []) (search reading depth 30) (omega arith) in
      let g₂ : p *ℤ q ≼ r *ℤ n = lin_le ρ (le (pr ⊠ q₀) ∷ le (p₀ ⊠ qn) ∷ le (pr ⊠ qn) ∷ []) (search reading depth 30) (omega arith) in
      let g₃ : p *ℤ q ≼ r *ℤ s = lin_le ρ (le (pr ⊠ q₀) ∷ le (p₀ ⊠ qs) ∷ le (pr ⊠ qs) ∷ []) (search reading depth 30) (omega arith) in
      let g₀ : pos 0 ≼ p *ℤ q = lin_le ρ (le (p₀ ⊠ q₀) ∷ []) (search reading depth 30) (omega arith) in
      corner_lower x (m -ℤ r) (m +ℤ r) y (n -ℤ s) (n +ℤ s) x₁ x₂ y₁ y₂ (m *ℤ n +ℤ p *ℤ q -ℤ (m *ℤ s +ℤ r *ℤ (n +ℤ s) -ℤ p *ℤ q))
      (lin_le ρ (le g₃ ∷ []) (search reading depth 30) (omega arith)) (lin_le ρ (le g₁ ∷ []) (search reading depth 30) (omega arith))
      (lin_le ρ (le g₂ ∷ []) (search reading depth 30) (omega arith))
      (lin_le ρ (le g₁ ∷ le g₂ ∷ le g₃ ∷ le g₀ ∷ []) (search reading depth 30) (omega arith))

within_nonneg : (x y m n r s p q : ℤ) → Within m r x → Within n s y → pos 0 ≼ p → p ≼ m → p ≼ r → pos 0 ≼ q → q ≼ n → q ≼ s
    → Within (m *ℤ n +ℤ p *ℤ q) (m *ℤ s +ℤ r *ℤ (n +ℤ s) -ℤ p *ℤ q) (x *ℤ y)
within_nonneg x y m n r s p q u w p₀ pm pr q₀ qn qs =
    let high = product_high x y m n r s p q u.not_under u.not_over w.not_under w.not_over p₀ pm pr q₀ qn qs in
    record {
      not_under = product_low x y m n r s p q u.not_under u.not_over w.not_under w.not_over p₀ pm pr q₀ qn qs;
      not_over = lin_le (x ∷ y ∷ m ∷ n ∷ r ∷ s ∷ p ∷ q ∷ []) (le high ∷ []) (search reading depth 30) (omega arith);
    }

-- ---- midpoints of any sign
abbrev pub radius_of : ℤ → ℤ → ℤ → ℤ → ℤ → ℤ → ℤ
radius_of m n r s p q = abs m *ℤ s +ℤ r *ℤ (abs n +ℤ s) -ℤ abs p *ℤ abs q

second_neg : (m n p q : ℤ) → m *ℤ neg_ℤ n +ℤ p *ℤ neg_ℤ q ≡ neg_ℤ (m *ℤ n +ℤ p *ℤ q)
second_neg m n p q = by_ring (m ∷ n ∷ p ∷ q ∷ []) (search reading depth 20) tt

first_neg : (m n p q : ℤ) → neg_ℤ m *ℤ n +ℤ neg_ℤ p *ℤ q ≡ neg_ℤ (m *ℤ n +ℤ p *ℤ q)
first_neg m n p q = by_ring (m ∷ n ∷ p ∷ q ∷ []) (search reading depth 20) tt

both_neg : (m n p q : ℤ) → neg_ℤ m *ℤ neg_ℤ n +ℤ neg_ℤ p *ℤ neg_ℤ q ≡ m *ℤ n +ℤ p *ℤ q
both_neg m n p q = by_ring (m ∷ n ∷ p ∷ q ∷ []) (search reading depth 20) tt

neg_mul_neg : (x y : ℤ) → neg_ℤ x *ℤ neg_ℤ y ≡ x *ℤ y
neg_mul_neg x y = by_ring (x ∷ y ∷ []) (search reading depth 20) tt

module _ (x y m n r s p q : ℤ) (u : Within m r x) (w : Within n s y) (a : Part m r p) (b : Part n s q) where
  of_abs : (x' y' : ℤ) → Within (abs m) r x' → Within (abs n) s y' → Within (abs m *ℤ abs n +ℤ abs p *ℤ abs q) (radius_of m n r s p q) (x' *ℤ y')
  of_abs x' y' i j =
      within_nonneg x' y' (abs m) (abs n) r s (abs p) (abs q) i j
      (nonneg (nat_abs p)) a.within_mid a.within_rad (nonneg (nat_abs q)) b.within_mid b.within_rad

  centre_is : {m' n' p' q' : ℤ} → abs m ≡ m' → abs n ≡ n' → abs p ≡ p' → abs q ≡ q' → abs m *ℤ abs n +ℤ abs p *ℤ abs q ≡ m' *ℤ n' +ℤ p' *ℤ q'
  centre_is em en ep eq' = ap₂ ◌+ℤ◌ (ap₂ ◌*ℤ◌ em en) (ap₂ ◌*ℤ◌ ep eq')

  abbrev Holds : Type 0
  Holds = Within (m *ℤ n +ℤ p *ℤ q) (radius_of m n r s p q) (x *ℤ y)

  both_nonneg : (pos 0 ≼ m) × (pos 0 ≼ p) → (pos 0 ≼ n) × (pos 0 ≼ q) → Holds
  both_nonneg f g =
      let em = abs_nonneg m f.0 in
      let en = abs_nonneg n g.0 in
      within_at (centre_is em en (abs_nonneg p f.1) (abs_nonneg q g.1)) refl (of_abs x y (within_at (sym em) refl u) (within_at (sym en) refl w))

  second_nonpos : (pos 0 ≼ m) × (pos 0 ≼ p) → (n ≼ pos 0) × (q ≼ pos 0) → Holds
  second_nonpos f g =
      let em = abs_nonneg m f.0 in
      let en = abs_nonpos n g.0 in
      within_of_neg (within_at (centre_is em en (abs_nonneg p f.1) (abs_nonpos q g.1) ∙ second_neg m n p q) (mul_neg x y)
      (of_abs x (neg_ℤ y) (within_at (sym em) refl u) (within_at (sym en) refl (within_neg w))))

  first_nonpos : (m ≼ pos 0) × (p ≼ pos 0) → (pos 0 ≼ n) × (pos 0 ≼ q) → Holds
  first_nonpos f g =
      let em = abs_nonpos m f.0 in
      let en = abs_nonneg n g.0 in
      within_of_neg (within_at (centre_is em en (abs_nonpos p f.1) (abs_nonneg q g.1) ∙ first_neg m n p q) (neg_mul x y)
      (of_abs (neg_ℤ x) y (within_at (sym em) refl (within_neg u)) (within_at (sym en) refl w)))

  both_nonpos : (m ≼ pos 0) × (p ≼ pos 0) → (n ≼ pos 0) × (q ≼ pos 0) → Holds
  both_nonpos f g =
      let em = abs_nonpos m f.0 in
      let en = abs_nonpos n g.0 in
      within_at (centre_is em en (abs_nonpos p f.1) (abs_nonpos q g.1) ∙ both_neg m n p q) (neg_mul_neg x y)
      (of_abs (neg_ℤ x) (neg_ℤ y) (within_at (sym em) refl (within_neg u)) (within_at (sym en) refl (within_neg w)))

  pub pair_within : Within (m *ℤ n +ℤ p *ℤ q) (radius_of m n r s p q) (x *ℤ y)
  pair_within =
      ⊎_elim (λ f. ⊎_elim (both_nonneg f) (second_nonpos f) b.side) (λ f. ⊎_elim (first_nonpos f) (both_nonpos f) b.side) a.side

-- ---- the corner products of a pair
module _ {P : ℕ} (a b : Cell) (i : Converted P a) (j : Converted P b) (p q : ℤ) (s : Part a.mid a.rad p) (t : Part b.mid b.rad q) where
  corner_within : (x y : ℤ) → Within a.mid a.rad x → Within b.mid b.rad y
      → Within (a.mid *ℤ b.mid +ℤ p *ℤ q) (radius_of a.mid b.mid a.rad b.rad p q) (x *ℤ y)
  corner_within x y u w = pair_within x y a.mid b.mid a.rad b.rad p q u w s t

  pub least_above : a.mid *ℤ b.mid +ℤ p *ℤ q -ℤ radius_of a.mid b.mid a.rad b.rad p q ≼ least_corner a b
  unfolding least_corner
  least_above =
      ≼_least
      (corner_within a.low b.low (low_within i) (low_within j)).not_under (corner_within a.low b.high (low_within i) (high_within j)).not_under
      (corner_within a.high b.low (high_within i) (low_within j)).not_under
      (corner_within a.high b.high (high_within i) (high_within j)).not_under

  pub greatest_below : greatest_corner a b ≼ a.mid *ℤ b.mid +ℤ p *ℤ q +ℤ radius_of a.mid b.mid a.rad b.rad p q
  unfolding greatest_corner
  greatest_below =
      greatest_≼
      (corner_within a.low b.low (low_within i) (low_within j)).not_over (corner_within a.low b.high (low_within i) (high_within j)).not_over
      (corner_within a.high b.low (high_within i) (low_within j)).not_over
      (corner_within a.high b.high (high_within i) (high_within j)).not_over
