-- Method 4 encloses: the centre sums bracket the sum of mA × mB, and the radius is not below the sum of |mA| × rB + rA × (|mB| + rB).
use mathlib.Core.Path.{◌≡◌}
use mathlib.Core.List.{[], ◌∷◌}
use mathlib.Core.Option.{some}
use Prim.Native.Nat.{ℕ, ◌<◌}
use native.Mathlib.Omega.{arith}
use lib.IntN.{ℤ, pos, ◌+ℤ◌, ◌*ℤ◌, ◌-ℤ◌}
use Rattle.algebra.specs.Order.{◌≼◌}
use Rattle.algebra.specs.Sum.{Σ<}
use Rattle.algebra.proofs.Linear.{reading, le, lin_le}
use Rattle.algebra.proofs.Order.{≼_trans, ≼_of_≡}
use Rattle.algebra.proofs.Sum.{Σ_add}
use Rattle.enclosure.specs.Arithmetic.{Arithmetic}
use Rattle.enclosure.specs.Cell.{Cell, least_corner, greatest_corner}
use Rattle.enclosure.specs.Methods.{Range, four, entry, radius₄, centre, total, inner_term, outer_term, mid_term}
use Rattle.enclosure.proofs.Accepted.{bound}
use Rattle.enclosure.proofs.Part.{part_zero}
use Rattle.enclosure.proofs.Converted.{EachConverted}
use Rattle.enclosure.proofs.Pair.{least_above, greatest_below}
use Rattle.enclosure.proofs.Laws.{Laws}
use Rattle.enclosure.proofs.Terms.{inner, outer, mids, inner_above, outer_above, mids_above, mids_below}
use Rattle.enclosure.proofs.RoundedSum.{sum_above, sum_below, continued_above}
use Rattle.enclosure.proofs.Covers.{Covers, ends_of, ends_cover, centre_and_radius_above, centre_and_radius_below}

-- ---- the pair's bounds without method 7's parts
module _ (c x y t : ℤ) where
  no_parts_low : c +ℤ pos 0 *ℤ pos 0 -ℤ (x +ℤ y -ℤ pos 0 *ℤ pos 0) ≼ t → c -ℤ (x +ℤ y) ≼ t
  no_parts_low h = lin_le (c ∷ x ∷ y ∷ t ∷ []) (le h ∷ []) (search reading depth 30) (omega arith)

  no_parts_high : t ≼ c +ℤ pos 0 *ℤ pos 0 +ℤ (x +ℤ y -ℤ pos 0 *ℤ pos 0) → t ≼ c +ℤ (x +ℤ y)
  no_parts_high h = lin_le (c ∷ x ∷ y ∷ t ∷ []) (le h ∷ []) (search reading depth 30) (omega arith)

module _ {P : ℕ} (k : ℕ) (a b : ℕ → Cell) (oka : EachConverted P k a) (okb : EachConverted P k b) where
  pub least_above₄ : (l : ℕ) → l < k → mids a b l -ℤ (inner a b l +ℤ outer a b l) ≼ least_corner (a l) (b l)
  least_above₄ l i =
      no_parts_low (mids a b l) (inner a b l) (outer a b l) _
      (least_above (a l) (b l) (oka l i) (okb l i) (pos 0) (pos 0) (part_zero _ _ (oka l i).rad_nonneg) (part_zero _ _ (okb l i).rad_nonneg))

  pub greatest_below₄ : (l : ℕ) → l < k → greatest_corner (a l) (b l) ≼ mids a b l +ℤ (inner a b l +ℤ outer a b l)
  greatest_below₄ l i =
      no_parts_high (mids a b l) (inner a b l) (outer a b l) _
      (greatest_below (a l) (b l) (oka l i) (okb l i) (pos 0) (pos 0) (part_zero _ _ (oka l i).rad_nonneg) (part_zero _ _ (okb l i).rad_nonneg))

-- ---- the sums
module _ {A : Arithmetic} (L : Laws A) (k : ℕ) (a b : ℕ → Cell) where
  open A use {up, down, units}

  pub centre_above : {s : ℤ} → centre A k a b up ≡ some s → Σ< k (mids a b) ≼ s *ℤ pos units
  unfolding centre total
  centre_above h = sum_above L units (λ l. mid_term A up (a l) (b l)) (mids a b) 0 k (λ l i t f. mids_above L a b l t f) h

  pub centre_below : {s : ℤ} → centre A k a b down ≡ some s → s *ℤ pos units ≼ Σ< k (mids a b)
  unfolding centre total
  centre_below h = sum_below L units (λ l. mid_term A down (a l) (b l)) (mids a b) k (λ l i t f. mids_below L a b l t f) h

  module _ (oka : EachConverted L.P k a) (okb : EachConverted L.P k b) where
    pub radius_above : {r : ℤ} → radius₄ A k a b ≡ some r → Σ< k (inner a b) +ℤ Σ< k (outer a b) ≼ r *ℤ pos units
    unfolding radius₄ total
    radius_above h =
        let c = bound _ _ h in
        continued_above L units (λ l. outer_term A (a l) (b l)) (outer a b) c.value
        (sum_above L units (λ l. inner_term A (a l) (b l)) (inner a b) _ k (λ l i t f. inner_above L a b l t f) c.first)
        k (λ l i t f. outer_above L a b l t (oka l i).rad_nonneg f) c.then

    pub four_covers : (e : Range) → entry A four k a b ≡ some e → Covers units k a b e
    unfolding entry
    four_covers e h =
        let c = ends_of A (radius₄ A k a b) (centre A k a b down) (centre A k a b up) h in
        let r : Σ< k (λ l. inner a b l +ℤ outer a b l) ≼ c.rad *ℤ pos units = ≼_trans (≼_of_≡ (Σ_add k (inner a b) (outer a b))) (radius_above c.rad_is) in
        ends_cover L k a b (mids a b) (λ l. inner a b l +ℤ outer a b l) (least_above₄ k a b oka okb) (greatest_below₄ k a b oka okb) c
        (centre_and_radius_below units c.minus c.rad _ _ (centre_below c.minus_is) r)
        (centre_and_radius_above units c.plus c.rad _ _ (centre_above c.plus_is) r)
