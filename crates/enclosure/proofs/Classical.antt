-- Method 1 encloses: the least corner product of each pair, rounded down and summed down, and the greatest, rounded up and summed up.
use mathlib.Core.Path.{◌≡◌, subst}
use mathlib.Core.Option.{some, some-injective}
use Prim.Native.Nat.{ℕ}
use lib.IntN.{ℤ, pos, ◌*ℤ◌}
use Rattle.algebra.specs.Order.{◌≼◌}
use Rattle.algebra.specs.Extremes.{least₄, greatest₄}
use Rattle.algebra.proofs.Order.{≼_trans, nonneg, mul_mono_right}
use Rattle.enclosure.specs.Arithmetic.{Arithmetic}
use Rattle.enclosure.specs.Cell.{Cell, least_corner, greatest_corner}
use Rattle.enclosure.specs.Methods.{Range, least_term, greatest_term, total, entry₁}
use Rattle.enclosure.specs.Demand.{exact_lower, exact_upper}
use Rattle.enclosure.proofs.Accepted.{bound}
use Rattle.enclosure.proofs.Corners.{least_≼_first, least_≼_second, least_≼_third, least_≼_fourth, ≼_least}
use Rattle.enclosure.proofs.Corners.{first_≼_greatest, second_≼_greatest, third_≼_greatest, fourth_≼_greatest, greatest_≼}
use Rattle.enclosure.proofs.Laws.{Laws}
use Rattle.enclosure.proofs.RoundedSum.{sum_above, sum_below}
use Rattle.enclosure.proofs.Covers.{Covers}

module _ (Q : ℕ) {t c x : ℤ} where
  lower_still : t ≼ c → c *ℤ pos Q ≼ x → t *ℤ pos Q ≼ x
  lower_still h k = ≼_trans (mul_mono_right (nonneg Q) h) k

  higher_still : c ≼ t → x ≼ c *ℤ pos Q → x ≼ t *ℤ pos Q
  higher_still h k = ≼_trans k (mul_mono_right (nonneg Q) h)

module _ {A : Arithmetic} (L : Laws A) where
  open A use {up, down, units}
  open L use {units_above, up_above, down_below}

  least_term_below : (a b : Cell) (t : ℤ) → least_term A a b ≡ some t → t *ℤ pos units ≼ least_corner a b
  unfolding least_term least_corner
  least_term_below a b t h =
      let c₁ = bound (down units (a.low *ℤ b.low)) _ h in
      let c₂ = bound (down units (a.low *ℤ b.high)) _ c₁.then in
      let c₃ = bound (down units (a.high *ℤ b.low)) _ c₂.then in
      let c₄ = bound (down units (a.high *ℤ b.high)) _ c₃.then in
      let p : ℤ = c₁.value in
      let q : ℤ = c₂.value in
      let r : ℤ = c₃.value in
      let s : ℤ = c₄.value in
      let g : least₄ p q r s ≡ t = some-injective _ _ c₄.then in
      subst (λ z. z *ℤ pos units ≼ least₄ (a.low *ℤ b.low) (a.low *ℤ b.high) (a.high *ℤ b.low) (a.high *ℤ b.high)) g
      (≼_least
      (lower_still units (least_≼_first p q r s) (down_below units_above c₁.first))
      (lower_still units (least_≼_second p q r s) (down_below units_above c₂.first))
      (lower_still units (least_≼_third p q r s) (down_below units_above c₃.first))
      (lower_still units (least_≼_fourth p q r s) (down_below units_above c₄.first)))

  greatest_term_above : (a b : Cell) (t : ℤ) → greatest_term A a b ≡ some t → greatest_corner a b ≼ t *ℤ pos units
  unfolding greatest_term greatest_corner
  greatest_term_above a b t h =
      let c₁ = bound (up units (a.low *ℤ b.low)) _ h in
      let c₂ = bound (up units (a.low *ℤ b.high)) _ c₁.then in
      let c₃ = bound (up units (a.high *ℤ b.low)) _ c₂.then in
      let c₄ = bound (up units (a.high *ℤ b.high)) _ c₃.then in
      let p : ℤ = c₁.value in
      let q : ℤ = c₂.value in
      let r : ℤ = c₃.value in
      let s : ℤ = c₄.value in
      let g : greatest₄ p q r s ≡ t = some-injective _ _ c₄.then in
      subst (λ z. greatest₄ (a.low *ℤ b.low) (a.low *ℤ b.high) (a.high *ℤ b.low) (a.high *ℤ b.high) ≼ z *ℤ pos units) g
      (greatest_≼
      (higher_still units (first_≼_greatest p q r s) (up_above units_above c₁.first))
      (higher_still units (second_≼_greatest p q r s) (up_above units_above c₂.first))
      (higher_still units (third_≼_greatest p q r s) (up_above units_above c₃.first))
      (higher_still units (fourth_≼_greatest p q r s) (up_above units_above c₄.first)))

  pub classical_covers : (k : ℕ) (a b : ℕ → Cell) (e : Range) → entry₁ A k a b ≡ some e → Covers units k a b e
  unfolding entry₁ total exact_lower exact_upper
  classical_covers k a b e h =
      let c = bound (total A k a b down (least_term A) (pos 0)) _ h in
      let d = bound (total A k a b up (greatest_term A) (pos 0)) _ c.then in
      let g : record { lower = c.value; upper = d.value } ≡ e = some-injective _ _ d.then in
      subst (λ z. Covers units k a b z) g
      (record {
        lower_side = sum_below L units (λ l. least_term A (a l) (b l)) (λ l. least_corner (a l) (b l)) k
            (λ l i t f. least_term_below (a l) (b l) t f) c.first;
        upper_side = sum_above L units (λ l. greatest_term A (a l) (b l)) (λ l. greatest_corner (a l) (b l)) 0 k
            (λ l i t f. greatest_term_above (a l) (b l) t f) d.first;
      })
