-- Method 7 encloses: centre and radius of method 4, continued with pA × pB and with -|pA| × |pB|.
use mathlib.Core.Path.{◌≡◌, sym, ◌∙◌, ap}
use mathlib.Core.Option.{some}
use Prim.Native.Nat.{ℕ, ◌<◌}
use lib.IntN.{ℤ, pos, ◌+ℤ◌, ◌*ℤ◌, ◌-ℤ◌}
use Rattle.algebra.specs.Order.{◌≼◌}
use Rattle.algebra.specs.Sum.{Σ<}
use Rattle.algebra.proofs.Order.{≼_trans, ≼_of_≡}
use Rattle.algebra.proofs.Sum.{Σ_add}
use Rattle.enclosure.specs.Arithmetic.{Arithmetic}
use Rattle.enclosure.specs.Cell.{Cell, least_corner, greatest_corner}
use Rattle.enclosure.specs.Methods.{Range, seven, entry, radius₄, radius₇, centre, centre₇, total, shared_term, part_term}
use Rattle.enclosure.proofs.Accepted.{bound}
use Rattle.enclosure.proofs.Part.{part_is}
use Rattle.enclosure.proofs.Converted.{EachConverted}
use Rattle.enclosure.proofs.Pair.{least_above, greatest_below}
use Rattle.enclosure.proofs.Laws.{Laws}
use Rattle.enclosure.proofs.Terms.{inner, outer, mids, parts, shared, shared_above, parts_above, parts_below}
use Rattle.enclosure.proofs.RoundedSum.{continued_above, continued_below}
use Rattle.enclosure.proofs.Covers.{Covers, ends_of, ends_cover, centre_and_radius_above, centre_and_radius_below}
use Rattle.enclosure.proofs.Four.{radius_above, centre_above, centre_below}

-- ---- the pair's bounds with the parts
abbrev pub pair_radius : (a b : ℕ → Cell) → ℕ → ℤ
pair_radius a b l = inner a b l +ℤ outer a b l +ℤ shared a b l

module _ {P : ℕ} (k : ℕ) (a b : ℕ → Cell) (oka : EachConverted P k a) (okb : EachConverted P k b) where
  pub least_above₇ : (l : ℕ) → l < k → mids a b l +ℤ parts a b l -ℤ pair_radius a b l ≼ least_corner (a l) (b l)
  least_above₇ l i = least_above (a l) (b l) (oka l i) (okb l i) _ _ (part_is _ _ (oka l i).rad_nonneg) (part_is _ _ (okb l i).rad_nonneg)

  pub greatest_below₇ : (l : ℕ) → l < k → greatest_corner (a l) (b l) ≼ mids a b l +ℤ parts a b l +ℤ pair_radius a b l
  greatest_below₇ l i = greatest_below (a l) (b l) (oka l i) (okb l i) _ _ (part_is _ _ (oka l i).rad_nonneg) (part_is _ _ (okb l i).rad_nonneg)

-- ---- the sums
module _ {A : Arithmetic} (L : Laws A) (k : ℕ) (a b : ℕ → Cell) where
  open A use {up, down, units}

  centre₇_above : {s : ℤ} → centre₇ A k a b up ≡ some s → Σ< k (λ l. mids a b l +ℤ parts a b l) ≼ s *ℤ pos units
  unfolding centre₇ total
  centre₇_above h =
      let c = bound (centre A k a b up) _ h in
      ≼_trans (≼_of_≡ (Σ_add k (mids a b) (parts a b)))
      (continued_above L units (λ l. part_term A up (a l) (b l)) (parts a b) c.value (centre_above L k a b c.first)
      k (λ l i t f. parts_above L a b l t f) c.then)

  centre₇_below : {s : ℤ} → centre₇ A k a b down ≡ some s → s *ℤ pos units ≼ Σ< k (λ l. mids a b l +ℤ parts a b l)
  unfolding centre₇ total
  centre₇_below h =
      let c = bound (centre A k a b down) _ h in
      ≼_trans
      (continued_below L units (λ l. part_term A down (a l) (b l)) (parts a b) c.value (centre_below L k a b c.first)
      k (λ l i t f. parts_below L a b l t f) c.then)
      (≼_of_≡ (sym (Σ_add k (mids a b) (parts a b))))

  module _ (oka : EachConverted L.P k a) (okb : EachConverted L.P k b) where
    radius₇_above : {r : ℤ} → radius₇ A k a b ≡ some r → Σ< k (pair_radius a b) ≼ r *ℤ pos units
    unfolding radius₇ total
    radius₇_above h =
        let c = bound (radius₄ A k a b) _ h in
        ≼_trans (≼_of_≡ (Σ_add k (λ l. inner a b l +ℤ outer a b l) (shared a b) ∙ ap (λ z. z +ℤ Σ< k (shared a b)) (Σ_add k (inner a b) (outer a b))))
        (continued_above L units (λ l. shared_term A (a l) (b l)) (shared a b) c.value (radius_above L k a b oka okb c.first)
        k (λ l i t f. shared_above L a b l t f) c.then)

    pub seven_covers : (e : Range) → entry A seven k a b ≡ some e → Covers units k a b e
    unfolding entry
    seven_covers e h =
        let c = ends_of A (radius₇ A k a b) (centre₇ A k a b down) (centre₇ A k a b up) h in
        let r = radius₇_above c.rad_is in
        ends_cover L k a b (λ l. mids a b l +ℤ parts a b l) (pair_radius a b) (least_above₇ k a b oka okb) (greatest_below₇ k a b oka okb) c
        (centre_and_radius_below units c.minus c.rad _ _ (centre₇_below c.minus_is) r)
        (centre_and_radius_above units c.plus c.rad _ _ (centre₇_above c.plus_is) r)
