-- The exact terms of pair l, in 1 / Q of a unit, and that a rounded term is on the right side of its exact one.
use mathlib.Core.Path.{◌≡◌}
use mathlib.Core.List.{[], ◌∷◌}
use mathlib.Core.Option.{some}
use Prim.Native.Nat.{ℕ}
use native.Mathlib.Omega.{arith}
use lib.IntN.{ℤ, pos, neg_ℤ, ◌+ℤ◌, ◌*ℤ◌}
use Rattle.algebra.specs.Order.{◌≼◌}
use Rattle.algebra.specs.Absolute.{abs}
use Rattle.algebra.proofs.Linear.{reading, le, lin_le}
use Rattle.algebra.proofs.Order.{◌⊠◌, ≼_trans}
use Rattle.enclosure.specs.Arithmetic.{Arithmetic}
use Rattle.enclosure.specs.Cell.{Cell}
use Rattle.enclosure.specs.Methods.{part, inner_term, outer_radius, outer_term, shared_term, mid_term, part_term, largest_term}
use Rattle.enclosure.proofs.Accepted.{bound}
use Rattle.enclosure.proofs.Laws.{Laws, up_sum}

module _ (a b : ℕ → Cell) (l : ℕ) where
  -- |mA| × rB, rA × (|mB| + rB), mA × mB
  abbrev pub inner : ℤ
  inner = abs (a l).mid *ℤ (b l).rad

  abbrev pub outer : ℤ
  outer = (a l).rad *ℤ (abs (b l).mid +ℤ (b l).rad)

  abbrev pub mids : ℤ
  mids = (a l).mid *ℤ (b l).mid

  -- method 7: pA × pB, -|pA| × |pB|
  abbrev pub parts : ℤ
  parts = part (a l).mid (a l).rad *ℤ part (b l).mid (b l).rad

  abbrev pub shared : ℤ
  shared = neg_ℤ (abs (part (a l).mid (a l).rad) *ℤ abs (part (b l).mid (b l).rad))

  -- method 5: (|mA| + rA) × (|mB| + rB)
  abbrev pub reaches : ℤ
  reaches = (abs (a l).mid +ℤ (a l).rad) *ℤ (abs (b l).mid +ℤ (b l).rad)

-- r * v is below what r * w is below, where v is not above w
scaled : (Q : ℕ) (r v w t : ℤ) → pos 0 ≼ r → v ≼ w → r *ℤ w ≼ t *ℤ pos Q → r *ℤ v ≼ t *ℤ pos Q
scaled Q r v w t p h k = lin_le (r ∷ v ∷ w ∷ t ∷ pos Q ∷ []) (le (p ⊠ h) ∷ le k ∷ []) (search reading depth 30) (omega arith)

pub reach_nonneg : (m r : ℤ) → pos 0 ≼ r → pos 0 ≼ abs m +ℤ r
reach_nonneg m r h = lin_le (abs m ∷ r ∷ []) (le h ∷ []) (search reading depth 20) (omega arith)

product_≼ : (x y v w : ℤ) → pos 0 ≼ x → pos 0 ≼ y → x ≼ v → y ≼ w → x *ℤ y ≼ v *ℤ w
product_≼ x y v w p q h k = lin_le (x ∷ y ∷ v ∷ w ∷ []) (le (p ⊠ k) ∷ le (h ⊠ q) ∷ le (h ⊠ k) ∷ []) (search reading depth 30) (omega arith)

module _ {A : Arithmetic} (L : Laws A) (a b : ℕ → Cell) (l : ℕ) (t : ℤ) where
  open A use {up, down, units}
  open L use {units_above, up_above, down_below}

  pub inner_above : inner_term A (a l) (b l) ≡ some t → inner a b l ≼ t *ℤ pos units
  unfolding inner_term
  inner_above h = up_above units_above h

  pub outer_above : pos 0 ≼ (a l).rad → outer_term A (a l) (b l) ≡ some t → outer a b l ≼ t *ℤ pos units
  unfolding outer_term outer_radius
  outer_above p h =
      let c = bound (up 1 (abs (b l).mid +ℤ (b l).rad)) _ h in
      scaled units (a l).rad _ c.value t p (up_sum L c.first) (up_above units_above c.then)

  pub shared_above : shared_term A (a l) (b l) ≡ some t → shared a b l ≼ t *ℤ pos units
  unfolding shared_term
  shared_above h = up_above units_above h

  pub mids_above : mid_term A up (a l) (b l) ≡ some t → mids a b l ≼ t *ℤ pos units
  unfolding mid_term
  mids_above h = up_above units_above h

  pub mids_below : mid_term A down (a l) (b l) ≡ some t → t *ℤ pos units ≼ mids a b l
  unfolding mid_term
  mids_below h = down_below units_above h

  pub parts_above : part_term A up (a l) (b l) ≡ some t → parts a b l ≼ t *ℤ pos units
  unfolding part_term
  parts_above h = up_above units_above h

  pub parts_below : part_term A down (a l) (b l) ≡ some t → t *ℤ pos units ≼ parts a b l
  unfolding part_term
  parts_below h = down_below units_above h

  pub reaches_above : pos 0 ≼ (a l).rad → pos 0 ≼ (b l).rad → largest_term A (a l) (b l) ≡ some t → reaches a b l ≼ t *ℤ pos units
  unfolding largest_term outer_radius
  reaches_above p q h =
      let c = bound (up 1 (abs (a l).mid +ℤ (a l).rad)) _ h in
      let d = bound (up 1 (abs (b l).mid +ℤ (b l).rad)) _ c.then in
      ≼_trans
      (product_≼ _ _ c.value d.value (reach_nonneg (a l).mid (a l).rad p) (reach_nonneg (b l).mid (b l).rad q) (up_sum L c.first) (up_sum L d.first))
      (up_above units_above d.then)
