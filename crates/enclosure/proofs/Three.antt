-- Method 3 encloses: the centre is summed to nearest, and its error is paid for by the radius, where k is at most 32.
use mathlib.Core.Path.{◌≡◌, ap}
use mathlib.Core.List.{[], ◌∷◌}
use mathlib.Core.Option.{some}
use Prim.Native.Nat.{ℕ, ◌+◌, ◌*◌, ◌≤◌, ◌<◌}
use native.Mathlib.Omega.{arith}
use native.Mathlib.Nat.{mul-le-mul_right, le_of_mul-le-mul_left}
use lib.IntN.{ℤ, pos, ◌+ℤ◌, ◌*ℤ◌, ◌-ℤ◌}
use Rattle.algebra.specs.Order.{◌≼◌}
use Rattle.algebra.specs.Absolute.{abs}
use Rattle.algebra.specs.Sum.{Σ<}
use Rattle.algebra.proofs.Reading.{by_ring}
use Rattle.algebra.proofs.Linear.{reading, le, lin_le}
use Rattle.algebra.proofs.Order.{≼_refl, cancel_le}
use Rattle.algebra.proofs.Natural.{of_le, of_lt}
use Rattle.rounding.specs.Property.{off}
use Rattle.enclosure.specs.Arithmetic.{Arithmetic}
use Rattle.enclosure.specs.Cell.{Cell}
use Rattle.enclosure.specs.Methods.{Range, three, entry, radius₃, centre, total, mid_term}
use Rattle.enclosure.proofs.Converted.{EachConverted}
use Rattle.enclosure.proofs.Laws.{Laws}
use Rattle.enclosure.proofs.Terms.{inner, outer, mids}
use Rattle.enclosure.proofs.Covers.{Covers, ends_of, ends_cover, paid_above, paid_below}
use Rattle.enclosure.proofs.Four.{least_above₄, greatest_below₄}
use Rattle.enclosure.proofs.Accumulate.{magnitudes, zero_approx, accumulate}
use Rattle.enclosure.proofs.Traces.{near_trace}
use Rattle.enclosure.proofs.ThreeRadius.{radius₃_above}

-- ---- over whole numbers: Y is the sum of |mA| × |mB|, E the centre's error, in 1 / Q of a unit
centre_error : (P Q k Y E : ℕ) → 64 * (2 * P * E) ≤ (65 * k + 64) * Y + 65 * k * (2 * P * Q) → k ≤ 32 → 64 ≤ P → 2 * P * E ≤ (k + 2) * Y + 2 * P * (2 * P * Q)
centre_error P Q k Y E h few p =
    let a : 65 * k + 64 ≤ 64 * (k + 2) = omega arith in
    let b : 65 * k ≤ 128 * P = omega arith in
    le_of_mul-le-mul_left {k = 64} (omega (arith, mul-le-mul_right Y a, mul-le-mul_right (2 * P * Q) b, h)) (omega arith)

-- r is the radius as rounded, R the exact one: it pays for the error too
pays : (P Q K Y E : ℕ) (r R : ℤ) → 0 < 2 * P → 2 * P * E ≤ K * Y + 2 * P * (2 * P * Q)
    → pos (K * Y) +ℤ pos (2 * P) *ℤ R +ℤ pos (2 * P * (2 * P * Q)) ≼ r *ℤ pos (2 * P * Q) → R +ℤ pos E ≼ r *ℤ pos Q
pays P Q K Y E r R p e h =
    let paid : pos (2 * P * E) ≼ pos (K * Y + 2 * P * (2 * P * Q)) = of_le e in
    cancel_le (of_lt p) (lin_le (pos P ∷ pos Q ∷ pos K ∷ pos Y ∷ pos E ∷ r ∷ R ∷ []) (le paid ∷ le h ∷ []) (search reading depth 40 fits 9999) (omega arith))

-- ---- of the cells
module _ {A : Arithmetic} (L : Laws A) (k : ℕ) (a b : ℕ → Cell) (few : k ≤ 32) (fine : 8388608 ≤ L.P) where
  open A use {near, units}
  open L use {P}

  near_enough : {s : ℤ} → centre A k a b near ≡ some s → 2 * P * off units (Σ< k (mids a b)) s ≤ (k + 2) * magnitudes k (mids a b) + 2 * P * (2 * P * units)
  unfolding centre total mid_term
  near_enough {s} h =
      let t = accumulate (zero_approx (2 * P) units) (near_trace L (mids a b) (pos 0) k h) (omega (arith, few, fine)) in
      let e : pos 0 +ℤ Σ< k (mids a b) ≡ Σ< k (mids a b) = by_ring (Σ< k (mids a b) ∷ []) (search reading depth 20) tt in
      centre_error P units k (magnitudes k (mids a b)) (off units (Σ< k (mids a b)) s)
      (omega (arith, t.error, ap (λ z. P * off units z s) e)) few (omega (arith, fine))

  pub three_covers : EachConverted P k a → EachConverted P k b → (e : Range) → entry A three k a b ≡ some e → Covers units k a b e
  unfolding entry
  three_covers oka okb e h =
      let c = ends_of A (radius₃ A k a b) (centre A k a b near) (centre A k a b near) h in
      let M : ℤ = Σ< k (mids a b) in
      let R : ℤ = Σ< k (λ l. inner a b l +ℤ outer a b l) in
      let Y : ℕ = magnitudes k (mids a b) in
      let r = radius₃_above L k a b oka c.rad_is in
      let p : 0 < 2 * P = omega (arith, fine) in
      ends_cover L k a b (mids a b) (λ l. inner a b l +ℤ outer a b l) (least_above₄ k a b oka okb) (greatest_below₄ k a b oka okb) c
      (paid_below units c.minus c.rad _ M R (pays P units (k + 2) Y _ c.rad R p (near_enough c.minus_is) r) (≼_refl (abs (c.minus *ℤ pos units -ℤ M))))
      (paid_above units c.plus c.rad _ M R (pays P units (k + 2) Y _ c.rad R p (near_enough c.plus_is) r) (≼_refl (abs (c.plus *ℤ pos units -ℤ M))))
