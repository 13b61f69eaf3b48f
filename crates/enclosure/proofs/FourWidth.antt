-- The width of method 4 over any arithmetic, where k is from 1 to 32. In 1 / Q of a unit it is at most 3 / 2 of the exact width,
-- 8 × (k + 4) × S / P, 4 × T and 8 × k × Q, with S and T as in the demand; here all is times 2 × P.
use mathlib.Core.Path.{◌≡◌, ap}
use mathlib.Core.List.{[], ◌∷◌}
use mathlib.Core.Option.{some}
use Prim.Native.Nat.{ℕ, ◌+◌, ◌*◌, ◌≤◌}
use native.Mathlib.Omega.{arith}
use native.Mathlib.Nat.{mul-le-mul}
use lib.IntN.{ℤ, pos, neg_ℤ, nat_abs, ◌+ℤ◌, ◌*ℤ◌, ◌-ℤ◌}
use Rattle.algebra.specs.Sum.{Σ<}
use Rattle.algebra.proofs.Reading.{by_ring}
use Rattle.algebra.proofs.Linear.{reading}
use Rattle.algebra.proofs.Order.{≼_refl}
use Rattle.algebra.proofs.Absolute.{nat_abs_add, nat_abs_mul}
use Rattle.rounding.specs.Property.{off, Err}
use Rattle.enclosure.specs.Arithmetic.{Arithmetic}
use Rattle.enclosure.specs.NaturalSum.{Σℕ}
use Rattle.enclosure.specs.Cell.{Cell, largest}
use Rattle.enclosure.specs.Methods.{Range, four, entry, radius₄, centre, total, mid_term}
use Rattle.enclosure.specs.Demand.{S, T}
use Rattle.enclosure.proofs.NaturalSum.{Σℕ_ext, Σℕ_mono}
use Rattle.enclosure.proofs.Converted.{EachConverted}
use Rattle.enclosure.proofs.Laws.{Laws, one}
use Rattle.enclosure.proofs.Terms.{inner, mids}
use Rattle.enclosure.proofs.Covers.{ends_of}
use Rattle.enclosure.proofs.Accumulate.{magnitudes, zero_approx, accumulate}
use Rattle.enclosure.proofs.Traces.{Joint, joint}
use Rattle.enclosure.proofs.CellSize.{reach}
use Rattle.enclosure.proofs.PairSize.{pair_width, reaches_≤, reaches_exceed}
use Rattle.enclosure.proofs.PairSums.{reaches_sum, exceed_sum}
use Rattle.enclosure.proofs.EndsWidth.{ends_width, upper_not_low, lower_not_high}
use Rattle.enclosure.proofs.FourRadius.{raised_outer, radius_close, radius_terms_≤}
use Rattle.enclosure.proofs.FourSteps.{four_steps}

-- a rounded value from the exact one and the error
size_from_error : (Q : ℕ) (r X : ℤ) → nat_abs r * Q ≤ nat_abs X + off Q X r
size_from_error Q r X =
    let e : r *ℤ pos Q ≡ X +ℤ (r *ℤ pos Q -ℤ X) = by_ring (r ∷ X ∷ pos Q ∷ []) (search reading depth 20) tt in
    omega (arith, nat_abs_mul r (pos Q), ap nat_abs e, nat_abs_add X (r *ℤ pos Q -ℤ X))

module _ {A : Arithmetic} (L : Laws A) (k : ℕ) (a b : ℕ → Cell) (oka : EachConverted L.P k a) (okb : EachConverted L.P k b) where
  open A use {up, down, units}
  open L use {P, MAX, up_room, up_err, down_room, down_err}

  abbrev reaches : ℕ → ℕ
  reaches l = reach (a l) * reach (b l)

  abbrev mids_size : ℕ → ℕ
  mids_size l = nat_abs (a l).mid * nat_abs (b l).mid

  centres : {s t : ℤ} → centre A k a b down ≡ some s → centre A k a b up ≡ some t → Joint L (mids a b) (pos 0) (pos 0) k s t
  unfolding centre total mid_term
  centres h i = joint L (mids a b) (pos 0) (pos 0) (≼_refl (pos 0)) k h i

  mids_are : magnitudes k (mids a b) ≡ Σℕ k mids_size
  mids_are = Σℕ_ext k (λ l. nat_abs (mids a b l)) mids_size (λ l i. nat_abs_mul (a l).mid (b l).mid)

  pub four_width : 1 ≤ k → k ≤ 32 → 4 ≤ units → 8388608 ≤ P → (e : Range) → entry A four k a b ≡ some e
      → 2 * (P * (units * nat_abs (e.upper -ℤ e.lower)))
      ≤ 3 * (P * Σℕ k (λ l. pair_width (a l) (b l))) + 16 * (k + 4) * S k a b + 8 * (P * T k a b) + 16 * k * (P * units)
  unfolding entry S T
  four_width k≥ k≤ Q≥ P≥ e h =
      let c = ends_of A (radius₄ A k a b) (centre A k a b down) (centre A k a b up) h in
      let few : 65 * (2 * k) ≤ P = omega (arith, k≤, P≥) in
      let r = radius_close L k a b oka okb few c.rad_is in
      let j = centres c.minus_is c.plus_is in
      let au = accumulate (zero_approx P units) j.up_trace (omega (arith, few)) in
      let ad = accumulate (zero_approx P units) j.down_trace (omega (arith, few)) in
      let M : ℤ = pos 0 +ℤ Σ< k (mids a b) in
      let X : ℤ = pos 0 +ℤ Σ< k (inner a b) +ℤ Σ< k (raised_outer L k a b oka okb) in
      let hu : Err P 1 (c.plus +ℤ c.rad) e.upper =
      up_err one c.upper_is (upper_not_low MAX c.minus c.plus c.rad j.ordered r.nonnegative (down_room one c.lower_is)) in
      let hd : Err P 1 (c.minus +ℤ neg_ℤ c.rad) e.lower =
      down_err one c.lower_is (lower_not_high MAX c.minus c.plus c.rad j.ordered r.nonnegative (up_room one c.upper_is)) in
      let m : nat_abs M ≤ Σℕ k mids_size = omega (arith, au.size, mids_are) in
      let four : 4 ≤ P = omega (arith, P≥) in
      four_steps P units k (Σℕ k reaches) (Σℕ k mids_size) (magnitudes k (inner a b) + magnitudes k (raised_outer L k a b oka okb))
      (off units X c.rad) (off units M c.plus) (off units M c.minus) (nat_abs c.rad * units) (nat_abs (e.upper -ℤ e.lower))
      (Σℕ k (λ l. pair_width (a l) (b l))) (Σℕ k (λ l. largest (a l) * largest (b l))) (Σℕ k (λ l. largest (a l) + largest (b l)))
      (Σℕ_mono k mids_size reaches (λ l i. mul-le-mul (omega arith) (omega arith)))
      (omega (arith, size_from_error units c.rad X, r.close.size))
      (omega (arith, r.close.error))
      (omega (arith, au.error, mids_are, ap (λ z. k * z) mids_are))
      (omega (arith, ad.error, mids_are, ap (λ z. k * z) mids_are))
      (radius_terms_≤ L k a b oka okb)
      (ends_width P units c.plus c.minus c.rad e.upper e.lower M (Σℕ k mids_size) m hu hd)
      (exceed_sum P reaches mids_size (λ l. pair_width (a l) (b l)) (λ l. largest (a l) * largest (b l)) (λ l. largest (a l) + largest (b l)) k
      (λ l i. reaches_exceed (a l) (b l) (oka l i) (okb l i) four))
      (reaches_sum P reaches (λ l. largest (a l) * largest (b l)) (λ l. largest (a l) + largest (b l)) k
      (λ l i. reaches_≤ (a l) (b l) (oka l i) (okb l i) four))
      k≥ k≤ Q≥ P≥
