-- Errors: the directed roundings are less than a step off and the nearest at most half a step, so at most 1 / 2 ^ (prec - 1), or half of that, of
-- the exact value, and what D leaves of a unit; and the nearest at most half the spacing of the result. Assumes nothing.
use mathlib.Core.Path.{◌≡◌, sym, ap, subst, subst₂}
use mathlib.Core.Logic.{⊎_elim}
use Prim.Native.Nat.{ℕ, suc, ◌+◌, ◌-◌, ◌*◌, ◌^◌, ◌≤◌, ◌<◌, min}
use native.Mathlib.Omega.{arith}
use native.Mathlib.Nat.{le_trans, mul-le-mul_left, mul-le-mul_right, le_of_mul-le-mul_right}
use lib.Pow.{pow_mono}
use lib.IntN.{ℤ, pos, negsuc, neg_ℤ, nat_abs}
use Rattle.algebra.specs.Order.{◌≼◌}
use Rattle.algebra.proofs.Order.{≼_trans, neg_mono}
use Rattle.algebra.proofs.Natural.{to_le}
use Rattle.rounding.specs.Format.{Format, half, MAX, expo, spacing}
use Rattle.rounding.specs.Rounding.{ex, step, lo, hi, nr}
use Rattle.rounding.specs.Property.{off, IsUp, IsDown, IsNear, Err}
use Rattle.rounding.proofs.Grid.{scale}
use Rattle.rounding.proofs.Spacing.{expo_reaches}
use Rattle.rounding.proofs.Bracket.{lo_low, lo_near, hi_high, hi_near, hi_least}
use Rattle.rounding.proofs.Sign.{max_form, of_neg_le, nat_abs_neg, off_neg, dist, dist_neg}
use Rattle.rounding.proofs.Directed.{up_unique, up_pos, up_neg, num_high, mirrored}
use Rattle.rounding.proofs.Closest.{gap, nr_half, nr_large}
use Rattle.rounding.proofs.Nearest.{near_magnitude, near_gap}

module _ (f : Format) (D : ℕ) (d : 0 < D) where
  -- ---- directed: less than a step

  -- up, the magnitude is that of hi or lo
  pub up_magnitude_pos : {N : ℕ} {v : ℤ} → IsUp f D (pos N) v → v ≡ pos (hi f D N)
  up_magnitude_pos {N} u = up_unique u (up_pos f D d N (hi_least f D N d (max_form f) (to_le (≼_trans u.above (num_high f D d u.num)))))

  pub up_magnitude_neg : {n : ℕ} {v : ℤ} → IsUp f D (negsuc n) v → neg_ℤ (pos (MAX f * D)) ≼ negsuc n → v ≡ neg_ℤ (pos (lo f D (suc n)))
  up_magnitude_neg {n} u l = up_unique u (subst (λ m. IsUp f D (negsuc n) (neg_ℤ (pos m))) least (up_neg f D d n))
    where
      fits : lo f D (suc n) ≤ MAX f
      fits = le_of_mul-le-mul_right (le_trans (lo_low f D (suc n) d) (of_neg_le {a = suc n} l)) d

      least : min (lo f D (suc n)) (MAX f) ≡ lo f D (suc n)
      least = omega (arith, fits)

  pub up_step : {X v : ℤ} → IsUp f D X v → neg_ℤ (pos (MAX f * D)) ≼ X → off D X v < step f D (nat_abs X)
  up_step {X = pos N} u l = subst (λ v. off D (pos N) v < step f D N) (sym (up_magnitude_pos u)) (rw (dist (hi_high f D N d)) near)
    where
      near : hi f D N * D - N < step f D N
      near = omega (arith, hi_near f D N d, hi_high f D N d)
  up_step {X = negsuc n} u l = subst (λ v. off D (negsuc n) v < step f D (suc n)) (sym (up_magnitude_neg u l)) (rw distance near)
    where
      distance : off D (negsuc n) (neg_ℤ (pos (lo f D (suc n)))) ≡ suc n - lo f D (suc n) * D
      distance = dist_neg (lo f D (suc n)) D (suc n) (lo_low f D (suc n) d)

      near : suc n - lo f D (suc n) * D < step f D (suc n)
      near = omega (arith, lo_near f D (suc n) d, lo_low f D (suc n) d)

  pub down_step : {X v : ℤ} → IsDown f D X v → X ≼ pos (MAX f * D) → off D X v < step f D (nat_abs X)
  down_step {X} {v} u l = subst₂ (λ e n. e < step f D n) (off_neg D X v) (nat_abs_neg X) (up_step (mirrored f D d u) (neg_mono l))

  step_err : (N e : ℕ) → e < step f D N → half f * e ≤ N + half f * (D - 1)
  step_err N e h =
      ⊎_elim
      (λ (z : ex f D N ≡ 0). omega (arith, mul-le-mul_left (half f) (small z)))
      (λ (z : half f * step f D N ≤ N). omega (arith, mul-le-mul_left (half f) h))
      (scale f D N d).above
    where
      small : ex f D N ≡ 0 → e ≤ D - 1
      small z = omega (arith, ap (λ x. 2 ^ x * D) z)

  pub up_err : {X v : ℤ} → IsUp f D X v → neg_ℤ (pos (MAX f * D)) ≼ X → Err (half f) D X v
  up_err {X} {v} u l = record { bound = step_err (nat_abs X) (off D X v) (up_step u l) }

  pub down_err : {X v : ℤ} → IsDown f D X v → X ≼ pos (MAX f * D) → Err (half f) D X v
  down_err {X} {v} u l = record { bound = step_err (nat_abs X) (off D X v) (down_step u l) }

-- ---- nearest: at most half a step
module _ (f : Format) (D N : ℕ) (d : 0 < D) where
  pub nr_err : 2 * half f * gap (nr f D N * D) N ≤ N + 2 * half f * (D - 1)
  nr_err = go (gap (nr f D N * D) N) (nr_half f D N d)
    where
      go : (e : ℕ) → 2 * e ≤ step f D N → 2 * half f * e ≤ N + 2 * half f * (D - 1)
      go e h =
          ⊎_elim
          (λ (z : ex f D N ≡ 0). omega (arith, mul-le-mul_left (2 * half f) (small z)))
          (λ (z : half f * step f D N ≤ N). omega (arith, mul-le-mul_left (half f) h))
          (scale f D N d).above
        where
          small : ex f D N ≡ 0 → e ≤ D - 1
          small z = omega (arith, ap (λ x. 2 ^ x * D) z)

module _ (f : Format) (D : ℕ) (d : 0 < D) where
  pub near_err : {X v : ℤ} → IsNear f D X v → Err (2 * half f) D X v
  near_err {X} n = record { bound = rw (near_gap f D d n) (nr_err f D (nat_abs X) d) }

  pub near_spacing : {X v : ℤ} → IsNear f D X v → 2 * off D X v ≤ spacing f v * D
  near_spacing {X} {v} n = omega (arith, near_gap f D d n, nr_half f D (nat_abs X) d, mul-le-mul_right D (pow_mono larger))
    where
      larger : ex f D (nat_abs X) ≤ expo f (nat_abs v)
      larger =
          ⊎_elim (λ (z : ex f D (nat_abs X) ≡ 0). omega arith) (λ l. expo_reaches f (rw (near_magnitude f D d n) l)) (nr_large f D (nat_abs X) d)
