-- The width of an entry from its radius and the errors of its two centre sums: the two last roundings add at most a P-th.
use mathlib.Core.Path.{◌≡◌, ap}
use mathlib.Core.List.{[], ◌∷◌}
use Prim.Native.Nat.{ℕ, ◌+◌, ◌*◌, ◌≤◌}
use native.Mathlib.Omega.{arith}
use native.Mathlib.Nat.{mul-le-mul_left, mul-le-mul_right}
use lib.IntN.{ℤ, pos, neg_ℤ, nat_abs, ◌+ℤ◌, ◌*ℤ◌, ◌-ℤ◌}
use Rattle.algebra.specs.Order.{◌≼◌}
use Rattle.algebra.proofs.Reading.{by_ring}
use Rattle.algebra.proofs.Linear.{reading, le, lin_le}
use Rattle.algebra.proofs.Absolute.{nat_abs_add, nat_abs_mul}
use Rattle.rounding.specs.Property.{off, Err}
use Rattle.rounding.proofs.Sign.{nat_abs_neg}
use Rattle.enclosure.proofs.Magnitude.{mag_add₃, sum_err}

-- su and sd are about M / Q, U is about su + R and L about sd - R
module _ (P Q : ℕ) (su sd R U L M : ℤ) where
  end_error : (s r v : ℤ) → Err P 1 (s +ℤ r) v → P * (nat_abs (v -ℤ (s +ℤ r)) * Q) ≤ nat_abs M + off Q M s + nat_abs r * Q
  end_error s r v h =
      let g : (s +ℤ r) *ℤ pos Q ≡ M +ℤ (s *ℤ pos Q -ℤ M) +ℤ r *ℤ pos Q = by_ring (s ∷ r ∷ M ∷ pos Q ∷ []) (search reading depth 20) tt in
      omega (arith, mul-le-mul_right Q (sum_err h), nat_abs_mul (s +ℤ r) (pos Q), nat_abs_mul r (pos Q), mag_add₃ _ M (s *ℤ pos Q -ℤ M) (r *ℤ pos Q) g)

  width_splits : nat_abs (U -ℤ L) * Q ≤ nat_abs (U -ℤ (su +ℤ R)) * Q + nat_abs (L -ℤ (sd +ℤ neg_ℤ R)) * Q + off Q M su + off Q M sd + 2 * (nat_abs R * Q)
  width_splits =
      let p : ℤ = (U -ℤ (su +ℤ R)) *ℤ pos Q in
      let q : ℤ = (L -ℤ (sd +ℤ neg_ℤ R)) *ℤ pos Q in
      let r : ℤ = su *ℤ pos Q -ℤ M in
      let s : ℤ = sd *ℤ pos Q -ℤ M in
      let t : ℤ = R *ℤ pos Q in
      let g : (U -ℤ L) *ℤ pos Q ≡ (p +ℤ neg_ℤ q) +ℤ (r +ℤ neg_ℤ s) +ℤ (t +ℤ t) =
      by_ring (U ∷ L ∷ su ∷ sd ∷ R ∷ M ∷ pos Q ∷ []) (search reading depth 30) tt in
      omega (
        arith,
        nat_abs_mul (U -ℤ L) (pos Q),
        nat_abs_mul (U -ℤ (su +ℤ R)) (pos Q),
        nat_abs_mul (L -ℤ (sd +ℤ neg_ℤ R)) (pos Q),
        nat_abs_mul R (pos Q),
        mag_add₃ _ (p +ℤ neg_ℤ q) (r +ℤ neg_ℤ s) (t +ℤ t) g,
        nat_abs_add p (neg_ℤ q),
        nat_abs_add r (neg_ℤ s),
        nat_abs_add t t,
        nat_abs_neg q,
        nat_abs_neg s,
      )

  pub ends_width : (Y : ℕ) → nat_abs M ≤ Y → Err P 1 (su +ℤ R) U → Err P 1 (sd +ℤ neg_ℤ R) L
      → P * (Q * nat_abs (U -ℤ L)) ≤ (P + 1) * (2 * (nat_abs R * Q) + off Q M su + off Q M sd) + 2 * Y
  ends_width Y y h k =
      plain (nat_abs (U -ℤ L)) (nat_abs (U -ℤ (su +ℤ R)) * Q) (nat_abs (L -ℤ (sd +ℤ neg_ℤ R)) * Q) (off Q M su) (off Q M sd) (nat_abs R * Q) (nat_abs M) y
      (end_error su R U h) (omega (arith, end_error sd (neg_ℤ R) L k, ap (λ z. z * Q) (nat_abs_neg R))) width_splits
    where
      plain : (w u l e d r m : ℕ) → m ≤ Y → P * u ≤ m + e + r → P * l ≤ m + d + r → w * Q ≤ u + l + e + d + 2 * r
          → P * (Q * w) ≤ (P + 1) * (2 * r + e + d) + 2 * Y
      plain w u l e d r m y h k p = omega (arith, mul-le-mul_left P p)

-- ---- neither end meets the end of the range where the other is accepted
module _ (n : ℕ) (sd su r : ℤ) (k : sd ≼ su) (p : pos 0 ≼ r) where
  pub upper_not_low : neg_ℤ (pos (n * 1)) ≼ sd -ℤ r → neg_ℤ (pos (n * 1)) ≼ su +ℤ r
  upper_not_low h = lin_le (pos n ∷ sd ∷ su ∷ r ∷ []) (le h ∷ le k ∷ le p ∷ []) (search reading depth 30) (omega arith)

  pub lower_not_high : su +ℤ r ≼ pos (n * 1) → sd -ℤ r ≼ pos (n * 1)
  lower_not_high h = lin_le (pos n ∷ sd ∷ su ∷ r ∷ []) (le h ∷ le k ∷ le p ∷ []) (search reading depth 30) (omega arith)
