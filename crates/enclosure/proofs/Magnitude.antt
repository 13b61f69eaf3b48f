-- Magnitudes as naturals: the triangle inequality for three and four summands, what one rounding does to a magnitude, and how errors add up.
use mathlib.Core.Path.{◌≡◌, ap}
use mathlib.Core.List.{[], ◌∷◌}
use Prim.Native.Nat.{ℕ, ◌+◌, ◌*◌, ◌≤◌}
use native.Mathlib.Omega.{arith}
use native.Mathlib.Nat.{mul-le-mul_left}
use lib.IntN.{ℤ, pos, nat_abs, ◌+ℤ◌, ◌*ℤ◌, ◌-ℤ◌}
use Rattle.algebra.proofs.Reading.{by_ring}
use Rattle.algebra.proofs.Linear.{reading}
use Rattle.algebra.proofs.Absolute.{nat_abs_add, nat_abs_mul}
use Rattle.rounding.specs.Property.{off, Err}

pub mag_add₃ : (z p q r : ℤ) → z ≡ p +ℤ q +ℤ r → nat_abs z ≤ nat_abs p + nat_abs q + nat_abs r
mag_add₃ z p q r e = omega (arith, ap nat_abs e, nat_abs_add (p +ℤ q) r, nat_abs_add p q)

pub mag_add₄ : (z p q r s : ℤ) → z ≡ p +ℤ q +ℤ r +ℤ s → nat_abs z ≤ nat_abs p + nat_abs q + nat_abs r + nat_abs s
mag_add₄ z p q r s e = omega (arith, ap nat_abs e, nat_abs_add (p +ℤ q +ℤ r) s, nat_abs_add (p +ℤ q) r, nat_abs_add p q)

pub sum_off : (x v : ℤ) → off 1 x v ≡ nat_abs (v -ℤ x)
sum_off x v =
    let e : v *ℤ pos 1 -ℤ x ≡ v -ℤ x = by_ring (x ∷ v ∷ []) (search reading depth 20) tt in
    ap nat_abs e

-- ---- of a rounded sum: no absolute error, and at most 1 + 1 / P of the exact one
module _ {P : ℕ} {x v : ℤ} (h : Err P 1 x v) where
  pub sum_err : P * nat_abs (v -ℤ x) ≤ nat_abs x
  sum_err = omega (arith, h.bound, ap (λ z. P * z) (sum_off x v))

  pub sum_size : P * nat_abs v ≤ (P + 1) * nat_abs x
  sum_size =
      let e : v ≡ x +ℤ (v -ℤ x) = by_ring (x ∷ v ∷ []) (search reading depth 20) tt in
      let g : nat_abs v ≤ nat_abs x + nat_abs (v -ℤ x) = omega (arith, ap nat_abs e, nat_abs_add x (v -ℤ x)) in
      omega (arith, mul-le-mul_left P g, sum_err)

-- ---- u is about X / Q, t about x / Q and v about u + t: the errors add up
pub error_splits : (Q : ℕ) (u t v X x : ℤ) → off Q (X +ℤ x) v ≤ off Q X u + off Q x t + nat_abs (v -ℤ (u +ℤ t)) * Q
error_splits Q u t v X x =
    let g : v *ℤ pos Q -ℤ (X +ℤ x) ≡ (u *ℤ pos Q -ℤ X) +ℤ (t *ℤ pos Q -ℤ x) +ℤ (v -ℤ (u +ℤ t)) *ℤ pos Q =
    by_ring (u ∷ t ∷ v ∷ X ∷ x ∷ pos Q ∷ []) (search reading depth 20) tt in
    omega (arith, nat_abs_mul (v -ℤ (u +ℤ t)) (pos Q), mag_add₃ _ (u *ℤ pos Q -ℤ X) (t *ℤ pos Q -ℤ x) ((v -ℤ (u +ℤ t)) *ℤ pos Q) g)
