-- The error of a running sum, once for all sums: after n rounded terms and additions it is at most (65 × n + 64) / (64 × P) of the sum of the
-- magnitudes, and 65 / 64 units for each. Stages chain: the sum may start at one that has an error already.
use mathlib.Core.Path.{◌≡◌, ap}
use mathlib.Core.List.{[], ◌∷◌}
use Prim.Native.Nat.{ℕ, suc, ◌+◌, ◌-◌, ◌*◌, ◌≤◌}
use native.Mathlib.Omega.{arith}
use native.Mathlib.Nat.{mul-le-mul_left, mul-le-mul_right, le_of_mul-le-mul_left}
use lib.IntN.{ℤ, pos, nat_abs, ◌+ℤ◌, ◌*ℤ◌, ◌-ℤ◌}
use Rattle.algebra.specs.Sum.{Σ<}
use Rattle.algebra.proofs.Reading.{by_ring}
use Rattle.algebra.proofs.Linear.{reading}
use Rattle.algebra.proofs.Absolute.{nat_abs_add, nat_abs_mul}
use Rattle.rounding.specs.Property.{off, Err}
use Rattle.enclosure.specs.NaturalSum.{Σℕ}
use Rattle.enclosure.proofs.Magnitude.{mag_add₄, sum_err, error_splits}

-- ---- a running sum whose every step obeys the error law: X l is the exact term, in 1 / Q of a unit
pub data Trace (P Q : ℕ) (X : ℕ → ℤ) (s : ℤ) : ℕ → ℤ → Type 0 where
  start : Trace P Q X s 0 s
  next : {n : ℕ} {u v : ℤ} (t : ℤ) → Trace P Q X s n u → Err P Q (X n) t → Err P 1 (u +ℤ t) v → Trace P Q X s (suc n) v

-- the sum of the magnitudes
abbrev pub magnitudes : ℕ → (ℕ → ℤ) → ℕ
magnitudes n X = Σℕ n (λ l. nat_abs (X l))

-- s is X₀ / Q but for the error of i steps; X₀ is no larger than Y₀
pub record Approx (P Q i : ℕ) (s X₀ : ℤ) (Y₀ : ℕ) : Type 0 where
  pub size : nat_abs X₀ ≤ Y₀
  pub error : 64 * (P * off Q X₀ s) ≤ (65 * i + 64) * Y₀ + 65 * i * (P * Q)

pub zero_approx : (P Q : ℕ) → Approx P Q 0 (pos 0) (pos 0) 0
zero_approx P Q = record { size = omega arith; error = omega (arith, ap (λ z. 64 * (P * nat_abs z)) nothing) }
  where
    nothing : pos 0 *ℤ pos Q -ℤ pos 0 ≡ pos 0
    nothing = by_ring (pos Q ∷ []) (search reading depth 20) tt

-- ---- one step over naturals: E is the error before, F that of the term, G that of the addition, E' the error after
error_grows : (P Q Y x i E E' F G : ℕ) → 64 * (P * E) ≤ (65 * i + 64) * Y + 65 * i * (P * Q) → P * F ≤ x + P * Q → P * G ≤ Y + x + E + F
    → E' ≤ E + F + G → 65 * i + 64 ≤ P → 64 * (P * E') ≤ (65 * i + 64 + 65) * (Y + x) + 65 * (i + 1) * (P * Q)
error_grows P Q Y x i E E' F G h₁ h₂ h₃ h₄ h₅ =
    let N : ℕ = Y + x + P * Q in
    let s : P * (64 * (E + F)) ≤ P * N = omega (arith, mul-le-mul_right N h₅) in
    let t : 64 * (E + F) ≤ N = le_of_mul-le-mul_left s (omega arith) in
    omega (arith, mul-le-mul_left P h₄)

-- ---- the same over integers: u is about X / Q, t about x / Q, v about u + t
module _ (P Q i Y : ℕ) (u t v X x : ℤ) where
  term_error : Err P Q x t → P * off Q x t ≤ nat_abs x + P * Q
  term_error h = omega (arith, h.bound, mul-le-mul_left P (less Q))
    where
      less : (n : ℕ) → n - 1 ≤ n
      less n = omega arith

  addition_error : nat_abs X ≤ Y → Err P 1 (u +ℤ t) v → P * (nat_abs (v -ℤ (u +ℤ t)) * Q) ≤ Y + nat_abs x + off Q X u + off Q x t
  addition_error h k =
      let g : (u +ℤ t) *ℤ pos Q ≡ X +ℤ (u *ℤ pos Q -ℤ X) +ℤ x +ℤ (t *ℤ pos Q -ℤ x) = by_ring (u ∷ t ∷ X ∷ x ∷ pos Q ∷ []) (search reading depth 20) tt in
      omega (arith, h, mul-le-mul_right Q (sum_err k), nat_abs_mul (u +ℤ t) (pos Q), mag_add₄ _ X (u *ℤ pos Q -ℤ X) x (t *ℤ pos Q -ℤ x) g)

  step_error : nat_abs X ≤ Y → 64 * (P * off Q X u) ≤ (65 * i + 64) * Y + 65 * i * (P * Q) → Err P Q x t → Err P 1 (u +ℤ t) v → 65 * i + 64 ≤ P
      → 64 * (P * off Q (X +ℤ x) v) ≤ (65 * i + 64 + 65) * (Y + nat_abs x) + 65 * (i + 1) * (P * Q)
  step_error h₁ h₂ h₃ h₄ h₅ =
      error_grows P Q Y (nat_abs x) i (off Q X u) (off Q (X +ℤ x) v) (off Q x t) (nat_abs (v -ℤ (u +ℤ t)) * Q)
      h₂ (term_error h₃) (addition_error h₁ h₄) (error_splits Q u t v X x) h₅

-- ---- all steps
module _ {P Q i : ℕ} {X : ℕ → ℤ} {s X₀ : ℤ} {Y₀ : ℕ} (a : Approx P Q i s X₀ Y₀) where
  pub accumulate : {n : ℕ} {v : ℤ} → Trace P Q X s n v → 65 * (i + n) ≤ P → Approx P Q (i + n) v (X₀ +ℤ Σ< n X) (Y₀ + magnitudes n X)
  unfolding Σ<
  accumulate start h =
      let e : X₀ ≡ X₀ +ℤ pos 0 = by_ring (X₀ ∷ []) (search reading depth 20) tt in
      record { size = omega (arith, a.size, ap nat_abs e); error = omega (arith, a.error, ap (λ z. 64 * (P * off Q z s)) e) }
  accumulate (next {n} {u} {v} t w f g) h =
      let r = accumulate w (omega arith) in
      let e : X₀ +ℤ Σ< n X +ℤ X n ≡ X₀ +ℤ (Σ< n X +ℤ X n) = by_ring (X₀ ∷ Σ< n X ∷ X n ∷ []) (search reading depth 20) tt in
      let q = step_error P Q (i + n) (Y₀ + magnitudes n X) u t v (X₀ +ℤ Σ< n X) (X n) r.size r.error f g (omega arith) in
      record {
        size = omega (arith, r.size, ap nat_abs e, nat_abs_add (X₀ +ℤ Σ< n X) (X n));
        error = omega (arith, q, ap (λ z. 64 * (P * off Q z v)) e);
      }
