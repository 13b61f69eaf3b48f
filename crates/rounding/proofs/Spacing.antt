-- Spacing: after the number v the next of larger magnitude is v + spacing f v; it grows with the magnitude, and is about 1 / 2 ^ prec of it.
-- Assumes nothing.
use mathlib.Core.Path.{◌≡◌, ap, subst}
use mathlib.Core.Logic.{inl, inr, ⊎_elim}
use Prim.Native.Nat.{ℕ, ◌+◌, ◌*◌, ◌^◌, ◌≤◌, ◌<◌}
use native.Mathlib.Omega.{arith}
use native.Mathlib.Nat.{le_trans, mul-le-mul_right, lt_of_mul-lt-mul_left, lt_of_mul-lt-mul_right}
use lib.Pow.{pow_mono}
use lib.IntN.{ℤ, nat_abs}
use Rattle.rounding.specs.Format.{Format, half, Form, expo, spacing}
use Rattle.rounding.proofs.Grid.{prec_half, pow_back, expo_hi, expo_lo, on_grid, form_of}

-- by magnitudes: `spacing f v` is 2 ^ expo f (nat_abs v)
module _ (f : Format) where
  pub next_form : {v : ℕ} → Form f v → Form f (v + 2 ^ expo f v)
  next_form {v} F = go (on_grid (expo f v) F (expo_lo f v))
    where
      go : (c : ℕ) × (v ≡ c * 2 ^ expo f v) → Form f (v + 2 ^ expo f v)
      go (c, e) = subst (Form f) next (form_of f (expo f v) (c + 1) (omega (arith, few)))
        where
          few : c < 2 ^ f.prec
          few = lt_of_mul-lt-mul_right (2 ^ expo f v) (omega (arith, e, expo_hi f v))

          next : 2 ^ expo f v * (c + 1) ≡ v + 2 ^ expo f v
          next = omega (arith, e)

  pub next_least : {v w : ℕ} → Form f v → Form f w → v < w → v + 2 ^ expo f v ≤ w
  next_least {v} {w} F G h =
      go (on_grid (expo f v) F (expo_lo f v)) (on_grid (expo f v) G (⊎_elim inl (λ l. inr (omega (arith, l))) (expo_lo f v)))
    where
      go : (c : ℕ) × (v ≡ c * 2 ^ expo f v) → (c : ℕ) × (w ≡ c * 2 ^ expo f v) → v + 2 ^ expo f v ≤ w
      go (a, x) (b, y) = omega (arith, x, y, mul-le-mul_right (2 ^ expo f v) less)
        where
          less : a < b
          less = lt_of_mul-lt-mul_right (2 ^ expo f v) (omega (arith, x, y))

  -- the two together: v + spacing f v is the next number of larger magnitude
  pub spacing_next : (v : ℤ) → Form f (nat_abs v)
      → Form f (nat_abs v + spacing f v) × ((w : ℤ) → Form f (nat_abs w) → nat_abs v < nat_abs w → nat_abs v + spacing f v ≤ nat_abs w)
  spacing_next v F = (next_form F, λ w G h. next_least F G h)

  -- ---- it grows with the magnitude
  pub expo_reaches : {j n : ℕ} → half f * 2 ^ j ≤ n → j ≤ expo f n
  expo_reaches {j} {n} h = pow_back (lt_of_mul-lt-mul_left (half f) (omega (arith, h, expo_hi f n, ap (λ x. x * 2 ^ expo f n) (prec_half f))))

  pub spacing_mono : (v w : ℤ) → nat_abs v ≤ nat_abs w → spacing f v ≤ spacing f w
  spacing_mono v w h = pow_mono (⊎_elim (λ (e : expo f (nat_abs v) ≡ 0). omega arith) (λ l. expo_reaches (le_trans l h)) (expo_lo f (nat_abs v)))

  -- ---- the magnitude is less than 2 ^ prec times the spacing, and from the least normal number on at least half of that
  pub spacing_high : (v : ℤ) → nat_abs v < 2 * half f * spacing f v
  spacing_high v = omega (arith, expo_hi f (nat_abs v), ap (λ x. x * spacing f v) (prec_half f))

  pub spacing_low : (v : ℤ) → half f * spacing f v ≤ nat_abs v + half f
  spacing_low v = ⊎_elim (λ e. omega (arith, ap (λ j. half f * 2 ^ j) e)) (λ l. omega (arith, l)) (expo_lo f (nat_abs v))
