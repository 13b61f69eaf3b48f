-- `encode` is the pattern of a number and the inverse of `val`; it is even exactly where the number's fraction is. Assumes nothing.
use mathlib.Core.Path.{◌≡◌, sym, ap, ◌∙◌, subst}
use mathlib.Core.Logic.{◌↔◌, ◌⊎◌, inl, inr, ⊎_elim}
use Prim.Native.Nat.{ℕ, ◌+◌, ◌-◌, ◌*◌, ◌/◌, ◌%◌, ◌^◌, ◌≤◌, ◌<◌}
use native.Mathlib.Omega.{arith}
use native.Mathlib.Nat.{le_of_mul-le-mul_right, lt_of_mul-lt-mul_right, eq_of_mul-eq-mul_left, mul_comm, mul-div_cancel}
use lib.Pow.{pow_pos}
use lib.IntN.{ℤ, nat_abs}
use Rattle.rounding.specs.Format.{Format, half, MAX, Form, expo}
use Rattle.rounding.specs.Property.{EvenFraction}
use Rattle.rounding.specs.Pattern.{val, limit, encode}
use Rattle.rounding.proofs.Grid.{half_even, expo_hi, expo_lo, on_grid}
use Rattle.rounding.proofs.Pattern.{val_pattern, val_injective, val_form, val_max}

module _ (f : Format) where
  -- a number is v = c * 2 ^ expo f v, with the encode expo f v * 2 ^ (prec - 1) + c
  encode_split : {G : Type 0} {v : ℕ} → Form f v
      → ((c : ℕ) → v ≡ c * 2 ^ expo f v → c < 2 ^ f.prec → (expo f v ≡ 0) ⊎ (half f ≤ c) → encode f v ≡ expo f v * half f + c → G) → G
  unfolding encode
  encode_split {G} {v} F k = go (on_grid (expo f v) F (expo_lo f v))
    where
      go : (c : ℕ) × (v ≡ c * 2 ^ expo f v) → G
      go (c, e) = k c e few large (ap (λ x. expo f v * half f + x) (ap (λ x. x / 2 ^ expo f v) e ∙ mul-div_cancel c (pow_pos (expo f v))))
        where
          few : c < 2 ^ f.prec
          few = lt_of_mul-lt-mul_right (2 ^ expo f v) (omega (arith, e, expo_hi f v))

          large : (expo f v ≡ 0) ⊎ (half f ≤ c)
          large = ⊎_elim inl (λ l. inr (le_of_mul-le-mul_right {k = 2 ^ expo f v} (omega (arith, e, l)) (pow_pos (expo f v)))) (expo_lo f v)

  -- ---- encode and val undo each other
  pub val_encode : {v : ℕ} → Form f v → val f (encode f v) ≡ v
  val_encode {v} F = encode_split F (λ c e few large p. ap (val f) p ∙ val_pattern f (expo f v) c (omega (arith, few)) large ∙ sym e)

  pub encode_val : (n : ℕ) → encode f (val f n) ≡ n
  encode_val n = val_injective f (val_encode (val_form f n))

  pub encode_limit : {v : ℕ} → Form f v → (encode f v < limit f) ↔ (v ≤ MAX f)
  encode_limit {v} F = subst (λ x. (encode f v < limit f) ↔ (x ≤ MAX f)) (val_encode F) (swap (val_max f (encode f v)))
    where
      swap : {A B : Type 0} → A ↔ B → B ↔ A
      swap (to, from) = (from, to)

  -- ---- the fraction is even where the pattern is
  pub encode_even : (v : ℤ) → Form f (nat_abs v) → (encode f (nat_abs v) % 2 ≡ 0) ↔ EvenFraction f v
  encode_even v F = encode_split F (λ c e few large p. (to c e p, from c e p))
    where
      j : ℕ
      j = expo f (nat_abs v)

      same : (c h : ℕ) → half f ≡ 2 * h → encode f (nat_abs v) ≡ j * half f + c → encode f (nat_abs v) % 2 ≡ c % 2
      same c h e p = omega (arith, p, ap (λ x. j * x) e)

      to : (c : ℕ) → nat_abs v ≡ c * 2 ^ j → encode f (nat_abs v) ≡ j * half f + c → encode f (nat_abs v) % 2 ≡ 0 → EvenFraction f v
      to c e p z = (c / 2, e ∙ mul_comm c (2 ^ j) ∙ ap (λ x. 2 ^ j * x) twice)
        where
          twice : c ≡ 2 * (c / 2)
          twice = omega (arith, z, same c (2 ^ (f.prec - 2)) (half_even f) p)

      from : (c : ℕ) → nat_abs v ≡ c * 2 ^ j → encode f (nat_abs v) ≡ j * half f + c → EvenFraction f v → encode f (nat_abs v) % 2 ≡ 0
      from c e p (m, k) = omega (arith, twice, same c (2 ^ (f.prec - 2)) (half_even f) p)
        where
          twice : c ≡ 2 * m
          twice = eq_of_mul-eq-mul_left (2 ^ j) (pow_pos j) c (2 * m) (mul_comm (2 ^ j) c ∙ sym e ∙ k)
