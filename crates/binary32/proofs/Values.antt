-- What `decode` finds: a pattern's value from its sign, exponent field and fraction.
use mathlib.Core.Path.{◌≡◌, refl, sym, ap, ◌∙◌}
use mathlib.Core.Bool.{Bool, true, false}
use Prim.Native.Nat.{ℕ, suc, ◌+◌, ◌-◌, ◌*◌, ◌/◌, ◌%◌, ◌^◌}
use native.Mathlib.Omega.{arith}
use native.Mathlib.Nat.{mul-one, add_comm}
use lib.Dec.{leb}
use lib.IntN.{ℤ, pos, nat_abs, ◌*ℤ◌}
use Rattle.rounding.specs.Pattern.{value, val}
use Rattle.rounding.proofs.Sign.{neg_mul, nat_abs_neg}
use Rattle.binary32.specs.Number.{signed_by, value_of, Finite}
use Rattle.binary32.specs.Steps.{of, Decoded}

pub signed_mul : (b : Bool) (m u : ℕ) → signed_by b m *ℤ pos u ≡ signed_by b (m * u)
signed_mul true m u = neg_mul m u
signed_mul false m u = refl

pub signed_abs : (b : Bool) (m : ℕ) → nat_abs (signed_by b m) ≡ m
signed_abs true m = nat_abs_neg (pos m)
signed_abs false m = refl

module _ (p : ℕ) (z : ℤ) where
  abbrev sign : Bool
  sign = leb (2 ^ 31) p

  abbrev field : ℕ
  field = p % 2 ^ 31 / 2 ^ 23

  abbrev fraction : ℕ
  fraction = p % 2 ^ 31 % 2 ^ 23

  -- exponent field 0
  pub decoded_low : field ≡ 0 → z ≡ signed_by sign fraction → Decoded p (record { sig = z; exp = 0 })
  unfolding value_of val of
  decoded_low e h =
      record {
        value = ap (λ (t : ℤ). t *ℤ pos 1) h ∙ signed_mul sign fraction 1 ∙ ap (signed_by sign) (mul-one fraction) ∙ sym whole;
        short = record { few = omega (arith, ap nat_abs h, signed_abs sign fraction); low = omega arith; full = λ l. absurd (omega arith) };
      }
    where
      whole : value_of p ≡ signed_by sign fraction
      whole = ap (λ (t : ℕ). signed_by sign (value (2 ^ 23) t fraction)) e

  -- exponent field 1 to 254
  pub decoded_high : Finite p → ¬ (field ≡ 0) → z ≡ signed_by sign (fraction + 2 ^ 23) → Decoded p (record { sig = z; exp = field - 1 })
  unfolding value_of val of
  decoded_high fin e h =
      record {
        value = ap (λ (t : ℤ). t *ℤ pos (2 ^ (field - 1))) h ∙ signed_mul sign (fraction + 2 ^ 23) (2 ^ (field - 1)) ∙ sym whole;
        short = record { few = omega (arith, size); low = omega arith; full = λ l. omega (arith, size) };
      }
    where
      size : nat_abs z ≡ fraction + 2 ^ 23
      size = ap nat_abs h ∙ signed_abs sign (fraction + 2 ^ 23)

      whole : value_of p ≡ signed_by sign ((fraction + 2 ^ 23) * 2 ^ (field - 1))
      whole =
          let s : field ≡ suc (field - 1) = omega arith in
          ap (λ (t : ℕ). signed_by sign (value (2 ^ 23) t fraction)) s ∙ ap (λ (t : ℕ). signed_by sign (t * 2 ^ (field - 1))) (add_comm (2 ^ 23) fraction)
