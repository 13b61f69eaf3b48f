-- The three roundings of w * 2 ^ e / 2 ^ K, w of either sign, as the patterns of the significands w / 2 ^ t rounded three ways.
use mathlib.Core.Path.{◌≡◌, sym, ap, ◌∙◌}
use Prim.Native.Nat.{ℕ, suc, ◌+◌, ◌-◌, ◌*◌, ◌/◌, ◌^◌, ◌≤◌, ◌<◌, min}
use native.Mathlib.Omega.{arith}
use lib.Pow.{pow_pos}
use lib.IntN.{ℤ, pos, negsuc, nat_abs, ◌*ℤ◌, neg_ℤ-neg_ℤ}
use lib.Signed.{shr_z}
use lib.Ieee.{size}
use lib.Ieee.Nearest.{closest}
use Rattle.rounding.specs.Format.{binary32}
use Rattle.rounding.specs.Rounding.{negate, signed, ceil, up, down, near}
use Rattle.rounding.specs.Pattern.{val}
use Rattle.rounding.specs.Quotient.{ceil_s}
use Rattle.rounding.proofs.Floor.{down_floor}
use Rattle.rounding.proofs.Nearest.{near_odd}
use Rattle.rounding.proofs.Sign.{nat_abs_neg}
use Rattle.binary32.specs.Number.{pattern_of, hold_down, hold_up, hold_near, infinity, largest, least, minus_infinity}
use Rattle.binary32.specs.Steps.{packed}
use Rattle.binary32.proofs.Encodings.{at, past, plus, minus, cap_plus, cap_minus}
use Rattle.binary32.proofs.Shifted.{up_above, up_below, near_above, floor_short, ceil_short, closest_short, floor_long, ceil_long, closest_long}

-- the exponent field j of w * 2 ^ e / 2 ^ K, and the t digits of w that are dropped
pub record Scaled (K e t j : ℕ) (w : ℤ) : Type 0 where
  pub some_digit : 0 < nat_abs w
  pub digits : size (nat_abs w) + e - K - 24 ≡ j
  pub dropped : t + e ≡ j + K

module _ (K e t j : ℕ) where
  -- ---- up
  pub sign_up : (w : ℤ) → Scaled K e t j w → packed (ceil_s w (2 ^ t)) j least infinity ≡ hold_up (up binary32 (2 ^ K) (w *ℤ pos (2 ^ e)))
  sign_up (pos n) p =
      plus j (ceil n (2 ^ t)) least infinity
      ∙ ap hold_up (sym (up_above binary32 K e t j n p.some_digit p.digits p.dropped))
  sign_up (negsuc k) p =
      cap_minus j (suc k / 2 ^ t) infinity (floor_long binary32 K e t j (suc k) p.some_digit p.digits p.dropped)
      ∙ ap hold_up (sym (up_below binary32 K e t j (suc k) p.some_digit p.digits p.dropped))

  -- ---- nearest
  pub sign_near : (w : ℤ) → Scaled K e t j w
      → packed (signed w (closest (nat_abs w) (2 ^ t))) j infinity infinity ≡ hold_near (near binary32 (2 ^ K) (w *ℤ pos (2 ^ e)))
  sign_near (pos n) p =
      plus j (closest n (2 ^ t)) infinity infinity
      ∙ ap hold_near (sym (near_above binary32 K e t j n p.some_digit p.digits p.dropped))
  sign_near (negsuc k) p =
      minus j (closest (suc k) (2 ^ t)) infinity infinity (closest_long binary32 K e t j (suc k) p.some_digit p.digits p.dropped)
      ∙ ap (λ a. hold_near (negate a)) (sym (near_above binary32 K e t j (suc k) p.some_digit p.digits p.dropped))
      ∙ ap hold_near (sym (near_odd binary32 (2 ^ K) (pow_pos K) (pos (suc k * 2 ^ e))))

  -- ---- down, as the mirror image of up
  pub sign_down : (w : ℤ) → Scaled K e t j w → packed (shr_z w (2 ^ t)) j minus_infinity largest ≡ hold_down (down binary32 (2 ^ K) (w *ℤ pos (2 ^ e)))
  unfolding down
  sign_down (pos n) p =
      cap_plus j (n / 2 ^ t) minus_infinity
      ∙ ap pattern_of (sym (neg_ℤ-neg_ℤ (pos (val binary32 (min (at j (n / 2 ^ t)) (past - 1))))))
      ∙ ap (λ a. hold_down (negate a)) (sym (up_below binary32 K e t j n p.some_digit p.digits p.dropped))
  sign_down (negsuc k) p =
      ap (λ c. packed c j minus_infinity largest) (down_floor (negsuc k) (2 ^ t) (pow_pos t))
      ∙ minus j (ceil (suc k) (2 ^ t)) largest minus_infinity (ceil_long binary32 K e t j (suc k) p.some_digit p.digits p.dropped)
      ∙ ap (λ a. hold_down (negate a)) (sym (up_above binary32 K e t j (suc k) p.some_digit p.digits p.dropped))
      ∙ ap (λ X. hold_down (negate (up binary32 (2 ^ K) X))) (sym (neg_ℤ-neg_ℤ (pos (suc k * 2 ^ e))))

  -- ---- the significands have at most 24 digits, or are 2 ^ 24
  pub few_up : (w : ℤ) → Scaled K e t j w → nat_abs (ceil_s w (2 ^ t)) ≤ 2 ^ 24
  few_up (pos n) p = ceil_short binary32 K e t j n p.some_digit p.digits p.dropped
  few_up (negsuc k) p =
      omega (arith, nat_abs_neg (pos (suc k / 2 ^ t)), floor_short binary32 K e t j (suc k) p.some_digit p.digits p.dropped)

  pub few_near : (w : ℤ) → Scaled K e t j w → nat_abs (signed w (closest (nat_abs w) (2 ^ t))) ≤ 2 ^ 24
  few_near (pos n) p = closest_short binary32 K e t j n p.some_digit p.digits p.dropped
  few_near (negsuc k) p =
      omega (arith, nat_abs_neg (pos (closest (suc k) (2 ^ t))), closest_short binary32 K e t j (suc k) p.some_digit p.digits p.dropped)

  pub few_down : (w : ℤ) → Scaled K e t j w → nat_abs (shr_z w (2 ^ t)) ≤ 2 ^ 24
  few_down (pos n) p = omega (arith, floor_short binary32 K e t j n p.some_digit p.digits p.dropped)
  few_down (negsuc k) p =
      let c : nat_abs (shr_z (negsuc k) (2 ^ t)) ≡ ceil (suc k) (2 ^ t) =
      ap nat_abs (down_floor (negsuc k) (2 ^ t) (pow_pos t)) ∙ nat_abs_neg (pos (ceil (suc k) (2 ^ t))) in
      omega (arith, c, ceil_short binary32 K e t j (suc k) p.some_digit p.digits p.dropped)
