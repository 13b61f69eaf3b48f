-- Shifts of a summand by many places, and what a sum keeps: past all digits a longer shift changes nothing.
use mathlib.Core.Path.{◌≡◌, sym, ap, ◌∙◌}
use mathlib.Core.List.{[], ◌∷◌}
use mathlib.Core.Logic.{◌⊎◌, inl, inr}
use Prim.Native.Nat.{ℕ, suc, ◌*◌, ◌/◌, ◌^◌, ◌≤◌, ◌<◌, min}
use native.Mathlib.Omega.{arith, min_cases}
use native.Mathlib.Nat.{div-eq_of_lt, div-lt_iff_lt-mul, le_of_eq}
use lib.Pow.{pow_pos, pow_mono}
use lib.IntN.{ℤ, pos, negsuc, neg_ℤ, nat_abs, ◌+ℤ◌, ◌*ℤ◌}
use lib.Signed.{shr_z}
use Rattle.algebra.proofs.Absolute.{nat_abs_add, nat_abs_mul}
use Rattle.algebra.proofs.Reading.{by_ring}
use Rattle.algebra.proofs.Linear.{reading, eq, lin_eq}
use Rattle.algebra.proofs.Natural.{of_lt}
use Rattle.algebra.proofs.Order.{cancel_eq}
use Rattle.rounding.proofs.Compare.{cmp_split}
use Rattle.rounding.proofs.Sign.{nat_abs_neg}

-- ---- a shift past all digits is as good as one by 61
far_div : (n m m' : ℕ) → n < m → n < m' → n / m ≡ n / m'
far_div n m m' h k = div-eq_of_lt h ∙ sym (div-eq_of_lt k)

far_shr : (t : ℤ) (m m' : ℕ) → nat_abs t < m → nat_abs t < m' → shr_z t m ≡ shr_z t m'
far_shr (pos n) m m' h k = ap pos (far_div n m m' h k)
far_shr (negsuc n) m m' h k = ap negsuc (far_div n m m' (omega arith) (omega arith))

pub capped : (t : ℤ) (d : ℕ) → nat_abs t ≤ 2 ^ 60 → shr_z t (2 ^ min d 61) ≡ shr_z t (2 ^ d)
capped t d h = min_cases d 61 (shr_z t (2 ^ min d 61) ≡ shr_z t (2 ^ d))
    (λ l e. ap (λ n. shr_z t (2 ^ n)) e)
    (λ l e. ap (λ n. shr_z t (2 ^ n)) e ∙ far_shr t (2 ^ 61) (2 ^ d) (omega arith) (omega (arith, pow_mono {i = 61} {j = d} l)))

-- a shift by more than 36 leaves 24 digits
pub far_small : (t : ℤ) (d : ℕ) → nat_abs t ≤ 2 ^ 60 → 36 < d → nat_abs (shr_z t (2 ^ d)) ≤ 2 ^ 25
far_small (pos n) d h k = omega (arith, (div-lt_iff_lt-mul {x = n} {y = 2 ^ 25} (pow_pos d)).1 (omega (arith, pow_mono {i = 37} {j = d} k)))
far_small (negsuc n) d h k = omega (arith, (div-lt_iff_lt-mul {x = n} {y = 2 ^ 25} (pow_pos d)).1 (omega (arith, pow_mono {i = 37} {j = d} k)))

pub raised_abs : (s : ℤ) → nat_abs (s *ℤ pos (2 ^ 36)) ≡ nat_abs s * 2 ^ 36
raised_abs s = nat_abs_mul s (pos (2 ^ 36))

pub long_sum : (a q : ℤ) → 2 ^ 59 ≤ nat_abs a → nat_abs q ≤ 2 ^ 27 → 2 ^ 58 < nat_abs (a +ℤ q)
long_sum a q h k =
    let e : a ≡ (a +ℤ q) +ℤ neg_ℤ q = by_ring (a ∷ q ∷ []) (search reading depth 20) tt in
    omega (arith, ap nat_abs e, nat_abs_add (a +ℤ q) (neg_ℤ q), nat_abs_neg q)

pub le_or_lt : (n m : ℕ) → (n ≤ m) ⊎ (m < n)
le_or_lt n m = cmp_split n m (λ l. inl (omega arith)) (λ e. inl (le_of_eq e)) (λ l. inr l)

pub nat_abs_zero : (a : ℤ) → nat_abs a ≡ 0 → a ≡ pos 0
nat_abs_zero (pos n) e = ap pos e
nat_abs_zero (negsuc n) e = absurd (no e)
  where
    no : suc n ≡ 0 → ⊥
    no e = omega arith

pub none_left : (X w : ℤ) (E K : ℕ) → 0 < K → w ≡ pos 0 → w *ℤ pos E ≡ X *ℤ pos K *ℤ pos (2 ^ 36) → X ≡ pos 0
none_left X w E K p e h =
    cancel_eq (of_lt p)
    (lin_eq (X ∷ w ∷ pos E ∷ pos K ∷ []) (eq h ∷ eq (ap (λ t. t *ℤ pos E) e) ∷ []) (search reading depth 20) (omega arith))
