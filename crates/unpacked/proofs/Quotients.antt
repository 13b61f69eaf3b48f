-- Quotients to nearest: of a multiple, of a number near one, of 24 digits, and with the sign of the dividend.
use mathlib.Core.Path.{◌≡◌, refl, sym, ap, ◌∙◌, subst}
use mathlib.Core.Logic.{⊎_elim}
use Prim.Native.Nat.{ℕ, zero, suc, ◌+◌, ◌*◌, ◌/◌, ◌%◌, ◌^◌, ◌≤◌, ◌<◌}
use native.Mathlib.Omega.{arith}
use native.Mathlib.Nat.{div-add-mod, mod-lt, mul-le-mul_right, mul-pos, eq-or-lt_of_le, le_of_mul-le-mul_left, le-div_iff_mul-le}
use lib.IntN.{ℤ, pos, negsuc, neg_ℤ, nat_abs, ◌*ℤ◌}
use lib.Ieee.Nearest.{closest, closest_same}
use Rattle.algebra.proofs.Absolute.{nat_abs_mul}
use Rattle.rounding.specs.Rounding.{signed}
use Rattle.rounding.proofs.Closest.{closest_split}
use Rattle.rounding.proofs.Compare.{cmp_split}
use Rattle.rounding.proofs.Sign.{nat_abs_neg, neg_mul}
use Rattle.unpacked.specs.Cuts.{nearest_of}

-- ---- less than half of m from a multiple of it
pub closest_about : (n m c : ℕ) → 2 * n < 2 * (c * m) + m → 2 * (c * m) < 2 * n + m → closest n m ≡ c
closest_about n m c u l = closest_split n m
    (λ h e. e ∙ cmp_split (n / m) c (λ g. absurd (less g h)) (λ g. g) (λ g. absurd (more g)))
    (λ h e. e ∙ cmp_split (n / m + 1) c (λ g. absurd (lesser g)) (λ g. g) (λ g. absurd (kept g h)))
  where
    some : 0 < m
    some = omega arith

    less : n / m < c → 2 * (n % m) + n / m % 2 ≤ m → ⊥
    less g h = omega (arith, div-add-mod n m, mul-le-mul_right m g)

    more : c < n / m → ⊥
    more g = omega (arith, div-add-mod n m, mul-le-mul_right m g)

    lesser : n / m + 1 < c → ⊥
    lesser g = omega (arith, div-add-mod n m, mod-lt n some, mul-le-mul_right m g)

    kept : c < n / m + 1 → m < 2 * (n % m) + n / m % 2 → ⊥
    kept g h = omega (arith, div-add-mod n m, mul-le-mul_right m g)

pub closest_multiple : (a m : ℕ) → 0 < m → closest (a * m) m ≡ a
closest_multiple a m p = closest_about (a * m) m a (omega arith) (omega arith)

-- ---- 24 digits and the places of m, or 2 ^ 24 * m
pub nearest_few : (n m : ℕ) → 0 < m → n ≤ 2 ^ 24 * m → closest n m ≤ 2 ^ 24
nearest_few n m p h = closest_split n m (λ l e. subst (λ t. t ≤ 2 ^ 24) (sym e) low) (λ l e. subst (λ t. t ≤ 2 ^ 24) (sym e) (⊎_elim (λ g. absurd (no g l)) (λ g. omega arith) (eq-or-lt_of_le low)))
  where
    low : n / m ≤ 2 ^ 24
    low = le_of_mul-le-mul_left {m = n / m} {n = 2 ^ 24} {k = m} (omega (arith, div-add-mod n m)) p

    no : n / m ≡ 2 ^ 24 → m < 2 * (n % m) + n / m % 2 → ⊥
    no g l = omega (arith, div-add-mod n m, ap (λ t. m * t) g)

pub nearest_long : (n m : ℕ) → 0 < m → 2 ^ 23 * m ≤ n → 2 ^ 23 ≤ closest n m
nearest_long n m p h = closest_split n m (λ l e. subst (λ t. 2 ^ 23 ≤ t) (sym e) low) (λ l e. omega (arith, low))
  where
    low : 2 ^ 23 ≤ n / m
    low = (le-div_iff_mul-le {x = 2 ^ 23} {y = n} p).1 h

-- ---- with the sign of t
pub signed_times : (t : ℤ) (c u : ℕ) → signed t c *ℤ pos u ≡ signed t (c * u)
signed_times (pos n) c u = refl
signed_times (negsuc n) c u = neg_mul c u

pub signed_abs : (t : ℤ) (c : ℕ) → nat_abs (signed t c) ≡ c
signed_abs (pos n) c = refl
signed_abs (negsuc n) c = nat_abs_neg (pos c)

signed_own : (t : ℤ) → signed t (nat_abs t) ≡ t
signed_own (pos n) = refl
signed_own (negsuc n) = refl

signed_neg : (k v : ℕ) → 0 < k → signed (neg_ℤ (pos k)) v ≡ neg_ℤ (pos v)
signed_neg (suc k) v h = refl
signed_neg zero v h = absurd (no h)
  where
    no : 0 < 0 → ⊥
    no h = omega arith

signed_scale : (t : ℤ) (c v : ℕ) → 0 < c → signed (t *ℤ pos c) v ≡ signed t v
signed_scale (pos n) c v p = refl
signed_scale (negsuc n) c v p = signed_neg (suc n * c) v (mul-pos {m = suc n} {n = c} (omega arith) p)

scaled : (t : ℤ) (c m : ℕ) → 0 < c → nearest_of (t *ℤ pos c) m ≡ signed t (closest (nat_abs t * c) m)
scaled t c m p = signed_scale t c (closest (nat_abs (t *ℤ pos c)) m) p ∙ ap (λ k. signed t (closest k m)) (nat_abs_mul t (pos c))

pub nearest_multiple : (t : ℤ) (m : ℕ) → 0 < m → nearest_of (t *ℤ pos m) m ≡ t
nearest_multiple t m p = scaled t m m p ∙ ap (signed t) (closest_multiple (nat_abs t) m p) ∙ signed_own t

-- a common factor
pub nearest_scale : (t : ℤ) (c m : ℕ) → 0 < c → 0 < m → nearest_of (t *ℤ pos c) (c * m) ≡ nearest_of t m
nearest_scale t c m p q = scaled t c (c * m) p ∙ ap (signed t) (closest_same (nat_abs t * c) (c * m) (nat_abs t) m (mul-pos p q) q (omega arith))
