-- What a machine needs to round by shifts: the shift from a count of digits; and a quotient rounded up depends on the fraction only. Assumes nothing.
use mathlib.Core.Path.{◌≡◌, sym, ap, ◌∙◌, subst}
use mathlib.Core.Logic.{◌⊎◌, inr, ⊎_elim}
use Prim.Native.Nat.{ℕ, ◌+◌, ◌-◌, ◌*◌, ◌/◌, ◌^◌, ◌≤◌, ◌<◌}
use native.Mathlib.Omega.{arith}
use native.Mathlib.Nat.{le_trans, le_antisymm, le_of_eq, lt_of_not-le, not-le_of_lt, lt_of_lt_of_le}
use native.Mathlib.Nat.{mul-le-mul_right, le_of_mul-le-mul_right, le-div_iff_mul-le, div-eq_of_lt}
use lib.Pow.{pow_pos, pow_mono, pow-add, shl_lt, shr_lt}
use lib.Ieee.{size}
use lib.Ieee.Digits.{size-lt, size_reaches, size-le}
use Rattle.rounding.specs.Format.{Format, expo}
use Rattle.rounding.specs.Rounding.{ex, ceil}
use Rattle.rounding.proofs.Compare.{cmp_split}
use Rattle.rounding.proofs.Bracket.{ceil_high, ceil_least}

-- ---- how many digits
pub size_only : (n z : ℕ) → n < 2 ^ z → (z ≡ 0) ⊎ (2 ^ (z - 1) ≤ n) → size n ≡ z
size_only n z h s = le_antisymm (size-le n z h) (⊎_elim (λ (e : z ≡ 0). omega arith) (λ l. omega (arith, more l)) s)
  where
    more : 2 ^ (z - 1) ≤ n → z - 1 < size n
    more l = lt_of_not-le (λ (g : size n ≤ z - 1). not-le_of_lt (size-lt n) (le_trans (pow_mono g) l))

size_pos : (n : ℕ) → 0 < n → 0 < size n
size_pos n h = lt_of_not-le (λ (g : size n ≤ 0). not-le_of_lt h (no (pow_mono g)))
  where
    no : 2 ^ size n ≤ 2 ^ 0 → n ≤ 0
    no l = omega (arith, size-lt n)

pub size_shl : (n e : ℕ) → 0 < n → size (n * 2 ^ e) ≡ size n + e
size_shl n e h = size_only (n * 2 ^ e) (size n + e) (shl_lt (size n) e (size-lt n)) (inr reaches)
  where
    regroup : (z : ℕ) → 0 < z → z + e - 1 ≡ z - 1 + e
    regroup z l = omega arith

    low : 2 ^ (size n + e - 1) ≡ 2 ^ (size n - 1) * 2 ^ e
    low = ap (λ x. 2 ^ x) (regroup (size n) (size_pos n h)) ∙ pow-add 2 (size n - 1) e

    reaches : 2 ^ (size n + e - 1) ≤ n * 2 ^ e
    reaches = le_trans (le_of_eq low) (mul-le-mul_right (2 ^ e) (size_reaches n (size n - 1) (omega (arith, size_pos n h))))

pub size_shr : (n k : ℕ) → size (n / 2 ^ k) ≡ size n - k
size_shr n k = cmp_split k (size n) some_left (λ e. none_left (le_of_eq (sym e))) (λ l. none_left (omega arith))
  where
    none_left : size n ≤ k → size (n / 2 ^ k) ≡ size n - k
    none_left h = ap size (div-eq_of_lt (lt_of_lt_of_le (size-lt n) (pow_mono h))) ∙ both_zero
      where
        both_zero : size 0 ≡ size n - k
        both_zero = omega (arith, size-le 0 0 (omega arith))

    some_left : k < size n → size (n / 2 ^ k) ≡ size n - k
    some_left l = size_only (n / 2 ^ k) (size n - k) (shr_lt (size n - k) k (subst (λ x. n < 2 ^ x) (back (size n) l) (size-lt n))) (inr reaches)
      where
        back : (z : ℕ) → k < z → z ≡ z - k + k
        back z h = omega arith

        join : (z : ℕ) → k < z → z - k - 1 + k ≡ z - 1
        join z l = omega arith

        low : 2 ^ (size n - k - 1) * 2 ^ k ≡ 2 ^ (size n - 1)
        low = sym (pow-add 2 (size n - k - 1) k) ∙ ap (λ x. 2 ^ x) (join (size n) l)

        reaches : 2 ^ (size n - k - 1) ≤ n / 2 ^ k
        reaches = (le-div_iff_mul-le (pow_pos k)).1 (le_trans (le_of_eq low) (size_reaches n (size n - 1) (omega arith)))

-- ---- the shift of s / 2 ^ k
pub ex_shr : (f : Format) (s k : ℕ) → ex f (2 ^ k) s ≡ size s - k - f.prec
unfolding expo
ex_shr f s k = ap (λ x. x - f.prec) (size_shr s k)

-- ---- a quotient rounded up, of two equal fractions
pub ceil_same : (a b c d : ℕ) → 0 < b → 0 < d → a * d ≡ c * b → ceil a b ≡ ceil c d
ceil_same a b c d B D e = le_antisymm (at_most a b c d B D e) (at_most c d a b D B (sym e))
  where
    at_most : (a b c d : ℕ) → 0 < b → 0 < d → a * d ≡ c * b → ceil a b ≤ ceil c d
    at_most a b c d B D e = ceil_least a b (ceil c d) B (le_of_mul-le-mul_right {k = d} (omega (arith, mul-le-mul_right b (ceil_high c d D))) D)
