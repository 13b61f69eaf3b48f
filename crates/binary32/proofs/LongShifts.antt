-- A shift down past all digits and one more gives what a shift by 62 gives.
use mathlib.Core.Path.{◌≡◌, sym, ap, ap₂, ◌∙◌, subst}
use Prim.Native.Nat.{ℕ, suc, ◌+◌, ◌*◌, ◌/◌, ◌%◌, ◌^◌, ◌<◌, min}
use native.Mathlib.Omega.{arith, min_cases}
use native.Mathlib.Nat.{div-eq_of_lt, mod-eq_of_lt}
use lib.Pow.{pow_mono}
use lib.IntN.{ℤ, pos, negsuc, neg_ℤ, nat_abs}
use lib.Signed.{shr_z}
use lib.Ieee.Nearest.{closest}
use Rattle.rounding.specs.Rounding.{signed, sticky, ceil}
use Rattle.rounding.specs.Quotient.{ceil_s}
use Rattle.rounding.proofs.Closest.{closest_split}
use Rattle.binary32.specs.declared.funnel.Ways.{Ways}
use Rattle.binary32.specs.Steps.{Split}

-- ---- a shift past all digits and one more is as good as one by 62: down 0 or -1, up 0 or 1, nearest 0
lower : (n m : ℕ) → 2 * n < m → n < m
lower n m h = omega arith

module _ (n m m' : ℕ) (h : 2 * n < m) (h' : 2 * n < m') where
  far_div : n / m ≡ n / m'
  far_div = div-eq_of_lt (lower n m h) ∙ sym (div-eq_of_lt (lower n m' h'))

  far_ceil : ceil n m ≡ ceil n m'
  unfolding ceil
  far_ceil = ap₂ (λ q r. q + sticky r) far_div (mod-eq_of_lt (lower n m h) ∙ sym (mod-eq_of_lt (lower n m' h')))

far_zero : (n m : ℕ) → 2 * n < m → closest n m ≡ 0
far_zero n m h =
    let q : n / m ≡ 0 = div-eq_of_lt (lower n m h) in
    let r : n % m ≡ n = mod-eq_of_lt (lower n m h) in
    closest_split n m (λ l e. e ∙ q) (λ l e. absurd (omega (arith, ap (λ x. x % 2) q)))

far_shr : (w : ℤ) (m m' : ℕ) → 2 * nat_abs w < m → 2 * nat_abs w < m' → shr_z w m ≡ shr_z w m'
far_shr (pos n) m m' h h' = ap pos (far_div n m m' h h')
far_shr (negsuc k) m m' h h' = ap negsuc (far_div k m m' (omega arith) (omega arith))

far_up : (w : ℤ) (m m' : ℕ) → 2 * nat_abs w < m → 2 * nat_abs w < m' → ceil_s w m ≡ ceil_s w m'
far_up (pos n) m m' h h' = ap pos (far_ceil n m m' h h')
far_up (negsuc k) m m' h h' = ap (λ x. neg_ℤ (pos x)) (far_div (suc k) m m' h h')

far_split : (w : ℤ) (m m' shift : ℕ) (r : Ways) → 2 * nat_abs w < m → 2 * nat_abs w < m' → Split w m shift r → Split w m' shift r
far_split w m m' shift r h h' s = record {
  downs = s.downs ∙ far_shr w m m' h h';
  ups = s.ups ∙ far_up w m m' h h';
  nears = s.nears ∙ ap (signed w) (far_zero (nat_abs w) m h ∙ sym (far_zero (nat_abs w) m' h'));
  shifts = s.shifts;
}

pub near_split : (w : ℤ) (t shift : ℕ) (r : Ways) → nat_abs w < 2 ^ 61 → Split w (2 ^ min t 62) shift r → Split w (2 ^ t) shift r
near_split w t shift r h s = min_cases t 62 (Split w (2 ^ t) shift r)
    (λ l e. subst (λ x. Split w (2 ^ x) shift r) e s)
    (λ l e. far_split w (2 ^ 62) (2 ^ t) shift r (omega arith) (omega (arith, pow_mono l)) (subst (λ x. Split w (2 ^ x) shift r) e s))
