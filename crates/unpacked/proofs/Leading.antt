-- How far a number is shifted up: to 62 digits, of w or of -1 - w. Then a shift down by 38 leaves 24 of them.
use mathlib.Core.Path.{◌≡◌, refl, sym, ap, ◌∙◌, subst}
use Prim.Native.Nat.{ℕ, zero, suc, ◌+◌, ◌-◌, ◌*◌, ◌/◌, ◌^◌, ◌≤◌, ◌<◌}
use native.Mathlib.Omega.{arith, by_contra}
use native.Mathlib.Nat.{mul-le-mul_right, mul-le-mul, pow-succ'}
use lib.Pow.{pow_pos, pow-add, pow_mono}
use lib.Count.{count_leading_zeros, leading_top}
use lib.IntN.{ℤ, pos, negsuc, neg_ℤ, nat_abs, ◌*ℤ◌}
use lib.Signed.{mag, shr_z}
use Rattle.algebra.proofs.Machine.{mag_of_nat_abs}
use Rattle.unpacked.specs.Cuts.{room}
use Rattle.unpacked.proofs.Floors.{Full}

pub record Lead (m z : ℕ) : Type 0 where
  pub low : z ≤ 62
  pub upper : (m + 1) * 2 ^ z ≤ 2 ^ 62
  pub lower : 0 < m → 2 ^ 61 ≤ m * 2 ^ z
  pub lone : m ≡ 0 → z ≡ 62

lead : (m : ℕ) → m < 2 ^ 62 → Lead m (count_leading_zeros 64 (m * 4 + 3))
lead m h = let t = leading_top 64 (m * 4 + 3) (omega arith) (omega arith) in go (count_leading_zeros 64 (m * 4 + 3)) t.0 t.1 t.2 t.3
  where
    go : (z j : ℕ) → z + suc j ≡ 64 → 2 ^ j ≤ m * 4 + 3 → m * 4 + 3 < 2 ^ suc j → Lead m z
    go z zero e l u = absurd (no u)
      where
        no : m * 4 + 3 < 2 ^ 1 → ⊥
        no u = omega arith
    go z (suc zero) e l u = record { low = omega arith; upper = subst (λ x. (m + 1) * 2 ^ x ≤ 2 ^ 62) (sym z62) (omega arith); lower = λ p. absurd (no p); lone = λ p. z62 }
      where
        none : m ≡ 0
        none = omega arith

        no : 0 < m → ⊥
        no p = omega arith

        z62 : z ≡ 62
        z62 = omega arith
    go z (suc (suc i)) e l u = record { low = omega arith; upper = omega (arith, mul-le-mul_right (2 ^ z) above, whole); lower = λ p. omega (arith, mul-le-mul_right (2 ^ z) below, whole); lone = λ p. absurd (no p) }
      where
        three : 2 ^ suc (suc (suc i)) ≡ 8 * 2 ^ i
        three = omega (arith, pow-succ' 2 i, pow-succ' 2 (suc i), pow-succ' 2 (suc (suc i)))

        two : 2 ^ suc (suc i) ≡ 4 * 2 ^ i
        two = omega (arith, pow-succ' 2 i, pow-succ' 2 (suc i))

        above : m + 1 ≤ 2 * 2 ^ i
        above = omega (arith, three)

        below : 2 ^ i ≤ m
        below = omega (arith, two)

        no : m ≡ 0 → ⊥
        no p = omega (arith, below, pow_pos i)

        sum : z + i ≡ 61
        sum = omega arith

        whole : 2 ^ z * 2 ^ i ≡ 2 ^ 61
        whole = sym (pow-add 2 z i) ∙ ap (λ x. 2 ^ x) sum

pub lead_of : (w : ℤ) → nat_abs w < 2 ^ 62 → Lead (mag w) (room w)
unfolding room
lead_of w h = lead (mag w) (omega (arith, mag_of_nat_abs w {h = suc (nat_abs w)} (omega arith)))

-- at most 4 places, where there are 58 digits
pub lead_far : {m z : ℕ} → Lead m z → 2 ^ 58 ≤ m + 1 → z ≤ 4
lead_far {m} {z} l h = by_contra z 4 (λ (g : 4 < z). no (mul-le-mul h (pow_mono {i = 5} {j = z} g)))
  where
    no : 2 ^ 58 * 2 ^ 5 ≤ (m + 1) * 2 ^ z → ⊥
    no k = omega (arith, l.upper)

-- ---- the shift up does not overflow
pub wide_abs : (w : ℤ) (z : ℕ) → Lead (mag w) z → nat_abs w * 2 ^ z ≤ 2 ^ 62
wide_abs (pos n) z l = omega (arith, l.upper)
wide_abs (negsuc n) z l = omega (arith, l.upper)

-- ---- the 24 digits
shr_neg : (k m : ℕ) → 0 < k → mag (shr_z (neg_ℤ (pos k)) m) ≡ (k - 1) / m
shr_neg zero m h = elim h [ ]
shr_neg (suc k) m h = ap (λ x. x / m) back
  where
    back : k ≡ suc k - 1
    back = omega arith

pub full_cut : (w : ℤ) (z : ℕ) → 0 < nat_abs w → Lead (mag w) z → Full (shr_z (w *ℤ pos (2 ^ z)) (2 ^ 38))
full_cut (pos n) z p l = record { least = omega (arith, l.lower p); most = omega (arith, l.upper, pow_pos z) }
full_cut (negsuc n) z p l = record { least = omega (arith, same, long); most = omega (arith, same, l.upper) }
  where
    some : 0 < suc n * 2 ^ z
    some = omega (arith, pow_pos z)

    same : mag (shr_z (negsuc n *ℤ pos (2 ^ z)) (2 ^ 38)) ≡ (suc n * 2 ^ z - 1) / 2 ^ 38
    same = shr_neg (suc n * 2 ^ z) (2 ^ 38) some

    long : 2 ^ 61 < suc n * 2 ^ z
    long = go n l.lower l.lone
      where
        go : (n : ℕ) → (0 < n → 2 ^ 61 ≤ n * 2 ^ z) → (n ≡ 0 → z ≡ 62) → 2 ^ 61 < suc n * 2 ^ z
        go zero a b = omega (arith, ap (λ x. 2 ^ x) (b refl))
        go (suc n) a b = omega (arith, a (omega arith), pow_pos z)
