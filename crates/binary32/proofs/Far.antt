-- A summand that lies more than 36 places below the other may be replaced by its sign, 36 places below: all three roundings of the sum stay.
-- The larger summand has all 24 digits, so that the step is above both replaced parts. Assumes nothing.
use mathlib.Core.Path.{◌≡◌, refl, sym, ap, ◌∙◌, subst, subst₂}
use mathlib.Core.Bool.{cond}
use mathlib.Core.List.{[], ◌∷◌}
use mathlib.Core.Option.{Option, none, some}
use Prim.Native.Nat.{ℕ, zero, suc, ◌+◌, ◌-◌, ◌*◌, ◌^◌, ◌≤◌, ◌<◌, min}
use native.Mathlib.Omega.{arith}
use native.Mathlib.Nat.{lt_of_not-le, not-le_of_lt, lt_of_lt_of_le, mul-le-mul_right, mul-pos, zero-mul}
use lib.Pow.{pow_pos, pow-add, pow_mono, pow-lt, shl_lt}
use lib.Dec.{leb}
use lib.IntN.{ℤ, pos, negsuc, neg_ℤ, nat_abs, ◌+ℤ◌, ◌*ℤ◌, neg_ℤ-neg_ℤ}
use lib.Ieee.{size}
use lib.Ieee.Digits.{size-lt}
use Rattle.algebra.proofs.Reading.{by_ring}
use Rattle.algebra.proofs.Linear.{reading}
use Rattle.algebra.proofs.Natural.{of_sub}
use Rattle.algebra.proofs.Power.{pow_split}
use Rattle.rounding.specs.Format.{binary32, MAX}
use Rattle.rounding.specs.Rounding.{negate, ex, step, sticky, lo, hi, nr, up, down, near}
use Rattle.rounding.proofs.Bracket.{sticky_pos}
use Rattle.rounding.proofs.DirectedLaws.{up_of_pos, up_of_neg}
use Rattle.rounding.proofs.Jam.{jam_lo, jam_hi, jam_nr}
use Rattle.rounding.proofs.Nearest.{near_odd}
use Rattle.rounding.proofs.Shift.{ex_shr}
use Rattle.rounding.proofs.Sign.{nat_abs_neg}

-- the sign of a number: -1, 0 or 1
abbrev pub sgn : ℤ → ℤ
sgn (pos zero) = pos 0
sgn (pos (suc n)) = pos 1
sgn (negsuc n) = negsuc 0

-- ---- two values with the same roundings
pub record Agree (D : ℕ) (X Y : ℤ) : Type 0 where
  pub ups : up binary32 D X ≡ up binary32 D Y
  pub downs : down binary32 D X ≡ down binary32 D Y
  pub nears : near binary32 D X ≡ near binary32 D Y

negate² : (a : Option ℤ) → negate (negate a) ≡ a
negate² (some v) = ap some (neg_ℤ-neg_ℤ v)
negate² none = refl

module _ (D : ℕ) (d : 0 < D) where
  down_neg : (X : ℤ) → down binary32 D (neg_ℤ X) ≡ negate (up binary32 D X)
  unfolding down
  down_neg X = ap (λ x. negate (up binary32 D x)) (neg_ℤ-neg_ℤ X)

  up_neg : (X : ℤ) → up binary32 D (neg_ℤ X) ≡ negate (down binary32 D X)
  unfolding down
  up_neg X = sym (negate² (up binary32 D (neg_ℤ X)))

  agree_neg : {X Y : ℤ} → Agree D X Y → Agree D (neg_ℤ X) (neg_ℤ Y)
  agree_neg {X} {Y} a = record {
    ups = up_neg X ∙ ap negate a.downs ∙ sym (up_neg Y);
    downs = down_neg X ∙ ap negate a.ups ∙ sym (down_neg Y);
    nears = near_odd binary32 D d X ∙ ap negate a.nears ∙ sym (near_odd binary32 D d Y);
  }

  agree_of : (M N : ℕ) → lo binary32 D M ≡ lo binary32 D N → hi binary32 D M ≡ hi binary32 D N → nr binary32 D M ≡ nr binary32 D N
      → Agree D (pos M) (pos N)
  unfolding down near
  agree_of M N l h n = record {
    ups = up_of_pos binary32 D d M ∙ ap (λ x. cond (leb x (MAX binary32)) (some (pos x)) none) h ∙ sym (up_of_pos binary32 D d N);
    downs = ap negate (up_of_neg binary32 D d M ∙ ap (λ x. some (neg_ℤ (pos (min x (MAX binary32))))) l ∙ sym (up_of_neg binary32 D d N));
    nears = ap (λ x. cond (leb x (MAX binary32)) (some (pos x)) none) n;
  }

-- ---- N = h * 2 ^ g + r is so large that the step is a multiple of 2 * 2 ^ g: of r only matters whether it is 0
module _ (δ g h r r' : ℕ) (large : 2 ^ (g + 24) ≤ h * 2 ^ g + r) (l : r < 2 ^ g) (l' : r' < 2 ^ g) (z : sticky r ≡ sticky r') where
  abbrev N : ℕ
  N = h * 2 ^ g + r

  digits : g + 24 < size N
  digits = lt_of_not-le (λ (k : size N ≤ g + 24). not-le_of_lt (lt_of_lt_of_le (size-lt N) (pow_mono k)) large)

  abbrev more : ℕ
  more = ex binary32 (2 ^ δ) N + δ - (g + 1)

  enough : ex binary32 (2 ^ δ) N + δ ≡ (1 + more) + g
  enough = omega (arith, ex_shr binary32 N δ, digits)

  step_is : step binary32 (2 ^ δ) N ≡ 2 * 2 ^ more * 2 ^ g
  step_is =
      sym (pow-add 2 (ex binary32 (2 ^ δ) N) δ) ∙ ap (λ x. 2 ^ x) enough ∙ pow-add 2 (1 + more) g ∙ ap (λ x. x * 2 ^ g) (pow-add 2 1 more)

  agree_far : Agree (2 ^ δ) (pos (h * 2 ^ g + r')) (pos N)
  agree_far = agree_of (2 ^ δ) (pow_pos δ) (h * 2 ^ g + r') N
      (jam_lo binary32 (2 ^ δ) h (2 ^ g) (2 ^ more) r r' (pow_pos δ) l l' z step_is)
      (jam_hi binary32 (2 ^ δ) h (2 ^ g) (2 ^ more) r r' (pow_pos δ) l l' z step_is)
      (jam_nr binary32 (2 ^ δ) h (2 ^ g) (2 ^ more) r r' (pow_pos δ) l l' z step_is)

-- ---- the sum of a * 2 ^ i and b * 2 ^ j, j far below i, split at g = i - 2
module _ (δ a i j : ℕ) (ha : 2 ^ 23 ≤ a) (hi : j + 36 < i) where
  abbrev g : ℕ
  g = i - 2

  quarter : 2 ^ i ≡ 4 * 2 ^ g
  quarter = pow_split i 2 (omega arith)

  above : 2 ^ (g + 24) + 2 ^ g ≤ a * 2 ^ i
  above = omega (arith, ap (λ x. a * x) quarter, mul-le-mul_right (2 ^ g) ha, pow-add 2 g 24)

  unit_less : 2 ^ (i - 36) < 2 ^ g
  unit_less = pow-lt (omega arith)

  small_less : (b : ℕ) → b ≤ 2 ^ 24 → b * 2 ^ j < 2 ^ g
  small_less b h = lt_of_lt_of_le (shl_lt 25 j (omega arith)) (pow_mono {i = 25 + j} {j = g} (omega arith))

  one_more : (k : ℕ) → 0 < suc k * 2 ^ j
  one_more k = mul-pos {m = suc k} {n = 2 ^ j} (omega arith) (pow_pos j)

  -- the larger summand, the smaller one, and its sign 36 places below the larger
  abbrev big : ℤ
  big = pos a *ℤ pos (2 ^ i)

  abbrev small : ℤ → ℤ
  small y = y *ℤ pos (2 ^ j)

  abbrev mark : ℤ → ℤ
  mark y = sgn y *ℤ pos (2 ^ (i - 36))

  -- the sum of two that are not negative
  plus_far : (b : ℕ) → b ≤ 2 ^ 24 → Agree (2 ^ δ) (big +ℤ mark (pos b)) (big +ℤ small (pos b))
  plus_far zero h =
      let e : 0 * 2 ^ (i - 36) ≡ 0 * 2 ^ j = zero-mul (2 ^ (i - 36)) ∙ sym (zero-mul (2 ^ j)) in
      subst (λ x. Agree (2 ^ δ) (pos (a * 2 ^ i + x)) (pos (a * 2 ^ i + 0 * 2 ^ j))) (sym e) (record { ups = refl; downs = refl; nears = refl })
  plus_far (suc k) h =
      let e₁ : a * 2 ^ i + 1 * 2 ^ (i - 36) ≡ 4 * a * 2 ^ g + 2 ^ (i - 36) = omega (arith, ap (λ x. a * x) quarter) in
      let e₂ : a * 2 ^ i + suc k * 2 ^ j ≡ 4 * a * 2 ^ g + suc k * 2 ^ j = omega (arith, ap (λ x. a * x) quarter) in
      subst₂ (λ x y. Agree (2 ^ δ) (pos x) (pos y)) (sym e₁) (sym e₂)
      (agree_far δ g (4 * a) (suc k * 2 ^ j) (2 ^ (i - 36)) (omega (arith, above, ap (λ x. a * x) quarter)) (small_less (suc k) h) unit_less
      (sticky_pos (suc k * 2 ^ j) (one_more k) ∙ sym (sticky_pos (2 ^ (i - 36)) (pow_pos (i - 36)))))

  -- the difference: one is borrowed from 4 * a
  minus_far : (k : ℕ) → suc k ≤ 2 ^ 24 → Agree (2 ^ δ) (big +ℤ mark (negsuc k)) (big +ℤ small (negsuc k))
  minus_far k h =
      subst₂ (Agree (2 ^ δ)) (sym marked) (sym exact)
      (agree_far δ g (4 * a - 1) (2 ^ g - suc k * 2 ^ j) (2 ^ g - 2 ^ (i - 36))
      (omega (arith, above, down_one, small_less (suc k) h)) (omega (arith, one_more k, pow_pos g)) (omega (arith, pow_pos (i - 36), pow_pos g))
      (sticky_pos (2 ^ g - suc k * 2 ^ j) (omega (arith, small_less (suc k) h)) ∙ sym (sticky_pos (2 ^ g - 2 ^ (i - 36)) (omega (arith, unit_less)))))
    where
      down_one : (4 * a - 1) * 2 ^ g + 2 ^ g ≡ a * 2 ^ i
      down_one = back (4 * a) (2 ^ g) (omega (arith, ha)) ∙ omega (arith, ap (λ x. a * x) quarter)
        where
          back : (n m : ℕ) → 0 < n → (n - 1) * m + m ≡ n * m
          back (suc n) m h = let e : suc n - 1 ≡ n = omega arith in omega (arith, ap (λ x. x * m) e)
          back zero m h = absurd (no h)
            where
              no : 0 < 0 → ⊥
              no h = omega arith

      less : (b : ℕ) → b ≤ a * 2 ^ i → pos (a * 2 ^ i) +ℤ neg_ℤ (pos b) ≡ pos (a * 2 ^ i - b)
      less b h = sym (of_sub h)

      move : (b b' : ℕ) → b ≡ b' → b' < 2 ^ g → a * 2 ^ i - b ≡ (4 * a - 1) * 2 ^ g + (2 ^ g - b')
      move b b' e h = omega (arith, down_one)

      marked : big +ℤ mark (negsuc k) ≡ pos ((4 * a - 1) * 2 ^ g + (2 ^ g - 2 ^ (i - 36)))
      marked =
          less (1 * 2 ^ (i - 36)) (omega (arith, above, pow_pos (g + 24), unit_less))
          ∙ ap pos (move (1 * 2 ^ (i - 36)) (2 ^ (i - 36)) (omega arith) unit_less)

      exact : big +ℤ small (negsuc k) ≡ pos ((4 * a - 1) * 2 ^ g + (2 ^ g - suc k * 2 ^ j))
      exact =
          less (suc k * 2 ^ j) (omega (arith, above, pow_pos (g + 24), small_less (suc k) h))
          ∙ ap pos (move (suc k * 2 ^ j) (suc k * 2 ^ j) refl (small_less (suc k) h))

  pub pos_far : (y : ℤ) → nat_abs y ≤ 2 ^ 24 → Agree (2 ^ δ) (big +ℤ mark y) (big +ℤ small y)
  pos_far (pos b) h = plus_far b h
  pos_far (negsuc k) h = minus_far k h

sgn_neg : (y : ℤ) → sgn (neg_ℤ y) ≡ neg_ℤ (sgn y)
sgn_neg (pos zero) = refl
sgn_neg (pos (suc n)) = refl
sgn_neg (negsuc n) = refl

-- the smaller summand's sign is enough
pub sum_far : (δ i j : ℕ) (x y : ℤ) → 2 ^ 23 ≤ nat_abs x → nat_abs y ≤ 2 ^ 24 → j + 36 < i
    → Agree (2 ^ δ) (x *ℤ pos (2 ^ i) +ℤ sgn y *ℤ pos (2 ^ (i - 36))) (x *ℤ pos (2 ^ i) +ℤ y *ℤ pos (2 ^ j))
sum_far δ i j (pos a) y ha hy hi = pos_far δ a i j ha hi y hy
sum_far δ i j (negsuc k) y ha hy hi =
    subst₂ (Agree (2 ^ δ)) (mirror (sgn y) (2 ^ (i - 36)) (sgn (neg_ℤ y)) (sgn_neg y)) (mirror y (2 ^ j) (neg_ℤ y) refl)
    (agree_neg (2 ^ δ) (pow_pos δ) (pos_far δ (suc k) i j ha hi (neg_ℤ y) (subst (λ n. n ≤ 2 ^ 24) (sym (nat_abs_neg y)) hy)))
  where
    mirror : (z : ℤ) (m : ℕ) (z' : ℤ) → z' ≡ neg_ℤ z → neg_ℤ (pos (suc k) *ℤ pos (2 ^ i) +ℤ z' *ℤ pos m) ≡ negsuc k *ℤ pos (2 ^ i) +ℤ z *ℤ pos m
    mirror z m z' e = ap (λ t. neg_ℤ (pos (suc k) *ℤ pos (2 ^ i) +ℤ t *ℤ pos m)) e ∙ turn (pos (suc k))
      where
        turn : (x : ℤ) → neg_ℤ (x *ℤ pos (2 ^ i) +ℤ neg_ℤ z *ℤ pos m) ≡ neg_ℤ x *ℤ pos (2 ^ i) +ℤ z *ℤ pos m
        turn x = by_ring (x ∷ z ∷ pos (2 ^ i) ∷ pos m ∷ []) (search reading depth 20) tt
