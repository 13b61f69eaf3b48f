-- Powers of two: a number times a power of two, and the spacing of a number.
use mathlib.Core.Path.{◌≡◌, refl, sym, ap, ◌∙◌}
use mathlib.Core.List.{[], ◌∷◌}
use mathlib.Core.Logic.{◌⊎◌, inl, inr, ⊎_elim}
use Prim.Native.Nat.{ℕ, ◌+◌, ◌-◌, ◌*◌, ◌^◌, ◌≤◌, ◌<◌}
use native.Mathlib.Omega.{arith}
use native.Mathlib.Nat.{eq-zero-or-pos, mul-le-mul_right, lt_of_mul-lt-mul_right, eq_of_mul-eq-mul_right}
use lib.Pow.{pow_pos, pow-add, pow_mono}
use lib.IntN.{ℤ, pos, nat_abs, ◌*ℤ◌}
use Rattle.algebra.proofs.Linear.{reading, eq, lin_eq}
use Rattle.algebra.proofs.Power.{pow_split}
use Rattle.rounding.specs.Format.{binary32, spacing}
use Rattle.rounding.proofs.Grid.{expo_only}
use Rattle.unpacked.specs.declared.Number.{Number}
use Rattle.unpacked.specs.Number.{worth, Normal, Scaled}
use Rattle.unpacked.proofs.Worths.{worth_is, worth_abs}

-- ---- a larger exponent
pub scaled_is : (x : Number) (n : ℕ) → Normal x → 0 < nat_abs x.sig → Scaled x n (record { sig = x.sig; exp = x.exp + n })
scaled_is x n N p = record { normal = record { whole = value ∙ ap (λ t. t *ℤ pos (2 ^ 400)) (sym w); few = N.few; full = N.full; low = λ e. absurd (no e) }; worths = w; high = refl }
  where
    no : nat_abs x.sig ≡ 0 → ⊥
    no e = omega (arith, p)

    value : x.sig *ℤ pos (2 ^ (x.exp + n)) ≡ worth x *ℤ pos (2 ^ n) *ℤ pos (2 ^ 400)
    value = ap (λ m. x.sig *ℤ pos m) (pow-add 2 x.exp n) ∙ go x.sig (worth x) (2 ^ x.exp) (2 ^ n) (2 ^ 400) N.whole
      where
        go : (s v : ℤ) (m a K : ℕ) → s *ℤ pos m ≡ v *ℤ pos K → s *ℤ pos (m * a) ≡ v *ℤ pos a *ℤ pos K
        go s v m a K h = lin_eq (s ∷ v ∷ pos m ∷ pos a ∷ pos K ∷ []) (eq (ap (λ t. t *ℤ pos a) h) ∷ []) (search reading depth 30) (omega arith)

    w : worth (record { sig = x.sig; exp = x.exp + n }) ≡ worth x *ℤ pos (2 ^ n)
    w = worth_is (record { sig = x.sig; exp = x.exp + n }) (worth x *ℤ pos (2 ^ n)) value

-- ---- the spacing of x is 2 ^ j

-- over naturals: K times n is s times E, and E is at most half of K
twice_le : (e K : ℕ) → 2 ^ (e + 1) ≤ K → 2 ^ e + 2 ^ e ≤ K
twice_le e K h = omega (arith, pow-add 2 e 1)

low_lt : (n s E K : ℕ) → n * K ≡ s * E → s ≤ 2 ^ 24 → E + E ≤ K → 0 < K → n < 2 ^ 24 * 2 ^ 0
low_lt n s E K e f g p = lt_of_mul-lt-mul_right K (omega (arith, e, mul-le-mul_right E f, g, p))

module _ (x : Number) (N : Normal x) where
  abbrev n : ℕ
  n = nat_abs (worth x)

  spaced : (j : ℕ) → n < 2 ^ 24 * 2 ^ j → (j ≡ 0) ⊎ (2 ^ 23 * 2 ^ j ≤ n) → 2 ^ j ≡ spacing binary32 (worth x)
  spaced j h l = ap (λ e. 2 ^ e) (sym (expo_only binary32 n j h l))

  -- below 2 ^ 24 units
  pub spacing_low : x.exp < 400 → 2 ^ 0 ≡ spacing binary32 (worth x)
  spacing_low h = spaced 0 (low_lt n (nat_abs x.sig) (2 ^ x.exp) (2 ^ 400) (worth_abs x N) N.few (twice_le x.exp (2 ^ 400) (pow_mono {i = x.exp + 1} {j = 400} (omega arith))) (pow_pos 400)) (inl refl)

  -- from there on: the magnitude is the significand times a power of two
  high_is : 400 ≤ x.exp → n ≡ nat_abs x.sig * 2 ^ (x.exp - 400)
  high_is h = eq_of_mul-eq-mul_right (2 ^ 400) (pow_pos 400) _ _ (worth_abs x N ∙ ap (λ m. nat_abs x.sig * m) (pow_split x.exp 400 h) ∙ turn (nat_abs x.sig) (2 ^ 400) (2 ^ (x.exp - 400)))
    where
      turn : (s a b : ℕ) → s * (a * b) ≡ s * b * a
      turn s a b = omega arith

  some : 400 ≤ x.exp → 2 ^ 23 ≤ nat_abs x.sig
  some h = N.full (⊎_elim (λ e. absurd (no (N.low e))) (λ l. l) (eq-zero-or-pos (nat_abs x.sig)))
    where
      no : x.exp ≡ 64 → ⊥
      no e = omega (arith, h)

  module _ (h : 400 ≤ x.exp) where
    abbrev j : ℕ
    j = x.exp - 400

    pub spacing_high : nat_abs x.sig < 2 ^ 24 → 2 ^ j ≡ spacing binary32 (worth x)
    spacing_high l = spaced j (omega (arith, high_is h, mul-le-mul_right (2 ^ j) l, pow_pos j)) (inr (omega (arith, high_is h, mul-le-mul_right (2 ^ j) (some h))))

    pub spacing_long : 2 ^ 24 ≤ nat_abs x.sig → 2 ^ (j + 1) ≡ spacing binary32 (worth x)
    spacing_long l =
        let same : nat_abs x.sig ≡ 2 ^ 24 = omega (arith, N.few) in
        let value : n ≡ 2 ^ 24 * 2 ^ j = high_is h ∙ ap (λ s. s * 2 ^ j) same in
        spaced (j + 1) (omega (arith, value, pow-add 2 j 1, pow_pos j)) (inr (omega (arith, value, pow-add 2 j 1)))
