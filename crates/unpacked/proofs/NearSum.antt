-- Sums to nearest: what `add` computes is the sum, rounded to nearest. A summand that loses bits by its shift is so small that the sum rounds to the
-- other one, and so does the sum that was computed.
use mathlib.Core.Path.{◌≡◌, refl, sym, ap, ◌∙◌, subst}
use mathlib.Core.List.{[], ◌∷◌}
use mathlib.Core.Logic.{inl, inr, ⊎_elim}
use Prim.Native.Nat.{ℕ, suc, ◌+◌, ◌-◌, ◌*◌, ◌^◌, ◌≤◌, ◌<◌, min}
use native.Mathlib.Omega.{arith, by_contra}
use native.Mathlib.Nat.{mul-one, mul_comm, mul-le-mul_right}
use lib.Pow.{pow_pos, pow-add}
use lib.IntN.{ℤ, pos, negsuc, neg_ℤ, nat_abs, ◌+ℤ◌, ◌*ℤ◌, neg_ℤ-neg_ℤ}
use lib.Signed.{shr_z}
use Rattle.algebra.specs.Order.{◌≼◌, ◌≺◌}
use Rattle.algebra.proofs.Absolute.{≼_abs, neg_≼_abs}
use Rattle.algebra.proofs.Linear.{reading, le, lt, eq, lin_lt, lin_absurd}
use Rattle.algebra.proofs.Natural.{of_le, of_lt, to_lt}
use Rattle.algebra.proofs.Order.{≼_refl, ≼_trans, nonneg, mul_mono_right}
use Rattle.rounding.specs.Format.{binary32}
use Rattle.rounding.specs.Rounding.{negate, near}
use Rattle.rounding.proofs.Nearest.{near_odd}
use Rattle.unpacked.specs.declared.Number.{Number}
use Rattle.unpacked.specs.Number.{worth, Normal}
use Rattle.unpacked.specs.Cuts.{SumNear, CutNear, limited_near}
use Rattle.unpacked.proofs.Quotients.{closest_about}
use Rattle.unpacked.proofs.Nearing.{near_wide, negate_limited, near_units}
use Rattle.unpacked.proofs.FarShifts.{le_or_lt}
use Rattle.unpacked.proofs.Adding.{exact_or_far, full_first, q, q_small, w_far, w_low, w_high, w_long}
use Rattle.unpacked.proofs.NearCuts.{near_found}

-- ---- a magnitude n / 2 ^ K, less than a quarter of D from a * D, where a has 24 digits: it is rounded to that
module _ (K j a n : ℕ) (full : 2 ^ 23 ≤ a) (few : a ≤ 2 ^ 24) (l : 4 * (a * 2 ^ (j + 1 + K)) < 4 * n + 2 ^ (j + 1 + K)) (u : 4 * n < 4 * (a * 2 ^ (j + 1 + K)) + 2 ^ (j + 1 + K)) where
  abbrev D : ℕ
  D = 2 ^ (j + 1 + K)

  abbrev Rounds : Type 0
  Rounds = near binary32 (2 ^ K) (pos n) ≡ limited_near (pos (a * 2 ^ (j + 1)))

  twice : (i : ℕ) → 2 ^ (i + 1) ≡ 2 * 2 ^ i
  twice i = pow-add 2 i 1 ∙ mul_comm (2 ^ i) 2

  places : (i : ℕ) → 2 ^ (i + K) ≡ 2 ^ i * 2 ^ K
  places i = pow-add 2 i K

  -- by the digits of n: as many as those of a * D, or one less, or one more
  at_digits : (i c : ℕ) → c * 2 ^ i ≡ a * 2 ^ (j + 1) → D ≤ 2 * 2 ^ (i + K) → 2 ^ 23 * 2 ^ (i + K) ≤ n → n ≤ 2 ^ 24 * 2 ^ (i + K) → Rounds
  at_digits i c e h low top =
      ap (λ t. near binary32 (2 ^ K) (pos t)) (sym (mul-one n)) ∙ near_wide (i + K) K (pos n) 0 i low top (omega arith)
      ∙ ap (λ t. limited_near (pos t)) (ap (λ t. t * 2 ^ i) (closest_about n (2 ^ (i + K)) c (omega (arith, same)) (omega (arith, same))) ∙ e)
    where
      same : c * 2 ^ (i + K) ≡ a * D
      same = omega (arith, ap (λ t. c * t) (places i), ap (λ t. a * t) (places (j + 1)), ap (λ t. t * 2 ^ K) e)

  under : n < 2 ^ 23 * D → Rounds
  under g = at_digits j (2 ^ 24) (omega (arith, twice j, ap (λ t. t * 2 ^ (j + 1)) least)) (omega (arith, half)) (omega (arith, half, ap (λ t. t * D) least)) (omega (arith, half))
    where
      least : a ≡ 2 ^ 23
      least = omega (arith, full, by_contra a (2 ^ 23) (λ (i : 2 ^ 23 < a). no (mul-le-mul_right D i)))
        where
          no : suc (2 ^ 23) * D ≤ a * D → ⊥
          no i = omega arith

      half : D ≡ 2 * 2 ^ (j + K)
      half = omega (arith, places (j + 1), places j, ap (λ t. t * 2 ^ K) (twice j))

  over : 2 ^ 24 * D < n → Rounds
  over g = at_digits (j + 1 + 1) (2 ^ 23) (omega (arith, twice (j + 1), ap (λ t. t * 2 ^ (j + 1)) most)) (omega (arith, double)) (omega (arith, double)) (omega (arith, double, ap (λ t. t * D) most))
    where
      most : a ≡ 2 ^ 24
      most = omega (arith, few, by_contra (2 ^ 24) a (λ (i : a < 2 ^ 24). no (mul-le-mul_right D i)))
        where
          no : suc a * D ≤ 2 ^ 24 * D → ⊥
          no i = omega arith

      double : 2 ^ (j + 1 + 1 + K) ≡ 2 * D
      double = omega (arith, places (j + 1 + 1), places (j + 1), ap (λ t. t * 2 ^ K) (twice (j + 1)))

  near_about : Rounds
  near_about = ⊎_elim (λ g. ⊎_elim (at_digits (j + 1) a refl (omega arith) g) over (le_or_lt n (2 ^ 24 * D))) under (le_or_lt (2 ^ 23 * D) n)

-- with its sign
module _ (K j : ℕ) where
  abbrev P : ℤ
  P = pos (2 ^ (j + 1 + K))

  near_pos : (a : ℕ) (t : ℤ) → 2 ^ 23 ≤ a → a ≤ 2 ^ 24 → pos 4 *ℤ (pos a *ℤ P) ≺ pos 4 *ℤ t +ℤ P → pos 4 *ℤ t ≺ pos 4 *ℤ (pos a *ℤ P) +ℤ P
      → near binary32 (2 ^ K) t ≡ limited_near (pos (a * 2 ^ (j + 1)))
  near_pos a (pos n) f g l u = near_about K j a n f g (to_lt l) (to_lt u)
  near_pos a (negsuc n) f g l u =
      absurd (lin_absurd (pos a ∷ pos n ∷ P ∷ []) (lt l ∷ le (mul_mono_right (nonneg (2 ^ (j + 1 + K))) (of_le f)) ∷ []) (search reading depth 20) (omega arith))

  near_any : (a t : ℤ) → 2 ^ 23 ≤ nat_abs a → nat_abs a ≤ 2 ^ 24 → pos 4 *ℤ (a *ℤ P) ≺ pos 4 *ℤ t +ℤ P → pos 4 *ℤ t ≺ pos 4 *ℤ (a *ℤ P) +ℤ P
      → near binary32 (2 ^ K) t ≡ limited_near (a *ℤ pos (2 ^ (j + 1)))
  near_any (pos a) t f g l u = near_pos a t f g l u
  near_any (negsuc a) t f g l u =
      ap (near binary32 (2 ^ K)) (sym (neg_ℤ-neg_ℤ t)) ∙ near_odd binary32 (2 ^ K) (pow_pos K) (neg_ℤ t)
      ∙ ap negate (near_pos (suc a) (neg_ℤ t) f g
      (lin_lt (pos a ∷ t ∷ P ∷ []) (lt u ∷ []) (search reading depth 20) (omega arith))
      (lin_lt (pos a ∷ t ∷ P ∷ []) (lt l ∷ []) (search reading depth 20) (omega arith)))
      ∙ negate_limited (suc a * 2 ^ (j + 1))

-- all values from w to w + 1 are rounded to a, where w is a with 36 places more and a small s
module _ (be : ℕ) (a s w : ℤ) (full : 2 ^ 23 ≤ nat_abs a) (few : nat_abs a ≤ 2 ^ 24) (small : nat_abs s ≤ 2 ^ 25) (ew : w ≡ a *ℤ pos (2 ^ 36) +ℤ s) (high : 413 ≤ be) where
  abbrev E : ℕ
  E = 2 ^ be

  abbrev j : ℕ
  j = be - 401

  power : 2 ^ (j + 1 + 436) ≡ 2 ^ 36 * E
  power = ap (λ n. 2 ^ n) is ∙ pow-add 2 36 be
    where
      is : j + 1 + 436 ≡ 36 + be
      is = omega arith

  some : pos 0 ≺ pos E
  some = of_lt (pow_pos be)

  stays : (t : ℤ) → w *ℤ pos E ≼ t → t ≺ (w +ℤ pos 1) *ℤ pos E → near binary32 (2 ^ 436) t ≡ limited_near (a *ℤ pos (2 ^ (j + 1)))
  stays t l u = near_any 436 j a t full few
      (subst (λ n. pos 4 *ℤ (a *ℤ pos n) ≺ pos 4 *ℤ t +ℤ pos n) (sym power)
      (lin_lt (a ∷ s ∷ w ∷ t ∷ pos E ∷ []) (le l ∷ eq (ap (λ z. z *ℤ pos E) ew) ∷ le (mul_mono_right (nonneg E) (≼_trans (neg_≼_abs s) (of_le small))) ∷ lt some ∷ [])
      (search reading depth 40 fits 9999) (omega arith)))
      (subst (λ n. pos 4 *ℤ t ≺ pos 4 *ℤ (a *ℤ pos n) +ℤ pos n) (sym power)
      (lin_lt (a ∷ s ∷ w ∷ t ∷ pos E ∷ []) (lt u ∷ eq (ap (λ z. z *ℤ pos E) ew) ∷ le (mul_mono_right (nonneg E) (≼_trans (≼_abs s) (of_le small))) ∷ lt some ∷ [])
      (search reading depth 40 fits 9999) (omega arith)))

  same_near : (t : ℤ) → w *ℤ pos E ≼ t → t ≺ (w +ℤ pos 1) *ℤ pos E → near binary32 (2 ^ 436) (w *ℤ pos E) ≡ near binary32 (2 ^ 436) t
  same_near t l u = stays (w *ℤ pos E) (≼_refl (w *ℤ pos E)) (lin_lt (w ∷ pos E ∷ []) (lt some ∷ []) (search reading depth 20) (omega arith)) ∙ sym (stays t l u)

-- ---- two numbers, the first with the larger exponent
module _ (x y : Number) (nx : Normal x) (ny : Normal y) (o : y.exp ≤ x.exp) where
  abbrev X : ℤ
  X = worth x +ℤ worth y

  abbrev w : ℤ
  w = x.sig *ℤ pos (2 ^ 36) +ℤ shr_z (y.sig *ℤ pos (2 ^ 36)) (2 ^ min (x.exp - y.exp) 61)

  pub sum_near : (r : Number) → CutNear w x.exp r → x.exp ≤ 4000 → SumNear x y r
  sum_near r h high = ⊎_elim
      (λ e. near_found X w x.exp r h high (ap (near binary32 (2 ^ 436)) e ∙ near_units X) (inl e))
      (λ f. near_found X w x.exp r h high
      (same_near x.exp x.sig (q x y nx ny o) w (full_first x y nx ny o f.0) nx.few (q_small x y nx ny o f.0) (w_far x y nx ny o) f.1
      (X *ℤ pos (2 ^ 400) *ℤ pos (2 ^ 36)) (w_low x y nx ny o) (w_high x y nx ny o) ∙ near_units X)
      (inr (w_long x y nx ny o f.0, f.1)))
      (exact_or_far x y nx ny o)
