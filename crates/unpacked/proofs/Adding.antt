-- Sums: what `add` computes is the sum, rounded down to 24 digits. Up to 36 places apart the sum is exact; beyond that two roundings down are one.
use mathlib.Core.Path.{◌≡◌, sym, ap, ◌∙◌, subst}
use mathlib.Core.List.{[], ◌∷◌}
use mathlib.Core.Logic.{◌⊎◌, inl, inr, ⊎_elim}
use Prim.Native.Nat.{ℕ, ◌-◌, ◌*◌, ◌^◌, ◌≤◌, ◌<◌, min}
use native.Mathlib.Omega.{arith}
use native.Mathlib.Nat.{eq-zero-or-pos, zero-mul, zero-div}
use lib.Pow.{pow_pos}
use lib.IntN.{ℤ, pos, nat_abs, ◌+ℤ◌, ◌*ℤ◌}
use lib.Signed.{shr_z}
use Rattle.algebra.specs.Order.{◌≼◌, ◌≺◌}
use Rattle.algebra.proofs.Absolute.{nat_abs_add}
use Rattle.algebra.proofs.Floor.{floor_low, floor_high}
use Rattle.algebra.proofs.Linear.{reading, le, eq, lin_le, lin_lt, lin_eq}
use Rattle.algebra.proofs.Order.{nonneg, mul_mono_right, ≺_step}
use Rattle.algebra.proofs.Power.{pow_split}
use Rattle.unpacked.specs.declared.Number.{Number}
use Rattle.unpacked.specs.Number.{worth, Normal}
use Rattle.unpacked.specs.Cuts.{SumDown, room, CutDown}
use Rattle.unpacked.proofs.Worths.{shr_multiple, exp_low, exp_some}
use Rattle.unpacked.proofs.FarShifts.{capped, far_small, raised_abs, long_sum, le_or_lt, nat_abs_zero, none_left}
use Rattle.binary32.proofs.Rests.{shr_less}
use Rattle.unpacked.proofs.CutSums.{Between, cut_close, cut_apart, rounded}

-- ---- the sum over the larger exponent's power E, 36 places further down; F the other's, D how many times smaller that is
module _ (x y u v : ℤ) (E F K D : ℕ) (eE : E ≡ F * D) (ex : x *ℤ pos E ≡ u *ℤ pos K) (ey : y *ℤ pos F ≡ v *ℤ pos K) where
  sum_exact : (s : ℤ) → s *ℤ pos D ≡ y *ℤ pos (2 ^ 36) → (x *ℤ pos (2 ^ 36) +ℤ s) *ℤ pos E ≡ (u +ℤ v) *ℤ pos K *ℤ pos (2 ^ 36)
  sum_exact s h =
      lin_eq (x ∷ y ∷ u ∷ v ∷ s ∷ pos E ∷ pos F ∷ pos K ∷ pos D ∷ [])
      (eq ex ∷ eq ey ∷ eq (ap (λ t. s *ℤ pos t) eE) ∷ eq (ap (λ t. t *ℤ pos F) h) ∷ [])
      (search reading depth 40 fits 9999) (omega arith)

  module _ (q : ℤ) where
    sum_low : pos D *ℤ q ≼ y *ℤ pos (2 ^ 36) → (x *ℤ pos (2 ^ 36) +ℤ q) *ℤ pos E ≼ (u +ℤ v) *ℤ pos K *ℤ pos (2 ^ 36)
    sum_low l =
        lin_le (x ∷ y ∷ u ∷ v ∷ q ∷ pos E ∷ pos F ∷ pos K ∷ pos D ∷ [])
        (eq ex ∷ eq ey ∷ eq (ap (λ t. q *ℤ pos t) eE) ∷ le (mul_mono_right (nonneg F) l) ∷ [])
        (search reading depth 40 fits 9999) (omega arith)

    sum_high : 0 < F → y *ℤ pos (2 ^ 36) ≺ pos D *ℤ q +ℤ pos D → (u +ℤ v) *ℤ pos K *ℤ pos (2 ^ 36) ≺ (x *ℤ pos (2 ^ 36) +ℤ q +ℤ pos 1) *ℤ pos E
    sum_high p l =
        lin_lt (x ∷ y ∷ u ∷ v ∷ q ∷ pos E ∷ pos F ∷ pos K ∷ pos D ∷ [])
        (eq ex ∷ eq ey ∷ eq (ap (λ t. q *ℤ pos t) eE) ∷ eq (ap pos eE) ∷ le (mul_mono_right (nonneg F) (≺_step l)) ∷ [])
        (search reading depth 40 fits 9999) (omega arith)

-- ---- two numbers, the first with the larger exponent
module _ (x y : Number) (nx : Normal x) (ny : Normal y) (o : y.exp ≤ x.exp) where
  abbrev apart : ℕ
  apart = x.exp - y.exp

  abbrev X : ℤ
  X = worth x +ℤ worth y

  abbrev w : ℤ
  w = x.sig *ℤ pos (2 ^ 36) +ℤ shr_z (y.sig *ℤ pos (2 ^ 36)) (2 ^ min apart 61)

  pub w_short : nat_abs w ≤ 2 ^ 61
  w_short =
      omega (
        arith,
        nat_abs_add (x.sig *ℤ pos (2 ^ 36)) (shr_z (y.sig *ℤ pos (2 ^ 36)) (2 ^ min apart 61)),
        raised_abs x.sig,
        raised_abs y.sig,
        shr_less (y.sig *ℤ pos (2 ^ 36)) (2 ^ min apart 61),
        nx.few,
        ny.few,
      )

  powers : 2 ^ x.exp ≡ 2 ^ y.exp * 2 ^ apart
  powers = pow_split x.exp y.exp o

  tail : nat_abs (y.sig *ℤ pos (2 ^ 36)) ≤ 2 ^ 60
  tail = omega (arith, raised_abs y.sig, ny.few)

  -- where the shift loses nothing
  abbrev Exact : Type 0
  Exact = w *ℤ pos (2 ^ x.exp) ≡ X *ℤ pos (2 ^ 400) *ℤ pos (2 ^ 36)

  w_exact : (s : ℤ) → shr_z (y.sig *ℤ pos (2 ^ 36)) (2 ^ min apart 61) ≡ s → s *ℤ pos (2 ^ apart) ≡ y.sig *ℤ pos (2 ^ 36) → Exact
  w_exact s e h =
      ap (λ q. (x.sig *ℤ pos (2 ^ 36) +ℤ q) *ℤ pos (2 ^ x.exp)) e
      ∙ sum_exact x.sig y.sig (worth x) (worth y) (2 ^ x.exp) (2 ^ y.exp) (2 ^ 400) (2 ^ apart) powers nx.whole ny.whole s h

  -- of zero
  pub q_none : nat_abs y.sig ≡ 0 → shr_z (y.sig *ℤ pos (2 ^ 36)) (2 ^ min apart 61) ≡ pos 0
  q_none e = ap (λ t. shr_z (t *ℤ pos (2 ^ 36)) (2 ^ min apart 61)) (nat_abs_zero y.sig e) ∙ ap pos (zero-div (2 ^ min apart 61))

  none_exact : nat_abs y.sig ≡ 0 → Exact
  none_exact e = w_exact (pos 0) (q_none e) (ap pos (zero-mul (2 ^ apart)) ∙ sym (ap (λ t. t *ℤ pos (2 ^ 36)) (nat_abs_zero y.sig e)))

  -- close to each other
  close_exact : apart ≤ 36 → Exact
  close_exact h = w_exact (y.sig *ℤ pos R) (capped (y.sig *ℤ pos (2 ^ 36)) apart tail ∙ ap (λ t. shr_z t (2 ^ apart)) (sym back) ∙ shr_multiple (y.sig *ℤ pos R) (2 ^ apart) (pow_pos apart)) back
    where
      R : ℕ
      R = 2 ^ (36 - apart)

      turn : y.sig *ℤ pos R *ℤ pos (2 ^ apart) ≡ y.sig *ℤ pos (2 ^ apart * R)
      turn = lin_eq (y.sig ∷ pos (2 ^ apart) ∷ pos R ∷ []) [] (search reading depth 20) (omega arith)

      back : y.sig *ℤ pos R *ℤ pos (2 ^ apart) ≡ y.sig *ℤ pos (2 ^ 36)
      back = turn ∙ sym (ap (λ m. y.sig *ℤ pos m) (pow_split 36 apart h))

  pub exact_or_far : Exact ⊎ ((36 < apart) × (413 ≤ x.exp))
  exact_or_far = ⊎_elim (λ h. inl (close_exact h)) far (le_or_lt apart 36)
    where
      far : 36 < apart → Exact ⊎ ((36 < apart) × (413 ≤ x.exp))
      far h = ⊎_elim (λ e. inl (none_exact e)) (λ p. inr (h, omega (arith, h, exp_some y ny p))) (eq-zero-or-pos (nat_abs y.sig))

  -- far from each other: rounded down
  abbrev pub q : ℤ
  q = shr_z (y.sig *ℤ pos (2 ^ 36)) (2 ^ apart)

  pub w_far : w ≡ x.sig *ℤ pos (2 ^ 36) +ℤ q
  w_far = ap (λ t. x.sig *ℤ pos (2 ^ 36) +ℤ t) (capped (y.sig *ℤ pos (2 ^ 36)) apart tail)

  pub w_low : w *ℤ pos (2 ^ x.exp) ≼ X *ℤ pos (2 ^ 400) *ℤ pos (2 ^ 36)
  w_low =
      subst (λ t. t *ℤ pos (2 ^ x.exp) ≼ X *ℤ pos (2 ^ 400) *ℤ pos (2 ^ 36)) (sym w_far)
      (sum_low x.sig y.sig (worth x) (worth y) (2 ^ x.exp) (2 ^ y.exp) (2 ^ 400) (2 ^ apart) powers nx.whole ny.whole q
      (floor_low (y.sig *ℤ pos (2 ^ 36)) (2 ^ apart) (pow_pos apart)))

  pub w_high : X *ℤ pos (2 ^ 400) *ℤ pos (2 ^ 36) ≺ (w +ℤ pos 1) *ℤ pos (2 ^ x.exp)
  w_high =
      subst (λ t. X *ℤ pos (2 ^ 400) *ℤ pos (2 ^ 36) ≺ (t +ℤ pos 1) *ℤ pos (2 ^ x.exp)) (sym w_far)
      (sum_high x.sig y.sig (worth x) (worth y) (2 ^ x.exp) (2 ^ y.exp) (2 ^ 400) (2 ^ apart) powers nx.whole ny.whole q (pow_pos y.exp)
      (floor_high (y.sig *ℤ pos (2 ^ 36)) (2 ^ apart) (pow_pos apart)))

  pub full_first : 36 < apart → 2 ^ 23 ≤ nat_abs x.sig
  full_first h = nx.full (⊎_elim (λ e. absurd (no (nx.low e))) (λ l. l) (eq-zero-or-pos (nat_abs x.sig)))
    where
      no : x.exp ≡ 64 → ⊥
      no e = omega (arith, exp_low y ny)

  pub q_small : 36 < apart → nat_abs q ≤ 2 ^ 25
  q_small h = far_small (y.sig *ℤ pos (2 ^ 36)) apart tail h

  pub w_long : 36 < apart → 2 ^ 58 < nat_abs w
  w_long h =
      subst (λ t. 2 ^ 58 < nat_abs t) (sym w_far)
      (long_sum (x.sig *ℤ pos (2 ^ 36)) q (omega (arith, raised_abs x.sig, full_first h)) (omega (arith, q_small h)))

  between : Between (X *ℤ pos (2 ^ 400) *ℤ pos (2 ^ 36)) (shr_z (w *ℤ pos (2 ^ room w)) (2 ^ 38)) (2 ^ x.exp) (2 ^ room w)
  between = ⊎_elim (λ e. cut_close X w x.exp w_short e) (λ f. cut_apart X w x.exp w_short (w_long f.0) w_low w_high) exact_or_far

  none_there : nat_abs w ≡ 0 → X ≡ pos 0
  none_there e = ⊎_elim (none_left X w (2 ^ x.exp) (2 ^ 400) (pow_pos 400) (nat_abs_zero w e)) (λ f. absurd (no (w_long f.0))) exact_or_far
    where
      no : 2 ^ 58 < nat_abs w → ⊥
      no l = omega arith

  pub sum_down : (r : Number) → CutDown w x.exp r → x.exp ≤ 4000 → SumDown x y r
  sum_down r h high = rounded X w x.exp w_short between none_there r h high
