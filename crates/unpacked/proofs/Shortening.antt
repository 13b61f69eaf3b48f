-- 24 of 48 digits: rounded down they are the rounding of the whole, on the grid of its exponent, up to the largest number.
use mathlib.Core.Path.{◌≡◌, sym, ap, ◌∙◌}
use mathlib.Core.List.{[], ◌∷◌}
use mathlib.Core.Logic.{◌⊎◌, inl, inr, ⊎_elim}
use mathlib.Core.Option.{Option, none, some}
use Prim.Native.Nat.{ℕ, suc, ◌+◌, ◌-◌, ◌*◌, ◌/◌, ◌^◌, ◌≤◌, ◌<◌}
use native.Mathlib.Omega.{arith}
use lib.Pow.{pow-add}
use lib.IntN.{ℤ, pos, negsuc, neg_ℤ, nat_abs, ◌+ℤ◌, ◌*ℤ◌}
use lib.Signed.{shr_z}
use Rattle.algebra.specs.Order.{◌≼◌, ◌≺◌}
use Rattle.algebra.proofs.Floor.{floor_low, floor_greatest}
use Rattle.algebra.proofs.Linear.{reading, le, lt, eq, lin_le, lin_lt, lin_eq}
use Rattle.algebra.proofs.Natural.{of_lt}
use Rattle.algebra.proofs.Order.{≼_refl, nonneg, mul_mono_right, ≺_step, cancel_le, cancel_lt, cancel_eq}
use Rattle.rounding.specs.Format.{Format, binary32, MAX, Form}
use Rattle.rounding.specs.Rounding.{down}
use Rattle.rounding.specs.Property.{DownTo}
use Rattle.rounding.proofs.Directed.{down_to, down_only, down_below}
use Rattle.unpacked.specs.declared.Number.{Number}
use Rattle.unpacked.specs.Number.{worth, Normal}
use Rattle.unpacked.specs.Cuts.{IsFloor, limited}
use Rattle.unpacked.proofs.Floors.{Full, greatest_at, shifted_form, limits}
use Rattle.unpacked.proofs.Worths.{worth_is}
use Rattle.unpacked.proofs.FarShifts.{le_or_lt}

-- ---- 24 of 48 digits
module _ (s : ℤ) (few : nat_abs s ≤ 2 ^ 48) (full : 2 ^ 47 ≤ nat_abs s) where
  pub cut_few : nat_abs (shr_z s (2 ^ 24)) ≤ 2 ^ 24
  cut_few = go s few
    where
      go : (s : ℤ) → nat_abs s ≤ 2 ^ 48 → nat_abs (shr_z s (2 ^ 24)) ≤ 2 ^ 24
      go (pos n) h = omega arith
      go (negsuc n) h = omega arith

  pub cut_long : 2 ^ 23 ≤ nat_abs (shr_z s (2 ^ 24))
  cut_long = go s full
    where
      go : (s : ℤ) → 2 ^ 47 ≤ nat_abs s → 2 ^ 23 ≤ nat_abs (shr_z s (2 ^ 24))
      go (pos n) h = omega arith
      go (negsuc n) h = omega arith

  -- all digits, or nothing is lost
  pub cut_kind : Full (shr_z s (2 ^ 24)) ⊎ (shr_z s (2 ^ 24) *ℤ pos (2 ^ 24) ≡ s)
  cut_kind = go s few full
    where
      go : (s : ℤ) → nat_abs s ≤ 2 ^ 48 → 2 ^ 47 ≤ nat_abs s → Full (shr_z s (2 ^ 24)) ⊎ (shr_z s (2 ^ 24) *ℤ pos (2 ^ 24) ≡ s)
      go (pos n) h l = ⊎_elim (λ k. inr (ap pos (top k))) (λ k. inl (record { least = omega arith; most = omega arith })) (le_or_lt (2 ^ 48) n)
        where
          top : 2 ^ 48 ≤ n → n / 2 ^ 24 * 2 ^ 24 ≡ n
          top k = omega arith
      go (negsuc n) h l = ⊎_elim (λ k. inr (ap (λ t. neg_ℤ (pos t)) (low k))) (λ k. inl (record { least = omega arith; most = omega arith })) (le_or_lt n (2 ^ 47 - 1))
        where
          low : n ≤ 2 ^ 47 - 1 → suc (n / 2 ^ 24) * 2 ^ 24 ≡ suc n
          low k = omega arith

-- ---- over plain numbers: numbers are whole units, so that X / D may be rounded down to a whole number first
pub down_whole : (f : Format) (D : ℕ) → 0 < D → (X : ℤ) → down f D X ≡ down f 1 (shr_z X D)
down_whole f D d X = go (down f D X) (down_to f D d X)
  where
    Y : ℤ
    Y = shr_z X D

    go : (m : Option ℤ) → DownTo f D X m → m ≡ down f 1 Y
    go none h =
        sym (down_below f 1 (omega arith)
        (cancel_lt (of_lt d) (lin_lt (X ∷ Y ∷ pos D ∷ pos (MAX f) ∷ []) (lt h ∷ le (floor_low X D d) ∷ []) (search reading depth 40) (omega arith))))
    go (some v) h =
        sym (down_only f 1 (omega arith) (record {
          num = h.num;
          below = lin_le (v ∷ Y ∷ []) (le (floor_greatest X v D d (lin_le (X ∷ v ∷ pos D ∷ []) (le h.below ∷ []) (search reading depth 40) (omega arith))) ∷ []) (search reading depth 40) (omega arith);
          greatest = λ w n l. h.greatest w n
              (lin_le (X ∷ Y ∷ w ∷ pos D ∷ []) (le (mul_mono_right (nonneg D) l) ∷ le (floor_low X D d) ∷ []) (search reading depth 40) (omega arith));
        }))

-- c * m is the multiple of m = 2 ^ j below X / D
module _ (X c : ℤ) (D j : ℕ) (d : 0 < D) (l : c *ℤ pos (2 ^ j) *ℤ pos D ≼ X) (u : X ≺ (c +ℤ pos 1) *ℤ pos (2 ^ j) *ℤ pos D)
    (k : Full c ⊎ (c *ℤ pos (2 ^ j) *ℤ pos D ≡ X)) where
  form_greatest : (w : ℤ) → Form binary32 (nat_abs w) → w *ℤ pos D ≼ X → w ≼ c *ℤ pos (2 ^ j)
  form_greatest w n h = ⊎_elim grid exact k
    where
      grid : Full c → w ≼ c *ℤ pos (2 ^ j)
      grid f = greatest_at w c j (cancel_lt (of_lt d) (lin_lt (X ∷ w ∷ c ∷ pos (2 ^ j) ∷ pos D ∷ []) (le h ∷ lt u ∷ []) (search reading depth 40) (omega arith))) f w n (≼_refl w)

      exact : c *ℤ pos (2 ^ j) *ℤ pos D ≡ X → w ≼ c *ℤ pos (2 ^ j)
      exact e = cancel_le (of_lt d) (lin_le (X ∷ w ∷ c ∷ pos (2 ^ j) ∷ pos D ∷ []) (le h ∷ eq e ∷ []) (search reading depth 40) (omega arith))

  is_floor : nat_abs c ≤ 2 ^ 24 → IsFloor (shr_z X D) (c *ℤ pos (2 ^ j))
  is_floor f = record {
    form = shifted_form c j f;
    below = floor_greatest X (c *ℤ pos (2 ^ j)) D d (lin_le (X ∷ c ∷ pos (2 ^ j) ∷ pos D ∷ []) (le l ∷ []) (search reading depth 40) (omega arith));
    greatest = λ w n h. form_greatest w n
        (lin_le (X ∷ shr_z X D ∷ w ∷ pos D ∷ []) (le (mul_mono_right (nonneg D) h) ∷ le (floor_low X D d) ∷ []) (search reading depth 40) (omega arith));
  }

  pub down_limited : nat_abs c ≤ 2 ^ 24 → down binary32 D X ≡ limited (c *ℤ pos (2 ^ j))
  down_limited f = down_whole binary32 D d X ∙ limits (is_floor f)

-- p * P = X * Q, with Q = 2 ^ 24 * (m * D) / P: the two bounds of c
module _ (X p c : ℤ) (P Q m D : ℕ) (hq : 0 < Q) (hp : 0 < P) (e : p *ℤ pos P ≡ X *ℤ pos Q) (eP : P * 2 ^ 24 ≡ m * D * Q) where
  pub over_low : pos (2 ^ 24) *ℤ c ≼ p → c *ℤ pos m *ℤ pos D ≼ X
  over_low l =
      cancel_le (of_lt hq)
      (lin_le (X ∷ p ∷ c ∷ pos P ∷ pos Q ∷ pos m ∷ pos D ∷ []) (eq e ∷ eq (ap (λ t. c *ℤ pos t) eP) ∷ le (mul_mono_right (nonneg P) l) ∷ []) (search reading depth 40 fits 9999) (omega arith))

  pub over_high : p ≺ pos (2 ^ 24) *ℤ c +ℤ pos (2 ^ 24) → X ≺ (c +ℤ pos 1) *ℤ pos m *ℤ pos D
  over_high u =
      cancel_lt (of_lt hq)
      (lin_lt (X ∷ p ∷ c ∷ pos P ∷ pos Q ∷ pos m ∷ pos D ∷ []) (eq e ∷ eq (ap (λ t. (c +ℤ pos 1) *ℤ pos t) eP) ∷ le (mul_mono_right (nonneg P) (≺_step u)) ∷ []) (search reading depth 40 fits 9999) (omega arith))

  pub over_exact : c *ℤ pos (2 ^ 24) ≡ p → c *ℤ pos m *ℤ pos D ≡ X
  over_exact h =
      cancel_eq (of_lt hq)
      (lin_eq (X ∷ p ∷ c ∷ pos P ∷ pos Q ∷ pos m ∷ pos D ∷ []) (eq e ∷ eq (ap (λ t. c *ℤ pos t) eP) ∷ eq (ap (λ t. t *ℤ pos P) h) ∷ []) (search reading depth 40 fits 9999) (omega arith))

-- ---- 24 digits above the units are in normal form
module _ (r : Number) (e : ℕ) (v : ℤ) (h : r.exp ≡ e - 526) (u : 926 ≤ e) (few : nat_abs r.sig ≤ 2 ^ 24) (long : 2 ^ 23 ≤ nat_abs r.sig)
    (is : r.sig *ℤ pos (2 ^ (e - 926)) ≡ v) where
  places : r.exp ≡ e - 926 + 400
  places = omega arith

  value : r.sig *ℤ pos (2 ^ r.exp) ≡ v *ℤ pos (2 ^ 400)
  value = ap (λ n. r.sig *ℤ pos n) (ap (λ n. 2 ^ n) places ∙ pow-add 2 (e - 926) 400) ∙ turn r.sig (2 ^ (e - 926)) (2 ^ 400) ∙ ap (λ t. t *ℤ pos (2 ^ 400)) is
    where
      turn : (s : ℤ) (a b : ℕ) → s *ℤ pos (a * b) ≡ s *ℤ pos a *ℤ pos b
      turn s a b = lin_eq (s ∷ pos a ∷ pos b ∷ []) [] (search reading depth 20) (omega arith)

  pub kept_worth : worth r ≡ v
  kept_worth = worth_is r v value

  no : nat_abs r.sig ≡ 0 → ⊥
  no n = omega (arith, long)

  pub kept_normal : Normal r
  kept_normal = record { whole = value ∙ ap (λ t. t *ℤ pos (2 ^ 400)) (sym kept_worth); few = few; full = λ l. long; low = λ n. absurd (no n) }
