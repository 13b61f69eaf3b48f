-- What `cut` computes of a sum that is exact, or rounded down and long: the sum rounded down to 24 digits.
use mathlib.Core.Path.{◌≡◌, sym, ap, ◌∙◌, subst}
use mathlib.Core.List.{[], ◌∷◌}
use mathlib.Core.Logic.{⊎_elim}
use mathlib.Core.Option.{some}
use Prim.Native.Nat.{ℕ, ◌-◌, ◌*◌, ◌^◌, ◌≤◌, ◌<◌}
use native.Mathlib.Omega.{arith}
use native.Mathlib.Nat.{eq-zero-or-pos, le_trans, zero-mul}
use lib.Pow.{pow_pos, pow-add}
use lib.IntN.{ℤ, pos, nat_abs, ◌+ℤ◌, ◌*ℤ◌}
use lib.Signed.{mag, shr_z}
use Rattle.algebra.specs.Order.{◌≼◌, ◌≺◌}
use Rattle.algebra.proofs.Floor.{floor_low, floor_high}
use Rattle.algebra.proofs.Linear.{reading, le, lt, eq, lin_le, lin_lt, lin_eq}
use Rattle.algebra.proofs.Natural.{of_lt}
use Rattle.algebra.proofs.Order.{≼_refl, ≼_antisym, nonneg, mul_mono_right, ≺_step, cancel_le, cancel_lt}
use Rattle.algebra.proofs.Power.{pow_split}
use Rattle.binary32.proofs.Ints.{nat_abs_mag}
use Rattle.unpacked.specs.declared.Number.{Number}
use Rattle.unpacked.specs.Number.{worth, Holds}
use Rattle.unpacked.specs.Cuts.{IsFloor, DownOf, room, CutDown}
use Rattle.unpacked.proofs.Floors.{Full, full_few, full_long, floor_self, floored, limits}
use Rattle.unpacked.proofs.Leading.{Lead, lead_of, lead_far, full_cut}
use Rattle.unpacked.proofs.Worths.{worth_is, few_max}
use Rattle.unpacked.proofs.FarShifts.{raised_abs, nat_abs_zero, none_left}

-- ---- the count of places, over the power Z: w * Z is between c and c + 1 times 2 ^ 38, and w * E is Y, or Y rounded down
pub record Between (Y c : ℤ) (E Z : ℕ) : Type 0 where
  pub low : c *ℤ pos (2 ^ 38) *ℤ pos E ≼ Y *ℤ pos Z
  pub high : Y *ℤ pos Z ≺ (c +ℤ pos 1) *ℤ pos (2 ^ 38) *ℤ pos E

module _ (Y w c : ℤ) (E Z : ℕ) (l : pos (2 ^ 38) *ℤ c ≼ w *ℤ pos Z) (u : w *ℤ pos Z ≺ pos (2 ^ 38) *ℤ c +ℤ pos (2 ^ 38)) where
  between_exact : 0 < E → w *ℤ pos E ≡ Y → Between Y c E Z
  between_exact p e = record {
    low = lin_le (Y ∷ w ∷ c ∷ pos E ∷ pos Z ∷ []) (eq (ap (λ t. t *ℤ pos Z) e) ∷ le (mul_mono_right (nonneg E) l) ∷ []) (search reading depth 40) (omega arith);
    high = lin_lt (Y ∷ w ∷ c ∷ pos E ∷ pos Z ∷ []) (eq (ap (λ t. t *ℤ pos Z) e) ∷ le (mul_mono_right (nonneg E) (≺_step u)) ∷ []) (search reading depth 40) (omega arith);
  }

  between_far : (R : ℕ) → 0 < Z → 2 ^ 38 ≡ Z * R → w *ℤ pos E ≼ Y → Y ≺ (w +ℤ pos 1) *ℤ pos E → Between Y c E Z
  between_far R p eR lo hi = record {
    low = lin_le (Y ∷ w ∷ c ∷ pos E ∷ pos Z ∷ []) (le (mul_mono_right (nonneg Z) lo) ∷ le (mul_mono_right (nonneg E) l) ∷ []) (search reading depth 40) (omega arith);
    high =
        lin_lt (Y ∷ w ∷ c ∷ pos E ∷ pos Z ∷ pos R ∷ [])
        (le (mul_mono_right (nonneg Z) (≺_step hi)) ∷ le (mul_mono_right (nonneg (E * Z)) (≺_step below)) ∷ eq (ap (λ t. (c +ℤ pos 1) *ℤ pos E *ℤ pos t) eR) ∷ [])
        (search reading depth 40 fits 9999) (omega arith);
  }
    where
      below : w ≺ (c +ℤ pos 1) *ℤ pos R
      below = cancel_lt (of_lt p) (lin_lt (w ∷ c ∷ pos Z ∷ pos R ∷ []) (lt u ∷ eq (ap (λ t. (c +ℤ pos 1) *ℤ pos t) eR) ∷ []) (search reading depth 40) (omega arith))

-- 36 places less, and the exponent of the result: E * 4 = M * Z
module _ (X c : ℤ) (K E Z M : ℕ) (p : 0 < Z) (e : E * 4 ≡ M * Z) where
  last_low : c *ℤ pos (2 ^ 38) *ℤ pos E ≼ X *ℤ pos K *ℤ pos (2 ^ 36) *ℤ pos Z → c *ℤ pos M ≼ X *ℤ pos K
  last_low l =
      cancel_le {c = pos (2 ^ 36 * Z)} (of_lt (omega arith))
      (lin_le (X ∷ c ∷ pos K ∷ pos E ∷ pos Z ∷ pos M ∷ []) (le l ∷ eq (ap (λ t. c *ℤ pos t) e) ∷ []) (search reading depth 40) (omega arith))

  last_high : X *ℤ pos K *ℤ pos (2 ^ 36) *ℤ pos Z ≺ (c +ℤ pos 1) *ℤ pos (2 ^ 38) *ℤ pos E → X *ℤ pos K ≺ (c +ℤ pos 1) *ℤ pos M
  last_high l =
      cancel_lt {c = pos (2 ^ 36 * Z)} (of_lt (omega arith))
      (lin_lt (X ∷ c ∷ pos K ∷ pos E ∷ pos Z ∷ pos M ∷ []) (lt l ∷ eq (ap (λ t. (c +ℤ pos 1) *ℤ pos t) e) ∷ []) (search reading depth 40) (omega arith))

-- ---- what the code of `cut`, rounding down, found, of w that is 36 places above X
module _ (X w : ℤ) (be : ℕ) (short : nat_abs w ≤ 2 ^ 61) where
  abbrev z : ℕ
  z = room w

  abbrev c : ℤ
  c = shr_z (w *ℤ pos (2 ^ z)) (2 ^ 38)

  abbrev Y : ℤ
  Y = X *ℤ pos (2 ^ 400) *ℤ pos (2 ^ 36)

  led : Lead (mag w) z
  led = lead_of w (omega (arith, short))

  c_low : pos (2 ^ 38) *ℤ c ≼ w *ℤ pos (2 ^ z)
  c_low = floor_low (w *ℤ pos (2 ^ z)) (2 ^ 38) (pow_pos 38)

  c_high : w *ℤ pos (2 ^ z) ≺ pos (2 ^ 38) *ℤ c +ℤ pos (2 ^ 38)
  c_high = floor_high (w *ℤ pos (2 ^ z)) (2 ^ 38) (pow_pos 38)

  -- w is exact, or rounded down and long
  pub cut_close : w *ℤ pos (2 ^ be) ≡ Y → Between Y c (2 ^ be) (2 ^ z)
  cut_close h = between_exact Y w c (2 ^ be) (2 ^ z) c_low c_high (pow_pos be) h

  pub cut_apart : 2 ^ 58 < nat_abs w → w *ℤ pos (2 ^ be) ≼ Y → Y ≺ (w +ℤ pos 1) *ℤ pos (2 ^ be) → Between Y c (2 ^ be) (2 ^ z)
  cut_apart h l u =
      between_far Y w c (2 ^ be) (2 ^ z) c_low c_high (2 ^ (38 - z)) (pow_pos z) (pow_split 38 z (omega (arith, lead_far led (omega (arith, nat_abs_mag w))))) l u

  module _ (b : Between Y c (2 ^ be) (2 ^ z)) (none : nat_abs w ≡ 0 → X ≡ pos 0) (r : Number) (h : CutDown w be r) (high : be ≤ 4000) where
    from_value : (v : ℤ) → r.sig *ℤ pos (2 ^ r.exp) ≡ v *ℤ pos (2 ^ 400) → IsFloor X v → nat_abs r.sig ≤ 2 ^ 24
        → (0 < nat_abs r.sig → 2 ^ 23 ≤ nat_abs r.sig) → (nat_abs r.sig ≡ 0 → r.exp ≡ 64) → r.exp ≤ 4002 → DownOf X r
    from_value v e f few full low top =
        let ew : worth r ≡ v = worth_is r v e in
        let is : IsFloor X (worth r) = subst (IsFloor X) (sym ew) f in
        record {
          normal = record { whole = e ∙ ap (λ t. t *ℤ pos (2 ^ 400)) (sym ew); few = few; full = full; low = low };
          is = is;
          downs = limits is;
          high = top;
        }

    some_sum : 0 < nat_abs w → DownOf X r
    some_sum p = go (floored X c 400 r.exp (last_low X c (2 ^ 400) (2 ^ be) (2 ^ z) (2 ^ r.exp) (pow_pos z) places b.low)
        (last_high X c (2 ^ 400) (2 ^ be) (2 ^ z) (2 ^ r.exp) (pow_pos z) places b.high) f)
      where
        f : Full c
        f = full_cut w z p led

        places : 2 ^ be * 4 ≡ 2 ^ r.exp * 2 ^ z
        places = sym (pow-add 2 be 2) ∙ ap (λ n. 2 ^ n) (sym (h.some p)) ∙ pow-add 2 r.exp z

        long : 2 ^ 23 ≤ nat_abs r.sig
        long = subst (λ t. 2 ^ 23 ≤ nat_abs t) (sym h.sigs) (full_long c f)

        no : nat_abs r.sig ≡ 0 → ⊥
        no e = omega (arith, long)

        go : (v : ℤ) × (c *ℤ pos (2 ^ r.exp) ≡ v *ℤ pos (2 ^ 400)) × IsFloor X v → DownOf X r
        go (v, ev, g) =
            from_value v (ap (λ t. t *ℤ pos (2 ^ r.exp)) h.sigs ∙ ev) g (subst (λ t. nat_abs t ≤ 2 ^ 24) (sym h.sigs) (full_few c f))
            (λ l. long) (λ e. absurd (no e)) (omega (arith, h.some p))

    no_sum : nat_abs w ≡ 0 → DownOf X r
    no_sum e =
        from_value (pos 0) (ap (λ t. t *ℤ pos (2 ^ r.exp)) sig ∙ ap pos (zero-mul (2 ^ r.exp))) (subst (λ t. IsFloor t (pos 0)) (sym (none e)) (floor_self (pos 0) (omega arith)))
        (omega (arith, ap nat_abs sig)) (λ l. absurd (not_some l (ap nat_abs sig))) (λ t. h.none ew) (omega (arith, h.none ew))
      where
        ew : w ≡ pos 0
        ew = nat_abs_zero w e

        sig : r.sig ≡ pos 0
        sig = h.sigs ∙ ap (λ t. shr_z (t *ℤ pos (2 ^ z)) (2 ^ 38)) ew ∙ ap (λ n. shr_z (pos n) (2 ^ 38)) (zero-mul (2 ^ z))

        not_some : 0 < nat_abs r.sig → nat_abs r.sig ≡ 0 → ⊥
        not_some p q = omega arith

    pub rounded : DownOf X r
    rounded = ⊎_elim no_sum some_sum (eq-zero-or-pos (nat_abs w))

-- where w is exact
pub cut_exact : (X w : ℤ) (be : ℕ) (r : Number) → nat_abs w ≤ 2 ^ 61 → w *ℤ pos (2 ^ be) ≡ X *ℤ pos (2 ^ 400) *ℤ pos (2 ^ 36) → CutDown w be r → be ≤ 4000 → DownOf X r
cut_exact X w be r short e h high =
    rounded X w be short (cut_close X w be short e) (λ n. none_left X w (2 ^ be) (2 ^ 400) (pow_pos 400) (nat_abs_zero w n) e) r h high

-- a whole number of units, of at most 24 digits, brought to normal form
pub whole_holds : (z : ℤ) (r : Number) → nat_abs z ≤ 2 ^ 24 → CutDown (z *ℤ pos (2 ^ 36)) 400 r → Holds (some z) r
whole_holds z r few h = record { part = record { normal = d.normal; high = top }; is = (worths, le_trans few few_max) }
  where
    turn : (a b : ℕ) → z *ℤ pos a *ℤ pos b ≡ z *ℤ pos b *ℤ pos a
    turn a b = lin_eq (z ∷ pos a ∷ pos b ∷ []) [] (search reading depth 20) (omega arith)

    d : DownOf z r
    d = cut_exact z (z *ℤ pos (2 ^ 36)) 400 r (omega (arith, raised_abs z)) (turn (2 ^ 36) (2 ^ 400)) h (omega arith)

    worths : worth r ≡ z
    worths = ≼_antisym d.is.below (d.is.greatest z (floor_self z few).form (≼_refl z))

    top : r.exp ≤ 2000
    top = ⊎_elim (λ n. omega (arith, h.none (nat_abs_zero (z *ℤ pos (2 ^ 36)) n))) (λ l. omega (arith, h.some l)) (eq-zero-or-pos (nat_abs (z *ℤ pos (2 ^ 36))))
