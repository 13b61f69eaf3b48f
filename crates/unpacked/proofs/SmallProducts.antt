-- A product below 2 ^ 24 units is rounded down to a whole number of units, which is a number.
use mathlib.Core.Path.{◌≡◌, sym, ap, ◌∙◌, subst}
use mathlib.Core.List.{[], ◌∷◌}
use mathlib.Core.Option.{some}
use Prim.Native.Nat.{ℕ, ◌+◌, ◌-◌, ◌*◌, ◌^◌, ◌≤◌, ◌<◌, min}
use native.Mathlib.Omega.{arith}
use native.Mathlib.Nat.{div-lt_iff_lt-mul, le_trans}
use lib.Pow.{pow_pos, pow-add, pow_mono}
use lib.IntN.{ℤ, pos, negsuc, nat_abs, ◌+ℤ◌, ◌*ℤ◌}
use lib.Signed.{shr_z}
use borrow.Author.Tests.{le-leb}
use Rattle.algebra.specs.Order.{◌≼◌, ◌≺◌}
use Rattle.algebra.proofs.Floor.{floor_low, floor_high, floor_unique}
use Rattle.algebra.proofs.Linear.{reading, le, eq, lin_le, lin_lt}
use Rattle.algebra.proofs.Natural.{of_lt}
use Rattle.algebra.proofs.Order.{nonneg, mul_mono_right, ≺_step, cancel_le, cancel_lt}
use Rattle.rounding.specs.Format.{binary32, MAX}
use Rattle.rounding.specs.Rounding.{down}
use Rattle.unpacked.specs.declared.Number.{Number}
use Rattle.unpacked.specs.declared.Product.{Product}
use Rattle.unpacked.specs.Number.{Holds}
use Rattle.unpacked.specs.Cuts.{limit_by}
use Rattle.unpacked.specs.Exact.{Exact}
use Rattle.unpacked.proofs.FarShifts.{capped}
use Rattle.unpacked.proofs.Floors.{floor_self, limits}
use Rattle.unpacked.proofs.Worths.{few_max}
use Rattle.unpacked.proofs.Shortening.{down_whole}

-- ---- over plain numbers: s * E = X * Q, with N * E = D * Q; the floor of s / N is that of X / D
module _ (X s y : ℤ) (N E D Q : ℕ) (hq : 0 < Q) (he : 0 < E) (e : s *ℤ pos E ≡ X *ℤ pos Q) (eN : N * E ≡ D * Q) where
  low_over : pos N *ℤ y ≼ s → pos D *ℤ y ≼ X
  low_over l =
      cancel_le (of_lt hq)
      (lin_le (X ∷ s ∷ y ∷ pos N ∷ pos E ∷ pos D ∷ pos Q ∷ []) (eq e ∷ eq (ap (λ t. y *ℤ pos t) eN) ∷ le (mul_mono_right (nonneg E) l) ∷ []) (search reading depth 40 fits 9999) (omega arith))

  high_over : s ≺ pos N *ℤ y +ℤ pos N → X ≺ pos D *ℤ y +ℤ pos D
  high_over u =
      cancel_lt (of_lt hq)
      (lin_lt (X ∷ s ∷ y ∷ pos N ∷ pos E ∷ pos D ∷ pos Q ∷ []) (eq e ∷ eq (ap (λ t. (y +ℤ pos 1) *ℤ pos t) eN) ∷ le (mul_mono_right (nonneg E) (≺_step u)) ∷ []) (search reading depth 40 fits 9999) (omega arith))

units_few : (t : ℤ) (n : ℕ) → nat_abs t ≤ 2 ^ 48 → 25 ≤ n → nat_abs (shr_z t (2 ^ n)) ≤ 2 ^ 24
units_few (pos a) n h k = omega (arith, (div-lt_iff_lt-mul {x = a} {y = 2 ^ 24} (pow_pos n)).1 (omega (arith, pow_mono {i = 25} {j = n} k)))
units_few (negsuc a) n h k = omega (arith, (div-lt_iff_lt-mul {x = a} {y = 2 ^ 24} (pow_pos n)).1 (omega (arith, pow_mono {i = 25} {j = n} k)))

module _ (p : Product) (few : nat_abs p.sig ≤ 2 ^ 48) (low : p.exp < 926) where
  -- how far down the units are
  abbrev n : ℕ
  n = 950 - p.exp

  abbrev pub units : ℤ
  units = shr_z p.sig (2 ^ min n 61)

  same : units ≡ shr_z p.sig (2 ^ n)
  same = capped p.sig n (omega arith)

  pub small_few : nat_abs units ≤ 2 ^ 24
  small_few = subst (λ t. nat_abs t ≤ 2 ^ 24) (sym same) (units_few p.sig n few (omega arith))

  module _ (X : ℤ) (i : Exact X p) where
    places : 2 ^ n * 2 ^ p.exp ≡ 2 ^ 149 * 2 ^ 801
    places = sym (pow-add 2 n p.exp) ∙ ap (λ a. 2 ^ a) (sum p.exp low) ∙ pow-add 2 149 801
      where
        sum : (e : ℕ) → e < 926 → 950 - e + e ≡ 149 + 801
        sum e h = omega arith

    floors : units ≡ shr_z X (2 ^ 149)
    floors =
        same
        ∙ floor_unique X (shr_z p.sig (2 ^ n)) (2 ^ 149) (pow_pos 149)
        (low_over X p.sig (shr_z p.sig (2 ^ n)) (2 ^ n) (2 ^ p.exp) (2 ^ 149) (2 ^ 801) (pow_pos 801) (pow_pos p.exp) i.value places (floor_low p.sig (2 ^ n) (pow_pos n)))
        (high_over X p.sig (shr_z p.sig (2 ^ n)) (2 ^ n) (2 ^ p.exp) (2 ^ 149) (2 ^ 801) (pow_pos 801) (pow_pos p.exp) i.value places (floor_high p.sig (2 ^ n) (pow_pos n)))

    pub small_holds : (r : Number) → Holds (some units) r → Holds (down binary32 (2 ^ 149) X) r
    small_holds r = subst (λ m. Holds m r) (sym (down_whole binary32 (2 ^ 149) (pow_pos 149) X ∙ ap (down binary32 1) (sym floors) ∙ limits (floor_self units small_few)
        ∙ ap (λ t. limit_by t units) (le-leb (nat_abs units) (MAX binary32) (le_trans small_few few_max))))
