-- Signed numbers in the machine's words of 64 bits: read back from their bits, negated and tested against zero. Assumes nothing.
use mathlib.Core.Path.{◌≡◌, sym, ap, ap₂, subst, ◌∙◌}
use mathlib.Core.Bool.{Bool, true, false}
use mathlib.Core.Logic.{⊎_elim}
use Prim.Native.Nat.{ℕ, ◌+◌, ◌*◌, ◌%◌, ◌^◌, ◌≤◌, ◌<◌}
use native.Mathlib.Omega.{arith}
use native.Mathlib.Nat.{not-suc-le-zero, eq-zero-or-pos}
use lib.Dec.{T, ltb, ltb→lt}
use lib.IntN.{ℤ, pos, negsuc, neg_ℤ, nat_abs, ◌-ℤ◌, ◌*ℤ◌, +ℤ_idl}
use lib.Pow.{pow-lt}
use lib.Signed.{mag, non_neg, lt_z}
use mir.Syntax.{w64}
use mir.Val.{SFits, of_z, to_z}
use mir.ValLaws.{to_z-of_z, to_z_pos}
use Rattle.std.specs.Int.{int_wrap}
use Rattle.std.proofs.Math.Facts.{Fits-of_z}
use Rattle.std.proofs.lemmas.Int.{wrapping_mul-bits, int_wrap_fits}
use Rattle.algebra.proofs.Machine.{fits_nat_abs}
use Rattle.rounding.proofs.Sign.{nat_abs_neg}

-- a signed number read back from its bits
pub read : (z : ℤ) → mag z < 2 ^ 63 → to_z w64 (of_z w64 z) ≡ z
read z h = to_z-of_z w64 z (record { sfits = h })

pub nat_abs_mag : (x : ℤ) → nat_abs x ≤ mag x + 1
nat_abs_mag (pos n) = omega arith
nat_abs_mag (negsuc n) = omega arith

-- of a small number, read back
pub read_small : (z : ℤ) → nat_abs z < 2 ^ 63 → to_z w64 (of_z w64 z) ≡ z
read_small z h = to_z-of_z w64 z (fits_nat_abs z h)

-- `-x` of the source is `pos 0 -ℤ x`
pub nat_abs_minus : (x : ℤ) → nat_abs (pos 0 -ℤ x) ≡ nat_abs x
nat_abs_minus x = ap nat_abs (+ℤ_idl (neg_ℤ x)) ∙ nat_abs_neg x

-- what `x << n` of the source gives, where it fits
pub shl_read : (x : ℤ) (n : ℕ) → n ≤ 62 → nat_abs x < 2 ^ 63 → nat_abs (x *ℤ pos (2 ^ n)) < 2 ^ 63
    → to_z w64 (of_z w64 x * 2 ^ n % 2 ^ 64) ≡ x *ℤ pos (2 ^ n)
shl_read x n h f g =
    wrapping_mul-bits w64 (of_z w64 x) (2 ^ n) (Fits-of_z {w = w64} (fits_nat_abs x f)).fits (pow-lt {i = n} {j = 64} (omega arith))
    ∙ ap₂ (λ a b. int_wrap w64 (a *ℤ b)) (read_small x f) (to_z_pos w64 (2 ^ n) (pow-lt {i = n} {j = 63} (omega arith)))
    ∙ int_wrap_fits w64 (x *ℤ pos (2 ^ n)) (fits_nat_abs (x *ℤ pos (2 ^ n)) g)

-- a negative number's negation, and a number that is not negative, are not negative
pub non_neg_neg : (x : ℤ) → lt_z x (pos 0) ≡ true → T (non_neg (pos 0 -ℤ x))
non_neg_neg (pos n) t = let z : ltb n 0 ≡ true = t in absurd (not-suc-le-zero (ltb→lt n 0 (subst T (sym z) tt)))
non_neg_neg (negsuc n) t = tt

pub non_neg_here : (x : ℤ) → lt_z x (pos 0) ≡ false → T (non_neg x)
non_neg_here (pos n) t = tt
non_neg_here (negsuc n) t = subst T t tt

-- a number whose bits are not 0
pub above : (z : ℤ) → (of_z w64 z ≡ 0 → ⊥) → 0 < nat_abs z
above (pos n) h = ⊎_elim (λ e. absurd (h e)) (λ l. l) (eq-zero-or-pos n)
above (negsuc n) h = omega arith

-- the test of the sign, read back
pub test : (q : ℤ) → SFits w64 q → (b : Bool) → lt_z (to_z w64 (of_z w64 q)) (to_z w64 0) ≡ b → lt_z q (pos 0) ≡ b
test q f b t = rw (to_z-of_z w64 q f) at t
