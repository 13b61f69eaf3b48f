-- To nearest by one shift: half of the divisor less one is added before, and the last digit of the quotient.
use mathlib.Core.Path.{◌≡◌, refl, sym, ◌∙◌}
use mathlib.Core.Bool.{Bool, true, false, not}
use mathlib.Core.List.{[], ◌∷◌}
use Prim.Native.Nat.{ℕ, ◌+◌, ◌*◌, ◌%◌, ◌^◌, ◌≤◌, ◌<◌}
use native.Mathlib.Omega.{arith}
use native.Mathlib.Nat.{div-lt_iff_lt-mul, lt_of_lt_of_le}
use lib.Dec.{T, ltb, ltb→lt, nltb→le}
use lib.IntN.{ℤ, pos, negsuc, nat_abs, ◌+ℤ◌, ◌*ℤ◌}
use lib.Signed.{shr_z}
use Rattle.algebra.proofs.Absolute.{nat_abs_mul}
use Rattle.algebra.proofs.Floor.{floor_unique}
use Rattle.algebra.proofs.Linear.{reading, le, lt, eq, lin_le, lin_lt}
use Rattle.algebra.proofs.Natural.{of_le, of_lt}
use Rattle.rounding.specs.Quotient.{rem, bit}
use Rattle.rounding.proofs.Floor.{rem_is, rem_lt, near_floor}
use Rattle.unpacked.specs.Cuts.{nearest_of}
use Rattle.binary32.proofs.Rests.{shr_less}

pub rem_two : (c : ℤ) → rem c 2 ≡ nat_abs c % 2
rem_two (pos n) = refl
rem_two (negsuc n) = omega arith

module _ (s : ℤ) (m g b : ℕ) (em : m ≡ g + g + 2) (eb : b ≡ nat_abs (shr_z s m) % 2) where
  abbrev c : ℤ
  c = shr_z s m

  abbrev r : ℕ
  r = rem s m

  some : 0 < m
  some = omega arith

  few : r < m
  few = rem_lt s m some

  is : c *ℤ pos m +ℤ pos r ≡ s
  is = rem_is s m some

  floor_at : (n : ℕ) → n * m ≤ r + g + b → r + g + b < (n + 1) * m → shr_z (s +ℤ pos g +ℤ pos b) m ≡ c +ℤ pos n
  floor_at n l u = sym (floor_unique (s +ℤ pos g +ℤ pos b) (c +ℤ pos n) m some
      (lin_le (s ∷ c ∷ pos m ∷ pos g ∷ pos r ∷ pos b ∷ pos n ∷ []) (eq is ∷ le (of_le l) ∷ []) (search reading depth 20) (omega arith))
      (lin_lt (s ∷ c ∷ pos m ∷ pos g ∷ pos r ∷ pos b ∷ pos n ∷ []) (eq is ∷ lt (of_lt u) ∷ []) (search reading depth 20) (omega arith)))

  pub halves : shr_z (s +ℤ pos g +ℤ pos b) m ≡ nearest_of s m
  halves = go (ltb m (2 * r + nat_abs c % 2)) (ltb→lt m (2 * r + nat_abs c % 2)) (nltb→le m (2 * r + nat_abs c % 2)) ∙ near_floor s m some
    where
      go : (t : Bool) → (T t → m < 2 * r + nat_abs c % 2) → (T (not t) → 2 * r + nat_abs c % 2 ≤ m) → shr_z (s +ℤ pos g +ℤ pos b) m ≡ c +ℤ pos (bit t)
      go true y n = let h : m < 2 * r + nat_abs c % 2 = y tt in floor_at 1 (omega arith) (omega (arith, few))
      go false y n = let h : 2 * r + nat_abs c % 2 ≤ m = n tt in floor_at 0 (omega arith) (omega arith)

-- ---- ranges
pub shr_half : (t : ℤ) (m : ℕ) → 2 ≤ m → nat_abs t ≤ 2 ^ 62 → nat_abs (shr_z t m) ≤ 2 ^ 61
shr_half (pos n) m l h = omega (arith, (div-lt_iff_lt-mul {x = n} {y = 2 ^ 61 + 1} (lt_of_lt_of_le (omega arith) l)).1 (omega arith))
shr_half (negsuc n) m l h = omega (arith, (div-lt_iff_lt-mul {x = n} {y = 2 ^ 61} (lt_of_lt_of_le (omega arith) l)).1 (omega arith))

pub double_few : (c : ℤ) → nat_abs c ≤ 2 ^ 61 → nat_abs (shr_z c 2 *ℤ pos 2) ≤ 2 ^ 62
double_few c h = omega (arith, nat_abs_mul (shr_z c 2) (pos 2), shr_less c 2)
