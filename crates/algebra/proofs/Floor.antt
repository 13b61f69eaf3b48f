-- Division by a positive number: lib.Signed's `shr_z z m` is z / m rounded down (m = 2 ^ k for a shift by k).
use mathlib.Core.Path.{◌≡◌}
use mathlib.Core.List.{[], ◌∷◌}
use Prim.Native.Nat.{ℕ, ◌+◌, ◌*◌, ◌/◌, ◌<◌}
use native.Mathlib.Omega.{arith}
use native.Mathlib.Nat.{div-add-mod, mod-lt}
use lib.IntN.{ℤ, pos, negsuc, ◌+ℤ◌, ◌*ℤ◌}
use lib.Signed.{shr_z}
use Rattle.algebra.specs.Order.{◌≼◌, ◌≺◌}
use Rattle.algebra.proofs.SignParts.{parts_lt, parts_le}
use Rattle.algebra.proofs.Linear.{reading, le, lt, lin_le, lin_lt}
use Rattle.algebra.proofs.Order.{≼_antisym, cancel_lt}
use Rattle.algebra.proofs.Natural.{of_lt}

pub floor_low : (z : ℤ) (m : ℕ) → 0 < m → pos m *ℤ shr_z z m ≼ z
floor_low (pos a) m h = parts_le (pos (m * (a / m))) (pos a) (omega (arith, div-add-mod a m))
floor_low (negsuc a) m h = lin_le (pos a ∷ pos m ∷ pos (a / m) ∷ []) [] (search reading depth 12) (omega (arith, div-add-mod a m, mod-lt a h))

pub floor_high : (z : ℤ) (m : ℕ) → 0 < m → z ≺ pos m *ℤ shr_z z m +ℤ pos m
floor_high (pos a) m h = parts_lt (pos a) (pos (m * (a / m) + m)) (omega (arith, div-add-mod a m, mod-lt a h))
floor_high (negsuc a) m h = lin_lt (pos a ∷ pos m ∷ pos (a / m) ∷ []) [] (search reading depth 12) (omega (arith, div-add-mod a m))

-- it is the greatest number whose multiple is not above z
pub floor_greatest : (z q : ℤ) (m : ℕ) → 0 < m → pos m *ℤ q ≼ z → q ≼ shr_z z m
floor_greatest z q m h k = lin_le (q ∷ shr_z z m ∷ []) (lt below ∷ []) (search reading depth 12) (omega arith)
  where
    below : q ≺ shr_z z m +ℤ pos 1
    below = cancel_lt (of_lt h) (lin_lt (z ∷ q ∷ pos m ∷ shr_z z m ∷ []) (le k ∷ lt (floor_high z m h) ∷ []) (search reading depth 12) (omega arith))

pub floor_unique : (z q : ℤ) (m : ℕ) → 0 < m → pos m *ℤ q ≼ z → z ≺ pos m *ℤ q +ℤ pos m → q ≡ shr_z z m
floor_unique z q m h k l = ≼_antisym (floor_greatest z q m h k) (lin_le (q ∷ shr_z z m ∷ []) (lt above ∷ []) (search reading depth 12) (omega arith))
  where
    above : shr_z z m ≺ q +ℤ pos 1
    above = cancel_lt (of_lt h) (lin_lt (z ∷ q ∷ pos m ∷ shr_z z m ∷ []) (lt l ∷ le (floor_low z m h) ∷ []) (search reading depth 12) (omega arith))
