-- `binary32::exact::shifted_sum` meets its contract: shift and sum fit, since 24 digits are shifted by at most 36 places (`shifted_sum_short`).
use mathlib.Core.Path.{◌≡◌}
use Prim.Native.Nat.{ℕ, ◌*◌, ◌%◌, ◌^◌, ◌≤◌, ◌<◌}
use native.Mathlib.Omega.{arith}
use lib.IntN.{ℤ, pos, nat_abs, ◌+ℤ◌, ◌*ℤ◌}
use mir.Syntax.{w64}
use mir.Val.{of_z, to_z}
use Rattle.algebra.proofs.Machine.{fits_nat_abs}
use Rattle.binary32.proofs.Ints.{read_small, shl_read}
use Rattle.binary32.proofs.Sums.{shifted_sum_short}
use Rattle.binary32.proofs.exact.shifted_sum.Goals as goal

module _ (x y : ℤ) (n : ℕ) (h : (nat_abs x ≤ 2 ^ 24) × (nat_abs y ≤ 2 ^ 24) × (n ≤ 36)) where
  short : (nat_abs (x *ℤ pos (2 ^ n)) < 2 ^ 61) × (nat_abs (x *ℤ pos (2 ^ n) +ℤ y) < 2 ^ 61)
  short = shifted_sum_short x y n h.0 h.1 h.2

  is : to_z w64 (of_z w64 x * 2 ^ n % 2 ^ 64) +ℤ to_z w64 (of_z w64 y) ≡ x *ℤ pos (2 ^ n) +ℤ y
  is = rw (shl_read x n (omega (arith, h.2)) (omega (arith, h.0)) (omega (arith, short.0)), read_small y (omega (arith, h.1)))

pub overflow_add-result : goal.overflow_add-result
overflow_add-result c =
    let s = c.args in
    rw (is s.x s.y s.n c.requires) (fits_nat_abs _ (omega (arith, (short s.x s.y s.n c.requires).1)))

pub returns : goal.returns
returns c =
    let s = c.args in
    rw (is s.x s.y s.n c.requires) (read_small _ (omega (arith, (short s.x s.y s.n c.requires).1)))
