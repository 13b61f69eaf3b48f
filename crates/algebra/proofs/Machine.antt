-- The range of the machine's signed integers: `SFits w z` says that z is one of w's, from -2 ^ (w - 1) to 2 ^ (w - 1) - 1.
use Prim.Native.Nat.{ℕ, ◌^◌, ◌<◌}
use native.Mathlib.Omega.{arith}
use lib.IntN.{ℤ, pos, negsuc, nat_abs}
use lib.Signed.{mag}
use mir.Syntax.{Width}
use mir.Val.{SFits, hbits}

-- lib.Signed's `mag z` is n both for n and for -(n + 1)
pub mag_of_nat_abs : (z : ℤ) {h : ℕ} → nat_abs z < h → mag z < h
mag_of_nat_abs (pos n) k = k
mag_of_nat_abs (negsuc n) k = omega arith

pub fits_nat_abs : {w : Width} (z : ℤ) → nat_abs z < 2 ^ hbits w → SFits w z
fits_nat_abs z k = record { sfits = mag_of_nat_abs z k }
