-- A law of `cleared`. Assumes nothing.
use mathlib.Core.Path.{◌≡◌, ap}
use mathlib.Core.List.{List}
use Prim.Native.Nat.{ℕ, min, ◌≤◌}
use native.Mathlib.Omega.{arith}
use lib.ListN.{length}
use Rattle.intervals.specs.Slices.{zeros, cleared}

-- of a slice that is long enough
pub cleared_front : (n : ℕ) (d : List ℕ) → n ≤ length d → cleared n d ≡ zeros n d
unfolding cleared
cleared_front n d h = ap (λ (k : ℕ). zeros k d) (short n (length d) h)
  where
    short : (n m : ℕ) → n ≤ m → min n m ≡ n
    short n m h = omega arith
