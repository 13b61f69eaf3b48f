-- A power of two as a product of two.
use mathlib.Core.Path.{◌≡◌, ap, ◌∙◌}
use Prim.Native.Nat.{ℕ, ◌+◌, ◌-◌, ◌*◌, ◌^◌, ◌≤◌}
use native.Mathlib.Omega.{arith}
use lib.Pow.{pow-add}

pub pow_split : (i j : ℕ) → j ≤ i → 2 ^ i ≡ 2 ^ j * 2 ^ (i - j)
pow_split i j h = ap (λ x. 2 ^ x) whole ∙ pow-add 2 j (i - j)
  where
    whole : i ≡ j + (i - j)
    whole = omega arith
