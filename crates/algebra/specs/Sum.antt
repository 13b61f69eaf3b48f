-- Sums of integers over an index. Definitions only.
use Rattle.std.specs.Prelude.{ℕ, zero, suc, ℤ, pos, ◌+ℤ◌}

-- f 0 + f 1 + .. + f (n - 1), added from the left, as a loop adds them
unfoldable pub Σ< : ℕ → (ℕ → ℤ) → ℤ
Σ< zero f = pos 0
Σ< (suc n) f = Σ< n f +ℤ f n
