-- A running sum of rounded terms, each addition rounded. Definitions only.
use Rattle.std.proofs.Math.Option.{Option, some, bind}
use Rattle.std.specs.Prelude.{ℕ, zero, suc, ℤ, ◌+ℤ◌}

-- s + f 0 + .. + f (n - 1), added from the left, as a loop adds them, each addition rounded by `add`. None where a term or an addition is none.
-- A sum is continued with other terms by a second sum whose start s is the result of the first.
unfoldable pub sum : (ℤ → Option ℤ) → (ℕ → Option ℤ) → ℤ → ℕ → Option ℤ
sum add f s zero = some s
sum add f s (suc n) = bind (sum add f s n) λ u. bind (f n) λ t. add (u +ℤ t)
