-- Method 5's bound on the error of its centre C: how far C may lie from the exact sum. Definitions only.
use Rattle.std.specs.Prelude.{◌≡◌, ℕ, ℤ, pos, ◌+ℤ◌, ◌*ℤ◌, ◌-ℤ◌}
use Rattle.std.proofs.Math.Option.{some}
use Rattle.algebra.specs.Order.{◌≼◌}
use Rattle.algebra.specs.Absolute.{abs}
use Rattle.algebra.specs.Sum.{Σ<}
use Rattle.enclosure.specs.Arithmetic.{Arithmetic}
use Rattle.enclosure.specs.Cell.{Cell}
use Rattle.enclosure.specs.Methods.{part, centre₇, error₅}

-- the exact sum of mA × mB and pA × pB over the k pairs, in 1 / Q of a unit
unfoldable pub exact_centre : (k : ℕ) (a b : ℕ → Cell) → ℤ
exact_centre k a b = Σ< k (λ l. (a l).mid *ℤ (b l).mid) +ℤ Σ< k (λ l. part (a l).mid (a l).rad *ℤ part (b l).mid (b l).rad)

-- C and E of an entry are numbers, and C differs from the exact sum by at most E
pub record CentreWithin (A : Arithmetic) (k : ℕ) (a b : ℕ → Cell) : Type 0 where
  pub C : ℤ
  pub E : ℤ
  pub centre_is : centre₇ A k a b A.near ≡ some C
  pub error_is : error₅ A k a b ≡ some E
  pub within : abs (C *ℤ pos A.units -ℤ exact_centre k a b) ≼ E *ℤ pos A.units
