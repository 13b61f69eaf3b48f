-- Whether a product is left out of a sum, and a product's magnitude rounded down. Definitions only, for the contracts of private functions.
use Rattle.std.specs.Prelude.{Bool, true, cond, ℕ, ◌*◌, ◌^◌, ◌<◌, leb, ltb, ℤ}
use Rattle.std.proofs.Math.Option.{none}
use Rattle.algebra.specs.Absolute.{abs}
use Rattle.rounding.specs.Format.{binary32}
use Rattle.rounding.specs.Rounding.{down}
use Rattle.binary32.specs.Order.{magnitude_of}
use Rattle.unpacked.specs.declared.Number.{Number}
use Rattle.unpacked.specs.declared.Product.{Product}
use Rattle.unpacked.specs.Exact.{Exact}
use Rattle.unpacked.specs.Number.{Holds}

-- u is not zero, or w is none
unfoldable pub adds_of : ℕ → ℕ → Bool
adds_of u w = cond (ltb 0 (magnitude_of u)) true (leb (255 * 2 ^ 23) (magnitude_of w))

-- r is |p| rounded down, none where a factor of p is none
pub record SizeDown (p : Product) (r : Number) : Type 0 where
  pub number : (X : ℤ) → Exact X p → Holds (down binary32 (2 ^ 149) (abs X)) r
  pub none : 1307 < p.exp → Holds none r
