-- Corner products: which bound a sign chooses, and ranks, integers that are ordered as the products are. Definitions only.
use Rattle.std.specs.Prelude.{◌≡◌, cond, ℕ, ◌*◌, ◌^◌, ℤ, pos, negsuc, ◌+ℤ◌, ◌-ℤ◌}
use Rattle.std.specs.Int.Signed.{le_z, lt_z}
use Rattle.unpacked.specs.declared.Corner.{Corner}
use Rattle.unpacked.specs.Exact.{Exact}

-- y, or z where x is negative
abbrev pub by_sign : ℤ → ℤ → ℤ → ℤ
by_sign x y z = cond (lt_z x (pos 0)) z y

-- |sig| + e × 2 ^ 47 with the sign of sig: 2 ^ 47 is the least significand of a product that is not zero
unfoldable pub rank_of : ℤ → ℕ → ℤ
rank_of (pos n) e = pos n +ℤ pos (e * 2 ^ 47)
rank_of (negsuc n) e = negsuc n -ℤ pos (e * 2 ^ 47)

-- r is the exact product X, with its rank
pub record CornerAt (X : ℤ) (r : Corner) : Type 0 where
  pub exact : Exact X r.product
  pub rank : r.rank ≡ rank_of r.product.sig r.product.exp

-- the corner with the lesser rank, and with the greater
unfoldable pub lesser_of : Corner → Corner → Corner
lesser_of x y = cond (le_z x.rank y.rank) x y

unfoldable pub greater_of : Corner → Corner → Corner
greater_of x y = cond (le_z x.rank y.rank) y x
