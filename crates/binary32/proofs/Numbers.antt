-- What a rounding gives is a number of the format.
use Prim.Native.Nat.{ℕ, ◌<◌}
use lib.IntN.{ℤ}
use Rattle.rounding.specs.Format.{binary32}
use Rattle.rounding.specs.Rounding.{up, down}
use Rattle.rounding.proofs.Directed.{up_is, down_is}
use Rattle.binary32.proofs.Held.{Fits}

module _ (D : ℕ) (d : 0 < D) (X : ℤ) where
  pub down_fits : Fits (down binary32 D X)
  unfolding Fits
  down_fits v e = (down_is binary32 D d e).num

  pub up_fits : Fits (up binary32 D X)
  unfolding Fits
  up_fits v e = (up_is binary32 D d e).num
