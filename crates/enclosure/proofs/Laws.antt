-- The laws of a rounded arithmetic: all that enclosure and width use of it. `FormatLaws` shows them for every format.
use mathlib.Core.Path.{◌≡◌}
use mathlib.Core.List.{[], ◌∷◌}
use mathlib.Core.Option.{some}
use Prim.Native.Nat.{ℕ, ◌+◌, ◌*◌, ◌≤◌, ◌<◌}
use native.Mathlib.Omega.{arith}
use lib.IntN.{ℤ, pos, neg_ℤ, nat_abs, ◌*ℤ◌}
use Rattle.algebra.specs.Order.{◌≼◌}
use Rattle.algebra.specs.Absolute.{abs}
use Rattle.algebra.proofs.Linear.{reading, le, lin_le}
use Rattle.rounding.specs.Property.{off, Err}
use Rattle.enclosure.specs.Arithmetic.{Arithmetic}

pub record Laws (A : Arithmetic) : Type 0 where
  -- a directed rounding errs by at most a P-th, the nearest by half of that
  pub P : ℕ
  pub MAX : ℕ
  -- the constants: 2 ^ -prec is 1 / (2 * P); method 3 adds 2 * P units, method 5 adds P
  pub units_above : 0 < A.units
  pub eps_is : 2 * P * A.eps ≡ A.units
  pub tiny_is : A.tiny ≡ 2 * P
  pub normal_is : A.normal ≡ P
  -- up: not below, and none above MAX. Below -MAX it is -MAX, so there the error has no bound
  pub up_above : {D : ℕ} {X v : ℤ} → 0 < D → A.up D X ≡ some v → X ≼ v *ℤ pos D
  pub up_room : {D : ℕ} {X v : ℤ} → 0 < D → A.up D X ≡ some v → X ≼ pos (MAX * D)
  pub up_err : {D : ℕ} {X v : ℤ} → 0 < D → A.up D X ≡ some v → neg_ℤ (pos (MAX * D)) ≼ X → Err P D X v
  -- down, the mirror image
  pub down_below : {D : ℕ} {X v : ℤ} → 0 < D → A.down D X ≡ some v → v *ℤ pos D ≼ X
  pub down_room : {D : ℕ} {X v : ℤ} → 0 < D → A.down D X ≡ some v → neg_ℤ (pos (MAX * D)) ≼ X
  pub down_err : {D : ℕ} {X v : ℤ} → 0 < D → A.down D X ≡ some v → X ≼ pos (MAX * D) → Err P D X v
  -- nearest; it is off by at most half the spacing of the result, keeps a result, and grows with the magnitude
  pub near_err : {D : ℕ} {X v : ℤ} → 0 < D → A.near D X ≡ some v → Err (2 * P) D X v
  pub near_spacing : {D : ℕ} (X : ℤ) {v : ℤ} → 0 < D → A.near D X ≡ some v → 2 * off D X v ≤ A.spacing v * D
  pub near_again : {D : ℕ} (X : ℤ) {v : ℤ} → 0 < D → A.near D X ≡ some v → A.near 1 v ≡ some v
  pub near_mono : {D : ℕ} (X : ℤ) {Y v w : ℤ} → 0 < D → abs X ≼ Y → A.near D X ≡ some v → A.near D Y ≡ some w → abs v ≼ w
  -- the spacing grows with the magnitude: that is less than 2 * P times the spacing, and from P units on at least P times
  pub spacing_mono : (v w : ℤ) → nat_abs v ≤ nat_abs w → A.spacing v ≤ A.spacing w
  pub spacing_high : (v : ℤ) → nat_abs v < 2 * P * A.spacing v
  pub spacing_low : (v : ℤ) → P * A.spacing v ≤ nat_abs v + P

pub one : 0 < 1
one = omega arith

-- ---- of a sum, which is a whole number of units
module _ {A : Arithmetic} (L : Laws A) where
  pub up_sum : {X v : ℤ} → A.up 1 X ≡ some v → X ≼ v
  up_sum {X} {v} h = lin_le (X ∷ v ∷ []) (le (L.up_above one h) ∷ []) (search reading depth 20) (omega arith)

  pub down_sum : {X v : ℤ} → A.down 1 X ≡ some v → v ≼ X
  down_sum {X} {v} h = lin_le (X ∷ v ∷ []) (le (L.down_below one h) ∷ []) (search reading depth 20) (omega arith)
