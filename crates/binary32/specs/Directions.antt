-- What makes a rounding one of the three directions. Definitions only.
use Rattle.std.specs.Prelude.{◌≡◌, false, ℕ, ◌^◌, ◌≤◌, ◌<◌, ℤ, nat_abs, Option as Maybe}
use Rattle.std.proofs.Math.Option.{Option, some}
use Rattle.rounding.specs.Format.{binary32, Num}
use Rattle.binary32.specs.declared.funnel.Ways.{Ways}
use Rattle.binary32.specs.declared.parts.Parts.{Parts}
use Rattle.binary32.specs.Number.{finite, hold}
use Rattle.binary32.specs.Operations.{Way}
use Rattle.binary32.specs.Steps.{packed, IsCut, Rounds, exactly}

pub record DirectionLaws (way : Way) (picked : Ways → ℤ) (none below above : ℕ) : Type 0 where
  -- what is rounded is a number of the format
  pub numbers : (D : ℕ) (X v : ℤ) → 0 < D → way binary32 D X ≡ some v → Num binary32 v
  -- `none` is not the pattern of one
  pub outside : finite none ≡ false
  -- the significand that is picked from a cut, packed, is the pattern of this rounding
  pub cuts : (X : ℤ) (r : Ways) → IsCut X r → packed (picked r) r.shift below above ≡ hold none (way binary32 (2 ^ 149) X)
  pub few : (X : ℤ) (r : Ways) → IsCut X r → nat_abs (picked r) ≤ 2 ^ 24
  -- a value with the same three roundings has this one
  pub exacts : (m : Way → Option ℤ) (r : Maybe Parts) → Rounds m r → exactly way r ≡ m way
