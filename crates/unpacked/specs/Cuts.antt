-- The inner steps of a sum: two summands aligned and added, and the sum rounded to 24 bits, down and to nearest.
-- Definitions only, for the contracts of private functions.
use Rattle.std.specs.Prelude.{◌≡◌, Bool, true, false, cond, ℕ, ◌+◌, ◌-◌, ◌*◌, ◌/◌, ◌^◌, ◌≤◌, ◌<◌, min, leb, ltb, ℤ, pos, negsuc, nat_abs, ◌+ℤ◌, ◌*ℤ◌}
use Rattle.std.proofs.Math.Option.{Option, none, some}
use Rattle.std.specs.Int.Count.{count_leading_zeros}
use Rattle.std.specs.Int.Signed.{mag, shr_z}
use Rattle.std.specs.Float.Ieee.Nearest.{closest}
use Rattle.algebra.specs.Order.{◌≼◌}
use Rattle.rounding.specs.Format.{binary32, MAX, Form}
use Rattle.rounding.specs.Rounding.{down, near, signed}
use Rattle.unpacked.specs.declared.Number.{Number}
use Rattle.unpacked.specs.declared.Aligned.{Aligned}
use Rattle.unpacked.specs.Number.{worth, Normal}

-- ---- rounding as if there were no largest number

-- v is the greatest value not above X that has at most 24 significant bits
pub record IsFloor (X v : ℤ) : Type 0 where
  pub form : Form binary32 (nat_abs v)
  pub below : v ≼ X
  pub greatest : (w : ℤ) → Form binary32 (nat_abs w) → w ≼ X → w ≼ v

-- a value of larger magnitude than MAX, rounded down: MAX where it is positive, none where it is negative
abbrev pub beyond : ℤ → Option ℤ
beyond (pos n) = some (pos (MAX binary32))
beyond (negsuc n) = none

-- v where it is within the limit (true), else `beyond`
abbrev pub limit_by : Bool → ℤ → Option ℤ
limit_by true v = some v
limit_by false v = beyond v

-- v, which has 24 significant bits, rounded down to a number
abbrev pub limited : ℤ → Option ℤ
limited v = limit_by (leb (nat_abs v) (MAX binary32)) v

-- v, which has 24 significant bits, where it is not of larger magnitude than MAX; else none
abbrev pub limited_near : ℤ → Option ℤ
limited_near v = cond (leb (nat_abs v) (MAX binary32)) (some v) none

-- ---- sums

-- two summands in normal form; 4000 is twice the exponent of none, above all exponents that occur
pub record Summands (x y : Number) : Type 0 where
  pub first : Normal x
  pub second : Normal y
  pub first_high : x.exp ≤ 4000
  pub second_high : y.exp ≤ 4000

-- r is X rounded down to 24 bits, as if there were no largest number; its exponent is at most 2 above those of the summands
pub record DownOf (X : ℤ) (r : Number) : Type 0 where
  pub normal : Normal r
  pub is : IsFloor X (worth r)
  pub downs : down binary32 1 X ≡ limited (worth r)
  pub high : r.exp ≤ 4002

abbrev pub SumDown : Number → Number → Number → Type 0
SumDown x y r = DownOf (worth x +ℤ worth y) r

-- r is X rounded to nearest to 24 bits, as if there were no largest number
pub record NearOf (X : ℤ) (r : Number) : Type 0 where
  pub normal : Normal r
  pub nears : near binary32 1 X ≡ limited_near (worth r)
  pub high : r.exp ≤ 4002

abbrev pub SumNear : Number → Number → Number → Type 0
SumNear x y r = NearOf (worth x +ℤ worth y) r

-- of two summands, `earlier` has the larger exponent and `later` is the other one
abbrev pub choose : Bool → Number → Number → Number
choose true x y = y
choose false x y = x

unfoldable pub earlier : Number → Number → Number
earlier x y = choose (ltb x.exp y.exp) x y

unfoldable pub later : Number → Number → Number
later x y = choose (ltb x.exp y.exp) y x

-- ---- the steps

-- r is x + y with the larger exponent and 36 guard bits; the summand with the smaller exponent is shifted down and rounded down.
-- A shift of 61 places or more leaves 0 or -1, so the shift is cut to 61
pub record AlignedIs (x y : Number) (r : Aligned) : Type 0 where
  pub exps : r.exp ≡ (earlier x y).exp
  pub sums : r.w ≡ (earlier x y).sig *ℤ pos (2 ^ 36) +ℤ shr_z ((later x y).sig *ℤ pos (2 ^ 36)) (2 ^ min ((earlier x y).exp - (later x y).exp) 61)

-- by how many places w is shifted up to have 62 bits
unfoldable pub room : ℤ → ℕ
room w = count_leading_zeros 64 (mag w * 4 + 3)

-- r is e, or 64, the exponent of zero, where w is 0
pub record OrLow (w : ℤ) (e r : ℕ) : Type 0 where
  pub none : w ≡ pos 0 → r ≡ 64
  pub some : 0 < nat_abs w → r ≡ e

-- r is w * 2 ^ exp without its 36 guard bits, rounded to 24 bits by `part`: w is shifted up to 62 bits, and 38 are dropped.
-- Dropping 38 bits, of which 36 are guard bits, adds 2 to the exponent
pub record Cut (part : ℤ → ℕ → ℤ) (w : ℤ) (exp : ℕ) (r : Number) : Type 0 where
  pub sigs : r.sig ≡ part (w *ℤ pos (2 ^ room w)) (2 ^ 38)
  pub none : w ≡ pos 0 → r.exp ≡ 64
  pub some : 0 < nat_abs w → r.exp + room w ≡ exp + 2

-- rounded down
abbrev pub CutDown : ℤ → ℕ → Number → Type 0
CutDown = Cut shr_z

-- w is a sum with 36 guard bits of two summands that are not positive: from -2 ^ 61 to -2 ^ 59, or zero, which has the exponent 64
pub record Filled (w : ℤ) (exp : ℕ) : Type 0 where
  pub below : w ≼ pos 0
  pub few : nat_abs w ≤ 2 ^ 61
  pub full : 0 < nat_abs w → 2 ^ 59 ≤ nat_abs w
  pub low : nat_abs w ≡ 0 → exp ≡ 64

-- r is w * 2 ^ exp without its 36 guard bits, rounded to 24 bits by `part`, for such a w: 36 bits are dropped, or 37 where the sum carried
pub record CutFilled (part : ℤ → ℕ → ℤ) (w : ℤ) (exp : ℕ) (r : Number) : Type 0 where
  pub carry : 2 ^ 60 < nat_abs w → (r.sig ≡ part w (2 ^ 37)) × (r.exp ≡ exp + 1)
  pub plain : nat_abs w ≤ 2 ^ 60 → (r.sig ≡ part w (2 ^ 36)) × (r.exp ≡ exp)

-- rounded down
abbrev pub CutNegative : ℤ → ℕ → Number → Type 0
CutNegative = CutFilled shr_z

-- t / m rounded to nearest, ties to even
abbrev pub nearest_of : ℤ → ℕ → ℤ
nearest_of t m = signed t (closest (nat_abs t) m)

-- r is w * 2 ^ exp without its 36 guard bits, rounded to nearest to 24 bits: w is shifted up by `places` to 62 bits, or to 2 ^ 62, and 38 are dropped
pub record CutNear (w : ℤ) (exp : ℕ) (r : Number) : Type 0 where
  pub places : ℕ
  pub most : nat_abs w * 2 ^ places ≤ 2 ^ 62
  pub least : 0 < nat_abs w → 2 ^ 61 ≤ nat_abs w * 2 ^ places
  pub sigs : r.sig ≡ nearest_of (w *ℤ pos (2 ^ places)) (2 ^ 38)
  pub none : w ≡ pos 0 → r.exp ≡ 64
  pub some : 0 < nat_abs w → r.exp + places ≡ exp + 2

-- the pattern without sign of m * 2 ^ (exp - 400) units, where m has 24 bits; below the exponent 400 the number is subnormal
unfoldable pub fields_of : ℕ → ℕ → ℕ
fields_of m exp = cond (leb 400 exp) ((exp - 400) * 2 ^ 23 + m) (m / 2 ^ (400 - exp))
