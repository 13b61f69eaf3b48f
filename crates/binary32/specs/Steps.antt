-- The results of the inner steps of an operation. Definitions only, for contracts of functions that no other crate can call.
use Rattle.std.specs.Prelude.{◌≡◌, Bool, true, false, cond, ℕ, ◌+◌, ◌-◌, ◌*◌, ◌^◌, ◌≤◌, ◌<◌, ltb, ℤ, pos, negsuc, nat_abs, ◌+ℤ◌, ◌*ℤ◌, Option as Maybe, Some, None}
use Rattle.std.proofs.Math.Option.{Option, none}
use Rattle.std.specs.Int.Signed.{shr_z}
use Rattle.std.specs.Float.Ieee.Nearest.{closest}
use Rattle.rounding.specs.Format.{binary32}
use Rattle.rounding.specs.Rounding.{up, down, near, signed}
use Rattle.rounding.specs.Quotient.{ceil_s}
use Rattle.binary32.specs.declared.parts.Parts.{Parts}
use Rattle.binary32.specs.declared.funnel.Ways.{Ways}
use Rattle.binary32.specs.Number.{value_of, hold_down, hold_up, hold_near, infinity, largest, least, minus_infinity}
use Rattle.binary32.specs.Operations.{Way}

-- ---- significand and exponent of a number

-- the value of x: sig * 2 ^ exp
unfoldable pub of : Parts → ℤ
of x = x.sig *ℤ pos (2 ^ x.exp)

-- the significand has at most 24 bits or is 2 ^ 24, and it has all 24 bits where the exponent is not 0; 253 is the exponent of the largest number
pub record Short (x : Parts) : Type 0 where
  pub few : nat_abs x.sig ≤ 2 ^ 24
  pub low : x.exp ≤ 253
  pub full : 0 < x.exp → 2 ^ 23 ≤ nat_abs x.sig

-- x is the number of the pattern p
pub record Decoded (p : ℕ) (x : Parts) : Type 0 where
  pub value : of x ≡ value_of p
  pub short : Short x

-- ---- rounding

-- s * 2 ^ e is small enough for `cut`: s has at most 61 bits, and e is at most 600, above the 506 of any product of two numbers
pub record Small (s : ℤ) (e : ℕ) : Type 0 where
  pub short : nat_abs s < 2 ^ 61
  pub low : e ≤ 600

-- r has w / m rounded down, up and to nearest, and the shift that was passed in
pub record Split (w : ℤ) (m shift : ℕ) (r : Ways) : Type 0 where
  pub downs : r.down ≡ shr_z w m
  pub ups : r.up ≡ ceil_s w m
  pub nears : r.near ≡ signed w (closest (nat_abs w) m)
  pub shifts : r.shift ≡ shift

-- the pattern t without sign, with the sign of c
abbrev pub put : ℤ → ℕ → ℕ
put (pos c) t = t
put (negsuc c) t = 2 ^ 31 + t

-- one of two patterns: `below` for negative c, `above` otherwise
abbrev pub side : ℤ → ℕ → ℕ → ℕ
side (pos c) below above = above
side (negsuc c) below above = below

-- the pattern of c * 2 ^ j units; where that is too large for binary32, `below` for negative c, `above` otherwise
unfoldable pub packed : ℤ → ℕ → ℕ → ℕ → ℕ
packed c j below above = cond (ltb (j * 2 ^ 23 + nat_abs c) (255 * 2 ^ 23)) (put c (j * 2 ^ 23 + nat_abs c)) (side c below above)

-- r has the significands of the three roundings of X / 2 ^ 149 units: each, packed, is the pattern of that rounding
pub record IsCut (X : ℤ) (r : Ways) : Type 0 where
  pub downs : packed r.down r.shift minus_infinity largest ≡ hold_down (down binary32 (2 ^ 149) X)
  pub ups : packed r.up r.shift least infinity ≡ hold_up (up binary32 (2 ^ 149) X)
  pub nears : packed r.near r.shift infinity infinity ≡ hold_near (near binary32 (2 ^ 149) X)
  pub down_few : nat_abs r.down ≤ 2 ^ 24
  pub up_few : nat_abs r.up ≤ 2 ^ 24
  pub near_few : nat_abs r.near ≤ 2 ^ 24
  pub low : r.shift ≤ 500

-- x * 2 ^ -149 units, rounded by `way`
unfoldable pub exact : Way → Parts → Option ℤ
exact way x = way binary32 (2 ^ 149) (of x)

-- ---- exact values, or values with the same roundings

-- x * 2 ^ -149 units has the same three roundings as X / D units, and is small enough for `cut`
pub record Same (D : ℕ) (X : ℤ) (x : Parts) : Type 0 where
  pub downs : exact down x ≡ down binary32 D X
  pub ups : exact up x ≡ up binary32 D X
  pub nears : exact near x ≡ near binary32 D X
  pub small : Small x.sig x.exp

-- two factors, and their product
pub record ShortFactors (x y : Parts) : Type 0 where
  pub first : Short x
  pub second : Short y

abbrev pub ProductIs : Parts → Parts → Parts → Type 0
ProductIs x y r = Same (2 ^ 149) (of x *ℤ of y) r

-- two summands, and their sum divided by 2 ^ (149 - lift): by 1 for a sum, by 2 for a midpoint
pub record Summands (x y : Parts) (lift : ℕ) : Type 0 where
  pub first : Short x
  pub second : Short y
  pub lifts : lift ≤ 149

abbrev pub SumIs : Parts → Parts → ℕ → Parts → Type 0
SumIs x y lift r = Same (2 ^ (149 - lift)) (of x +ℤ of y) r

-- two summands, the first with the larger exponent
pub record Larger (x y : Parts) (lift : ℕ) : Type 0 where
  pub first : Short x
  pub second : Short y
  pub lifts : lift ≤ 149
  pub order : y.exp ≤ x.exp

-- the value, rounded by `way`; none where an operand has exponent field 255
abbrev pub exactly : Way → Maybe Parts → Option ℤ
exactly way (Some x) = exact way x
exactly way None = none

-- the value is small enough for `cut`
abbrev pub Safe : Maybe Parts → Type 0
Safe (Some x) = Small x.sig x.exp
Safe None = Unit {0}

-- r has the roundings m down, m up and m near, and is small enough for `cut`
pub record Rounds (m : Way → Option ℤ) (r : Maybe Parts) : Type 0 where
  pub downs : exactly down r ≡ m down
  pub ups : exactly up r ≡ m up
  pub nears : exactly near r ≡ m near
  pub safe : Safe r

-- ---- sums

-- of two summands, `earlier` has the larger exponent and `later` is the other one
abbrev pub choose : Bool → Parts → Parts → Parts
choose true x y = y
choose false x y = x

unfoldable pub earlier : Parts → Parts → Parts
earlier x y = choose (ltb x.exp y.exp) x y

unfoldable pub later : Parts → Parts → Parts
later x y = choose (ltb x.exp y.exp) y x
