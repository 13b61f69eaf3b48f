-- An unpacked number: its value in units, its normal form, and whether it is a number or none.
-- Definitions only, for the contracts of private functions.
use Rattle.std.specs.Prelude.{◌≡◌, ℕ, ◌+◌, ◌*◌, ◌^◌, ◌≤◌, ◌<◌, ℤ, pos, negsuc, neg_ℤ, nat_abs, ◌*ℤ◌}
use Rattle.std.proofs.Math.Option.{Option, none, some}
use Rattle.std.specs.Int.Signed.{shr_z}
use Rattle.algebra.specs.Absolute.{abs}
use Rattle.algebra.specs.Order.{◌≼◌, ◌≺◌}
use Rattle.rounding.specs.Format.{binary32, MAX}
use Rattle.binary32.specs.Number.{held}
use Rattle.unpacked.specs.declared.Number.{Number}

-- the value of x in units: sig * 2 ^ (exp - 400), rounded down where it is not whole
unfoldable pub worth : Number → ℤ
worth x = shr_z (x.sig *ℤ pos (2 ^ x.exp)) (2 ^ 400)

-- normal form: a whole number of units, with a significand of 24 bits or 2 ^ 24; zero has the exponent 64, far below all others
pub record Normal (x : Number) : Type 0 where
  pub whole : x.sig *ℤ pos (2 ^ x.exp) ≡ worth x *ℤ pos (2 ^ 400)
  pub few : nat_abs x.sig ≤ 2 ^ 24
  pub full : 0 < nat_abs x.sig → 2 ^ 23 ≤ nat_abs x.sig
  pub low : nat_abs x.sig ≡ 0 → x.exp ≡ 64

abbrev pub zero_number : Number
zero_number = record { sig = pos 0; exp = 64 }

-- none, which stands for an overflow or for exponent field 255: a negative value far below all numbers
abbrev pub no_number : Number
no_number = record { sig = negsuc 8388607; exp = 2000 }

-- -2 ^ -125, which is -2 ^ 23 × 2 ^ 1 units
abbrev pub minus_tiny : Number
minus_tiny = record { sig = negsuc 8388607; exp = 401 }

-- x is a number of binary32
pub record IsNumber (x : Number) : Type 0 where
  pub normal : Normal x
  pub within : nat_abs (worth x) ≤ MAX binary32

-- x is zero or negative
abbrev pub Below : Number → Type 0
Below x = worth x ≼ pos 0

-- x is a number or none: in normal form, with an exponent of at most 2000, that of none
pub record Part (x : Number) : Type 0 where
  pub normal : Normal x
  pub high : x.exp ≤ 2000

-- x has the value m, or x is none where m is none. None is below -3 × MAX, so that a sum with it is below -MAX; and its exponent is at least 1500,
-- so that a product with it has an exponent above 1307, that of the largest product of two numbers
abbrev pub Is : Option ℤ → Number → Type 0
Is (some v) x = (worth x ≡ v) × (nat_abs v ≤ MAX binary32)
Is none x = (worth x ≺ neg_ℤ (pos (3 * MAX binary32))) × (1500 ≤ x.exp)

-- x is a number or none, and has the value m
pub record Holds (m : Option ℤ) (x : Number) : Type 0 where
  pub part : Part x
  pub is : Is m x

-- x is the number of the pattern p; none for exponent field 255
abbrev pub Unpacked : ℕ → Number → Type 0
Unpacked p x = Holds (held p) x

-- r is -x
pub record Opposite (x r : Number) : Type 0 where
  pub normal : Normal r
  pub worths : worth r ≡ neg_ℤ (worth x)
  pub same : r.exp ≡ x.exp

-- r is |x|
pub record Absolute (x r : Number) : Type 0 where
  pub normal : Normal r
  pub worths : worth r ≡ abs (worth x)
  pub same : r.exp ≡ x.exp

-- r is -|x|
pub record Negative (x r : Number) : Type 0 where
  pub normal : Normal r
  pub worths : worth r ≡ neg_ℤ (abs (worth x))
  pub same : r.exp ≡ x.exp

-- r is x × 2 ^ n
pub record Scaled (x : Number) (n : ℕ) (r : Number) : Type 0 where
  pub normal : Normal r
  pub worths : worth r ≡ worth x *ℤ pos (2 ^ n)
  pub high : r.exp ≡ x.exp + n

-- x is a number with the value m: a running sum that has not overflowed
pub record Runs (m : Option ℤ) (x : Number) : Type 0 where
  pub is : m ≡ some (worth x)
  pub number : IsNumber x
