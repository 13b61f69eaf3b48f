-- Exact products of unpacked numbers, and their roundings. Definitions only, for the contracts of private functions.
-- A product is sig × 2^(exp - 950) units: 950 is 2 × 400 for the factors' biases, 149 since a unit times a unit is 2^-149 units, and 1 since a
-- product of 47 bits is doubled to have 48.
use Rattle.std.specs.Prelude.{◌≡◌, true, false, ℕ, ◌+◌, ◌-◌, ◌^◌, ◌≤◌, ◌<◌, ℤ, pos, neg_ℤ, nat_abs, ◌*ℤ◌}
use Rattle.std.proofs.Math.Option.{none}
use Rattle.std.specs.Int.Signed.{shr_z}
use Rattle.rounding.specs.Format.{binary32}
use Rattle.rounding.specs.Rounding.{down, up, near, negate}
use Rattle.binary32.specs.Number.{value_of, finites}
use Rattle.binary32.specs.Operations.{Way}
use Rattle.unpacked.specs.declared.Number.{Number}
use Rattle.unpacked.specs.declared.Product.{Product}
use Rattle.unpacked.specs.Number.{worth, Part, Holds}
use Rattle.unpacked.specs.Cuts.{nearest_of}

-- the exponents of products that rounding to 24 bits makes neither subnormal (from 950 - 24 on) nor too large (below 526 + 653); zero has a smaller one
abbrev pub Usual : ℕ → Type 0
Usual e = (926 ≤ e) × (e < 1179)

-- p is the product X, in 2^-149 of a unit, so 801 = 950 - 149: X = sig * 2 ^ (exp - 801), with 48 bits. 1307 = 653 + 653 + 1 is the largest exponent
-- of a product of two numbers. Zero has an exponent below 752, all others have 752 or more
pub record Exact (X : ℤ) (p : Product) : Type 0 where
  pub value : p.sig *ℤ pos (2 ^ p.exp) ≡ X *ℤ pos (2 ^ 801)
  pub few : nat_abs p.sig ≤ 2 ^ 48
  pub full : 0 < nat_abs p.sig → 2 ^ 47 ≤ nat_abs p.sig
  pub some : 0 < nat_abs p.sig → 752 ≤ p.exp
  pub none : nat_abs p.sig ≡ 0 → p.exp < 752
  pub high : p.exp ≤ 1307

-- two factors, each a number or none
pub record Factors (x y : Number) : Type 0 where
  pub first : Part x
  pub second : Part y

-- p is the exact product of x and y
pub record ProductIs (x y : Number) (p : Product) : Type 0 where
  pub value : p.sig *ℤ pos (2 ^ p.exp) ≡ worth x *ℤ worth y *ℤ pos (2 ^ 801)
  pub few : nat_abs p.sig ≤ 2 ^ 48
  pub full : 0 < nat_abs p.sig → 2 ^ 47 ≤ nat_abs p.sig
  pub low : x.exp + y.exp ≤ p.exp
  pub high : p.exp ≤ x.exp + y.exp + 1

-- p is the exact product of the numbers of the patterns a and b; where one is none, the exponent of p is above those of all products of numbers
pub record Exactly (a b : ℕ) (p : Product) : Type 0 where
  pub few : nat_abs p.sig ≤ 2 ^ 48
  pub numbers : finites a b ≡ true → Exact (value_of a *ℤ value_of b) p
  pub none : finites a b ≡ false → 1307 < p.exp

-- the form of a product: at most 48 bits, and all 48 where the exponent is 926 or more and no factor is none
pub record Formed (p : Product) : Type 0 where
  pub few : nat_abs p.sig ≤ 2 ^ 48
  pub full : 926 ≤ p.exp → p.exp ≤ 1307 → 2 ^ 47 ≤ nat_abs p.sig

-- r is p rounded by `way`; none where a factor is none
pub record Rounded (way : Way) (p : Product) (r : Number) : Type 0 where
  pub number : (X : ℤ) → Exact X p → Holds (way binary32 (2 ^ 149) X) r
  pub none : 1307 < p.exp → Holds none r

abbrev pub RoundedDown : Product → Number → Type 0
RoundedDown = Rounded down

-- r is -q, where q is p rounded up
abbrev pub RoundedUp : Product → Number → Type 0
RoundedUp = Rounded (λ f D X. negate (up f D X))

abbrev pub RoundedNear : Product → Number → Type 0
RoundedNear = Rounded near

-- r is p rounded by `part` to its first 24 bits; 526 = 950 - 24 - 400
pub record Short (part : ℤ → ℕ → ℤ) (p : Product) (r : Number) : Type 0 where
  pub sigs : r.sig ≡ part p.sig (2 ^ 24)
  pub exps : r.exp ≡ p.exp - 526

-- rounded down
abbrev pub Shortened : Product → Number → Type 0
Shortened = Short shr_z

-- rounded to nearest
abbrev pub ShortenedNear : Product → Number → Type 0
ShortenedNear = Short nearest_of

-- r is -p
pub record Turned (p r : Product) : Type 0 where
  pub sigs : r.sig ≡ neg_ℤ p.sig
  pub exps : r.exp ≡ p.exp
