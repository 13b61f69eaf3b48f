-- The running sums of methods 3, 4 and 7. Definitions only, for the contracts of inner functions.
use Rattle.std.specs.Prelude.{◌≡◌, ◌⊎◌, ℕ, ℤ, ◌+ℤ◌}
use Rattle.std.proofs.Math.Option.{Option, none, bind}
use Rattle.std.specs.Prelude.{Option as Maybe, Some, None}
use Rattle.rounding.specs.Format.{binary32}
use Rattle.rounding.specs.Rounding.{up, down, near, negate}
use Rattle.binary32.specs.Operations.{mul, with₂}
use Rattle.binary32.specs.Order.{magnitude_of}
use Rattle.unpacked.specs.declared.Number.{Number}
use Rattle.products.specs.declared.centred.Centred.{Centred}
use Rattle.products.specs.declared.nearest.Nearest.{Nearest}
use Rattle.unpacked.specs.Number.{worth, Below, Holds, Runs}
use Rattle.products.specs.Running.{plus_down}

-- ---- a radius, kept negated: it is not above zero, and rounding it up is rounding down

-- what is added to it when |u| × |v| is added to the radius, and when |u| × |v| is taken from the radius
abbrev pub growth : ℕ → ℕ → Option ℤ
growth u v = negate (with₂ (mul up) (magnitude_of u) (magnitude_of v))

abbrev pub shrinkage : ℕ → ℕ → Option ℤ
shrinkage u v = with₂ (mul down) (magnitude_of u) (magnitude_of v)

-- r is the radius x plus |u| × |v|
abbrev pub Grown : Number → ℕ → ℕ → Number → Type 0
Grown x u v r = Holds (plus_down (worth x) (growth u v)) r

-- ---- methods 4 and 7: two centres and a radius

-- s is the lower centre, the upper centre and the radius, the last two negated, and all are numbers
pub record CentredSum (low high rad : Option ℤ) (s : Centred) : Type 0 where
  pub lower : Runs low s.lower
  pub upper : Runs (negate high) s.opposed
  pub radius : Runs (negate rad) s.radius

-- one of the three is none
abbrev pub OneNone : (low high rad : Option ℤ) → Type 0
OneNone low high rad = (low ≡ none) ⊎ ((high ≡ none) ⊎ (rad ≡ none))

-- r has these three as its sums as they are kept; it is none where one of them is
pub record KeptCentred (low opp rad : Option ℤ) (r : Centred) : Type 0 where
  pub lower : Runs low r.lower
  pub opposed : Runs opp r.opposed
  pub radius : Runs rad r.radius

abbrev pub Stepped : (low opp rad : Option ℤ) → Maybe Centred → Type 0
Stepped low opp rad None = OneNone low opp rad
Stepped low opp rad (Some r) = KeptCentred low opp rad r

-- r is s with x × y added to both centres and t to the radius
abbrev pub Added : (s : Centred) (x y : ℕ) (t : Option ℤ) → Maybe Centred → Type 0
Added s x y t = Stepped (plus_down (worth s.lower) (with₂ (mul down) x y)) (plus_down (worth s.opposed) (negate (with₂ (mul up) x y))) (plus_down (worth s.radius) t)

-- ---- method 3: one centre, to nearest, and a radius

-- r has these two as its sums as they are kept; it is none where one of them is
abbrev pub NearStepped : (mid rad : Option ℤ) → Maybe Nearest → Type 0
NearStepped mid rad None = (mid ≡ none) ⊎ (rad ≡ none)
NearStepped mid rad (Some r) = Runs mid r.centre × Runs rad r.radius

-- r is s with x × y added to the centre and |u| × |v| to the radius
abbrev pub NearAdded : (s : Nearest) (x y u v : ℕ) → Maybe Nearest → Type 0
NearAdded s x y u v = NearStepped (bind (with₂ (mul near) x y) λ t. near binary32 1 (worth s.centre +ℤ t)) (plus_down (worth s.radius) (growth u v))

pub record NearestSum (mid rad : Option ℤ) (s : Nearest) : Type 0 where
  pub centre : Runs mid s.centre
  pub radius : Runs (negate rad) s.radius
  pub below : Below s.radius
