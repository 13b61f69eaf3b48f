-- The running sums of one entry, and the range that they hold: a value that takes a pair of cells and comes back. Definitions only, for the contracts of
-- private functions.
use Rattle.std.specs.Prelude.{◌≡◌, ◌⊎◌, ℤ, neg_ℤ, ◌+ℤ◌, Option as Maybe, Some, None}
use Rattle.std.proofs.Math.Option.{Option, none, some, bind}
use Rattle.rounding.specs.Format.{binary32}
use Rattle.rounding.specs.Rounding.{down}
use Rattle.enclosure.specs.Methods.{Range}
use Rattle.unpacked.specs.declared.Number.{Number}
use Rattle.products.specs.declared.sums.Sums.{Sums}
use Rattle.unpacked.specs.Number.{worth, Runs}

-- v + t, rounded down; none where t is none
abbrev pub plus_down : ℤ → Option ℤ → Option ℤ
plus_down v t = bind t λ u. down binary32 1 (v +ℤ u)

-- the two sums as a range
abbrev pub bounds_of : Sums → Range
bounds_of s = record { lower = worth s.lower; upper = neg_ℤ (worth s.opposed) }

-- r has these two as its sums as they are kept; it is none where one of them is
abbrev pub Summed : (low opp : Option ℤ) → Maybe Sums → Type 0
Summed low opp None = (low ≡ none) ⊎ (opp ≡ none)
Summed low opp (Some r) = Runs low r.lower × Runs opp r.opposed

-- r has the bounds of an entry: `low` is the lower centre, `high` the negated upper centre, `radius` the negated radius
abbrev pub Ended : (low high radius : Number) → Maybe Sums → Type 0
Ended low high radius = Summed (down binary32 1 (worth low +ℤ worth radius)) (down binary32 1 (worth high +ℤ worth radius))

-- the sums r have this range; where there is none, they are none
abbrev pub HoldsRange : Option Range → Maybe Sums → Type 0
HoldsRange m None = m ≡ none
HoldsRange m (Some s) = m ≡ some (bounds_of s)
