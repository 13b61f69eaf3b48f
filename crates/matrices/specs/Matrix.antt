-- A matrix as it is passed to a product: the patterns of its lower bounds and of its upper bounds, by rows. Definitions only.
use Rattle.std.specs.Prelude.{◌≡◌, List, ℕ, ◌<◌, get_or}
use Rattle.rounding.specs.Format.{binary32}
use Rattle.enclosure.specs.Arithmetic.{of}
use Rattle.enclosure.specs.Cell.{Cell}
use Rattle.enclosure.specs.Conversion.{cell_of}
use Rattle.binary32.specs.Number.{value_of}
use Rattle.refusals.specs.Answer.{Judged, done}
use Rattle.intervals.specs.Conversion.{fault_of, mid_of, rad_of}

pub record Matrix : Type 0 where
  pub lowers : List ℕ
  pub uppers : List ℕ

abbrev pub of_bounds : List ℕ → List ℕ → Matrix
of_bounds lowers uppers = record { lowers = lowers; uppers = uppers }

module _ (X : Matrix) where
  abbrev pub lower_at : ℕ → ℕ
  lower_at c = get_or X.lowers c 0

  abbrev pub upper_at : ℕ → ℕ
  upper_at c = get_or X.uppers c 0

  -- the cell at position c: its bounds, midpoint and radius in units
  unfoldable pub cell_at : ℕ → Cell
  cell_at c = cell_of (of binary32) (value_of (lower_at c)) (value_of (upper_at c))

  -- the midpoint and the radius of the cell at position c, as patterns
  abbrev pub mid_at : ℕ → ℕ
  mid_at c = mid_of (lower_at c) (upper_at c)

  abbrev pub rad_at : ℕ → ℕ
  rad_at c = rad_of (lower_at c) (upper_at c)

  -- the fault of the cell at position c, or none
  abbrev pub fault_at : ℕ → Judged (Unit {0})
  fault_at c = fault_of (lower_at c) (upper_at c)

-- the first n cells have no fault
abbrev pub AllFine : Matrix → ℕ → Type 0
AllFine X n = (c : ℕ) → c < n → fault_at X c ≡ done
