-- Method 1 on its way along a row and a column: the cells of a pair, and what the running sums hold after l pairs. Definitions only.
use Rattle.std.specs.Prelude.{ℕ, ◌+◌, ◌*◌, Some}
use Rattle.std.proofs.Math.Option.{Option}
use Rattle.rounding.specs.Format.{binary32}
use Rattle.enclosure.specs.Arithmetic.{of}
use Rattle.enclosure.specs.Cell.{Cell}
use Rattle.enclosure.specs.Conversion.{cell_of}
use Rattle.enclosure.specs.Methods.{Range, classical, entry}
use Rattle.binary32.specs.Number.{value_of}
use Rattle.unpacked.specs.Number.{worth}
use Rattle.matrices.specs.Matrix.{Matrix, cell_at}
use Rattle.products.specs.declared.apart.Apart.{Apart}
use Rattle.products.specs.declared.sums.Sums.{Sums}
use Rattle.products.specs.Apart.{lower_number, upper_number}
use Rattle.products.specs.Running.{HoldsRange}

-- a cell whose bounds are unpacked, as that of A is in a step, and one whose bounds are patterns, as that of B is
abbrev pub apart_cell : Apart → Cell
apart_cell a = cell_of (of binary32) (worth (lower_number a)) (worth (upper_number a))

abbrev pub pattern_cell : ℕ → ℕ → Cell
pattern_cell lo hi = cell_of (of binary32) (value_of lo) (value_of hi)

-- row i of A (k columns) and column j of B (n columns)
module _ (k n : ℕ) (A B : Matrix) (i j : ℕ) where
  -- the lower and the upper sum over the first l pairs; none where either is refused
  unfoldable pub sums_to : ℕ → Option Range
  sums_to l = entry (of binary32) classical l (λ l. cell_at A (i * k + l)) (λ l. cell_at B (l * n + j))

  -- s holds them
  abbrev pub SumsAfter : ℕ → Sums → Type 0
  SumsAfter l s = HoldsRange (sums_to l) (Some s)
