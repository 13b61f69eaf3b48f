-- A matrix with its sizes, as a factor of a product of sheets: how a sheet gives one, and how it stands in two arrays. Definitions only.
use Rattle.std.specs.Prelude.{List, ℕ, ◌*◌, ◌≤◌, take}
use Rattle.refusals.specs.Answer.{Answer, gives, refuses, then, naming}
use Rattle.refusals.specs.Sizes.{most_cells}
use Rattle.intervals.specs.declared.matrix.LentMatrix.{LentMatrix}
use Rattle.sheets.specs.declared.Sizes.{Sizes}
use Rattle.sheets.specs.Layout.{rows_of, columns_of}
use Rattle.sheets.specs.Reading.{cell_lower, cell_upper, matrix_of, read_of}

-- the patterns of the lower and of the upper bounds are by rows, rows × columns of each
pub record Factor : Type 0 where
  pub rows : ℕ
  pub columns : ℕ
  pub lowers : List ℕ
  pub uppers : List ℕ

-- ---- from a sheet

-- the matrix of the sheet s, each cell widened by its wear
abbrev pub matrix_in : List ℕ → Factor
matrix_in s = record { rows = rows_of s; columns = columns_of s; lowers = matrix_of cell_lower s; uppers = matrix_of cell_upper s }

-- the answer of a read into two arrays of 1,024 patterns, which are always long enough
abbrev pub sheet_read : List ℕ → Answer Sizes
sheet_read s = read_of s most_cells most_cells

-- the read of the sheet s, whose refusals name the matrix p
unfoldable pub read_as : ℕ → List ℕ → Answer Factor
read_as p s = then (naming p (sheet_read s)) (gives (matrix_in s))

-- ---- in the front of two arrays

abbrev pub in_front : ℕ → ℕ → List ℕ → List ℕ → Factor
in_front rows columns lo up = record { rows = rows; columns = columns; lowers = take (rows * columns) lo; uppers = take (rows * columns) up }

-- a matrix that is lent
abbrev pub factor_of : LentMatrix → Factor
factor_of m = record { rows = m.rows; columns = m.columns; lowers = m.lowers.now; uppers = m.uppers.now }

-- the answer that the code's own, with the sizes alone, and the two arrays stand for
abbrev pub in_arrays : Answer Sizes → List ℕ → List ℕ → Answer Factor
in_arrays (gives z) lo up = gives (in_front z.rows z.columns lo up)
in_arrays (refuses x) lo up = refuses x

-- the arrays are long enough for it
abbrev pub Few : Answer Sizes → Type 0
Few (gives z) = z.rows * z.columns ≤ most_cells
Few (refuses x) = Unit {0}
