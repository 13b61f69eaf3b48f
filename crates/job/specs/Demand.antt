-- The promise of the sheet job: the cells of the written sheet enclose every product of fractions picked from the two sheets. Definitions only.
use Rattle.std.specs.Prelude.{◌≡◌, List, ℕ, ◌+◌, ◌*◌, ◌<◌, get_or, take}
use Rattle.enclosure.specs.Cell.{Cell}
use Rattle.enclosure.specs.Demand.{Kept}
use Rattle.enclosure.specs.Methods.{Range}
use Rattle.refusals.specs.Answer.{Answer, gives, refuses}
use Rattle.binary32.specs.Number.{value_of}
use Rattle.sheets.specs.Layout.{rows_of, columns_of}
use Rattle.sheets.specs.Reading.{sizes}
use Rattle.matrices.specs.Matrix.{of_bounds, cell_at}
use Rattle.matrices.specs.Checks.{chosen}
use Rattle.job.specs.Factor.{Factor, matrix_in, sheet_read}

-- ---- one product

-- the cell in row i and column j, and its bounds in units
abbrev pub cell_in : Factor → ℕ → ℕ → Cell
cell_in X i j = cell_at (of_bounds X.lowers X.uppers) (i * X.columns + j)

abbrev pub range_in : Factor → ℕ → ℕ → Range
range_in X i j = record { lower = value_of (get_or X.lowers (i * X.columns + j) 0); upper = value_of (get_or X.uppers (i * X.columns + j) 0) }

-- each cell of Z encloses the sums of products of picked fractions, and by method 4 it is no wider than the bound over X and Y
abbrev pub ProductKeeps : ℕ → (X Y Z : Factor) → Type 0
ProductKeeps method X Y Z = (i j : ℕ) → i < X.rows → j < Y.columns → Kept (chosen method) X.columns (cell_in X i) (λ l. cell_in Y l j) (range_in Z i j)

-- ---- the sheet job: a and b are valid sheets that can be multiplied, s is a sheet of the product's size, and its cells enclose
pub record Delivered (method : ℕ) (a b s : List ℕ) : Type 0 where
  pub first : sheet_read a ≡ gives (sizes (rows_of a) (columns_of a))
  pub second : sheet_read b ≡ gives (sizes (rows_of b) (columns_of b))
  pub inner : columns_of a ≡ rows_of b
  pub reads : sheet_read s ≡ gives (sizes (rows_of a) (columns_of b))
  pub keeps : ProductKeeps method (matrix_in a) (matrix_in b) (matrix_in s)

-- the same, for the answer of the job and the buffer afterwards: the sheet is its first n bytes
unfoldable pub JobKeeps : ℕ → List ℕ → List ℕ → Answer ℕ → List ℕ → Type 0
JobKeeps method a b (gives n) out = Delivered method a b (take n out)
JobKeeps method a b (refuses x) out = Unit {0}
