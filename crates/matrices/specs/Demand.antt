-- The promise of a product: each entry encloses every sum of products of picked fractions, and method 4's are no wider than allowed. Definitions only.
use Rattle.std.specs.Prelude.{◌≡◌, List, ℕ, ◌+◌, ◌*◌, ◌<◌, get_or}
use Rattle.enclosure.specs.Cell.{Cell}
use Rattle.enclosure.specs.Demand.{Kept}
use Rattle.enclosure.specs.Methods.{Range}
use Rattle.refusals.specs.Answer.{done}
use Rattle.binary32.specs.Number.{value_of}
use Rattle.matrices.specs.Matrix.{cell_at}
use Rattle.matrices.specs.Checks.{Given, called, chosen}
use Rattle.matrices.specs.Product.{product_of}

-- row i of A and column j of B
abbrev pub row_of : Given → ℕ → ℕ → Cell
row_of g i l = cell_at g.A (i * g.a_columns + l)

abbrev pub column_of : Given → ℕ → ℕ → Cell
column_of g j l = cell_at g.B (l * g.b_columns + j)

-- the bounds in row i and column j of the result, in units
abbrev pub range_at : Given → (lo up : List ℕ) → ℕ → ℕ → Range
range_at g lo up i j = record { lower = value_of (get_or lo (i * g.b_columns + j) 0); upper = value_of (get_or up (i * g.b_columns + j) 0) }

-- a product that is not refused keeps the promise in every entry
unfoldable pub Keeps : Given → (lo up : List ℕ) → Type 0
Keeps g lo up = product_of g ≡ done → (i j : ℕ) → i < g.a_rows → j < g.b_columns → Kept (chosen g.method) g.a_columns (row_of g i) (column_of g j) (range_at g lo up i j)

-- the same, by the arguments of a call
abbrev pub KeepsCalled : (method ar ac br bc : ℕ) (al au bl bu ma ra mb rb lo up lo' up' : List ℕ) → Type 0
KeepsCalled method ar ac br bc al au bl bu ma ra mb rb lo up = Keeps (called method ar ac br bc al au bl bu ma ra mb rb lo up)
