-- The promise of a train: the cells of the written sheet enclose every product of matrices of fractions picked from the sheets, and each single
-- multiplication keeps the bound on the width. Definitions only.
use Rattle.std.specs.Prelude.{◌≡◌, List, [], ◌∷◌, ℕ, ◌+◌, ◌<◌, take}
use Rattle.rounding.specs.Format.{binary32, units}
use Rattle.enclosure.specs.Demand.{Picked, sum_of_products}
use Rattle.enclosure.specs.Fraction.{Fraction}
use Rattle.refusals.specs.Answer.{Answer, gives, refuses}
use Rattle.sheets.specs.Layout.{rows_of, columns_of}
use Rattle.sheets.specs.Reading.{sizes}
use Rattle.job.specs.Factor.{Factor, matrix_in, sheet_read}
use Rattle.job.specs.Fold.{product_in, sheets_product}
use Rattle.job.specs.Train.{sheets_in}
use Rattle.job.specs.Demand.{cell_in, range_in, ProductKeeps}

-- ---- matrices of fractions

-- a fraction for each row and column
abbrev pub Fractions : Type 0
Fractions = ℕ → ℕ → Fraction

-- x has one fraction from each cell of X; the choices are independent
abbrev pub PickedFrom : Factor → Fractions → Type 0
PickedFrom X x = (i : ℕ) → i < X.rows → Picked (units binary32) X.columns (cell_in X i) (x i)

-- the exact product of x, which has k columns, and y
abbrev pub times : ℕ → Fractions → Fractions → Fractions
times k x y i j = sum_of_products k (x i) (λ l. y l j)

-- ---- the picks: `picks p` is picked from the sheet at position p

-- from each of these sheets, whose positions begin with p
unfoldable pub PickedAll : ℕ → List (List ℕ) → (ℕ → Fractions) → Type 0
PickedAll p [] picks = Unit {0}
PickedAll p (s ∷ ss) picks = PickedFrom (matrix_in s) (picks p) × PickedAll (p + 1) ss picks

-- x times the picks from these sheets, from the left
unfoldable pub exact_from : ℕ → Fractions → List (List ℕ) → (ℕ → Fractions) → Fractions
exact_from p x [] picks = x
exact_from p x (s ∷ ss) picks = exact_from (p + 1) (times (rows_of s) x (picks p)) ss picks

-- the exact product of the picks from all sheets; a train has at least one
unfoldable pub exact_product : List (List ℕ) → (ℕ → Fractions) → Fractions
exact_product [] picks = picks 1
exact_product (s ∷ ss) picks = exact_from 2 (picks 1) ss picks

-- ---- each single multiplication: s is a valid sheet, it fits the left factor X, and their product encloses, and by method 4 is not too wide
pub record StepKeeps (method : ℕ) (X : Factor) (s : List ℕ) : Type 0 where
  pub reads : sheet_read s ≡ gives (sizes (rows_of s) (columns_of s))
  pub fits : X.columns ≡ rows_of s
  pub keeps : ProductKeeps method X (matrix_in s) (product_in method X (matrix_in s))

-- the same for each of the sheets, every product being the next left factor
unfoldable pub StepsKeep : ℕ → Factor → List (List ℕ) → Type 0
StepsKeep method X [] = Unit {0}
StepsKeep method X (s ∷ ss) = StepKeeps method X s × StepsKeep method (product_in method X (matrix_in s)) ss

-- the first sheet is valid, and each other keeps its step
unfoldable pub AllKeep : ℕ → List (List ℕ) → Type 0
AllKeep method [] = Unit {0}
AllKeep method (s ∷ ss) = (sheet_read s ≡ gives (sizes (rows_of s) (columns_of s))) × StepsKeep method (matrix_in s) ss

-- ---- the train as a whole: s is a sheet with the ranges of the last product, and these enclose the exact products of all picks
pub record Carried (method : ℕ) (sheets : List (List ℕ)) (s : List ℕ) : Type 0 where
  pub steps : AllKeep method sheets
  pub last : Factor
  pub product : sheets_product method 9 sheets ≡ gives last
  pub reads : sheet_read s ≡ gives (sizes last.rows last.columns)
  pub ranges : (i j : ℕ) → i < last.rows → j < last.columns → range_in (matrix_in s) i j ≡ range_in last i j
  pub encloses : (picks : ℕ → Fractions) → PickedAll 1 sheets picks → PickedFrom (matrix_in s) (exact_product sheets picks)

-- the same, for the answer of the job and the buffer afterwards: the sheet is its first n bytes
unfoldable pub TrainKeeps : (method count : ℕ) → List ℕ → Answer ℕ → List ℕ → Type 0
TrainKeeps method count s (gives n) out = Carried method (sheets_in count s) (take n out)
TrainKeeps method count s (refuses x) out = Unit {0}
