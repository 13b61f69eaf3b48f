-- The product of sheets from the left: each product of two is the next left factor. Definitions only.
use Rattle.std.specs.Prelude.{List, [], ◌∷◌, ℕ, ◌+◌, eqb}
use Rattle.refusals.specs.declared.reason.Reason.TheVariants.{WrongSize, WrongCount}
use Rattle.refusals.specs.Refusal.{of_matrix}
use Rattle.refusals.specs.Answer.{Answer, gives, refuse, unless, and_then, then, naming}
use Rattle.refusals.specs.Sizes.{most_cells}
use Rattle.matrices.specs.Lists.{tabulate}
use Rattle.matrices.specs.Entries.{lower_of, upper_of}
use Rattle.matrices.specs.Checks.{Given, given}
use Rattle.matrices.specs.Product.{entries, cells, product_of}
use Rattle.job.specs.Factor.{Factor, read_as}

-- ---- one product. The number n is that of a product in refusals: 3 in the sheet job, 9 in a train

-- X and Y as the arguments of a product with work and result arrays of 1,024 patterns
abbrev pub operands : ℕ → Factor → Factor → Given
operands method X Y =
    given method X.rows X.columns Y.rows Y.columns X.lowers X.uppers Y.lowers Y.uppers most_cells most_cells most_cells most_cells most_cells most_cells

-- its entries as the next left factor
abbrev pub product_in : ℕ → Factor → Factor → Factor
product_in method X Y =
    let g = operands method X Y in
    record { rows = X.rows; columns = Y.columns; lowers = tabulate (cells g) (λ c. lower_of (entries g c)); uppers = tabulate (cells g) (λ c. upper_of (entries g c)) }

unfoldable pub times_of : (method n : ℕ) → Factor → Factor → Answer Factor
times_of method n X Y = then (naming n (product_of (operands method X Y))) (gives (product_in method X Y))

-- ---- the left factor X times the sheet s at position p: the read, refusal 1 where the two do not fit, the product
unfoldable pub step_of : (method n p : ℕ) → Factor → List ℕ → Answer Factor
step_of method n p X s = and_then (read_as p s) (λ Y. then (unless (eqb X.columns Y.rows) (of_matrix WrongSize p)) (times_of method n X Y))

-- X times the sheets from position p on
unfoldable pub fold_from : (method n p : ℕ) → Factor → List (List ℕ) → Answer Factor
fold_from method n p X [] = gives X
fold_from method n p X (s ∷ ss) = and_then (step_of method n p X s) (λ Y. fold_from method n (p + 1) Y ss)

-- the product of the sheets; one alone is taken as read, and none is refusal 12
unfoldable pub sheets_product : (method n : ℕ) → List (List ℕ) → Answer Factor
sheets_product method n [] = refuse WrongCount
sheets_product method n (s ∷ ss) = and_then (read_as 1 s) (λ X. fold_from method n 2 X ss)
