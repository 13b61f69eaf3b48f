-- The checks of one matrix for refusals 1 (sizes) and 2 (slice lengths). Definitions only.
use Rattle.std.specs.Prelude.{Bool, false, cond, ℕ, ◌*◌, leb}
use Rattle.refusals.specs.declared.reason.Reason.TheVariants.{WrongSize, ShortSlice}
use Rattle.refusals.specs.Refusal.{of_matrix}
use Rattle.refusals.specs.Answer.{Answer, unless, then}

-- the most rows or columns of a matrix, and its most cells
abbrev pub largest_size : ℕ
largest_size = 32

abbrev pub most_cells : ℕ
most_cells = 1024

-- whether each size is from 1 to 32
abbrev pub sized : ℕ → ℕ → Bool
sized rows columns = cond (leb 1 rows) (cond (leb rows largest_size) (cond (leb 1 columns) (leb columns largest_size) false) false) false

-- refusal 1: a size is not from 1 to 32
unfoldable pub check_size : ℕ → ℕ → ℕ → Answer (Unit {0})
check_size matrix rows columns = unless (sized rows columns) (of_matrix WrongSize matrix)

-- refusal 2: one of the two slices, with `lowers` and `uppers` words, is shorter than the number of cells
unfoldable pub check_lengths : ℕ → ℕ → ℕ → ℕ → Answer (Unit {0})
check_lengths matrix cells lowers uppers = unless (cond (leb cells lowers) (leb cells uppers) false) (of_matrix ShortSlice matrix)

-- refusal 1, then 2
unfoldable pub check_fit : ℕ → ℕ → ℕ → ℕ → ℕ → Answer (Unit {0})
check_fit matrix rows columns lowers uppers = then (check_size matrix rows columns) (check_lengths matrix (rows * columns) lowers uppers)
