-- A refusal: the reason, the matrix, the row and the column. Definitions only.
use Rattle.std.specs.Prelude.{ℕ, ◌+◌, ◌*◌}
use Rattle.refusals.specs.declared.Refusal.{Refusal}
use Rattle.refusals.specs.declared.reason.Reason.{Reason}
use Rattle.refusals.specs.Reason.{number_of}

-- for the cell in row i and column j of matrix m
abbrev pub of_cell : Reason → ℕ → ℕ → ℕ → Refusal
of_cell n m i j = record { reason = n; matrix = m; row = i; column = j }

-- for matrix m, without a cell: row and column are 0
abbrev pub of_matrix : Reason → ℕ → Refusal
of_matrix n m = of_cell n m 0 0

-- the same refusal with the matrix number m
abbrev pub named : ℕ → Refusal → Refusal
named m r = of_cell r.reason m r.row r.column

-- the refusal as one number
abbrev pub code_of : Refusal → ℕ
code_of r = 1000000 * number_of r.reason + 10000 * r.matrix + 100 * r.row + r.column
