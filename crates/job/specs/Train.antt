-- A train of couplings: one buffer of 1 to 8 sheets back to back, multiplied from the left. Definitions only.
use Rattle.std.specs.Prelude.{cond, false, List, [], ◌∷◌, ℕ, zero, suc, leb, length, take, drop}
use Rattle.refusals.specs.declared.reason.Reason.TheVariants.{WrongCount}
use Rattle.refusals.specs.Refusal.{of_matrix}
use Rattle.refusals.specs.Answer.{Answer, unless, then}
use Rattle.sheets.specs.Cut.{first_length}
use Rattle.matrices.specs.Checks.{check_method}
use Rattle.job.specs.Factor.{Factor}
use Rattle.job.specs.Fold.{sheets_product}
use Rattle.job.specs.Delivery.{written_of}

-- the most sheets of a train
abbrev pub most_sheets : ℕ
most_sheets = 8

-- refusal 12: the number of sheets is not from 1 to 8
unfoldable pub check_count : ℕ → Answer (Unit {0})
check_count count = unless (cond (leb 1 count) (leb count most_sheets) false) (of_matrix WrongCount 0)

-- ---- the sheets in the buffer

-- the length of the next sheet in s, after which `more` others come: it is cut as the program cuts A, the last one is not
unfoldable pub next_length : ℕ → List ℕ → ℕ
next_length zero s = length s
next_length (suc more) s = first_length s

-- the n sheets in s
unfoldable pub sheets_in : ℕ → List ℕ → List (List ℕ)
sheets_in zero s = []
sheets_in (suc n) s = take (next_length n s) s ∷ sheets_in n (drop (next_length n s) s)

-- ---- the job: 9, 12, then the sheets one after another; a product or the writing is matrix 9
unfoldable pub train_product : (method count : ℕ) → List ℕ → Answer Factor
train_product method count s = then (check_method method) (then (check_count count) (sheets_product method 9 (sheets_in count s)))

abbrev pub train_of : (method count : ℕ) → List ℕ → ℕ → Answer ℕ
train_of method count s room = written_of 9 (train_product method count s) room
