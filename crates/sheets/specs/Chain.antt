-- The chain of a sheet, followed record by record with all checks, over a rule that gives the wear amount of a record or its refusal.
-- Definitions only.
use Rattle.std.specs.Prelude.{cond, List, [], ◌∷◌, ℕ, zero, suc, ◌+◌, ◌*◌, leb, ltb, eqb}
use Rattle.refusals.specs.declared.reason.Reason.TheVariants.{Outside, NotRising}
use Rattle.refusals.specs.Refusal.{of_cell}
use Rattle.refusals.specs.Answer.{Answer, Judged, gives, refuses, done, refuse, and_then}
use Rattle.sheets.specs.declared.layout.Record.{Record}
use Rattle.sheets.specs.declared.chain.Cell.{Cell}
use Rattle.sheets.specs.Kind.{kind_of}
use Rattle.sheets.specs.Layout.{record_of, first_of, rows_of, columns_of, count_of}
use Rattle.sheets.specs.Amount.{cell_amount}
use Rattle.sheets.specs.Cell.{widened_of}

-- ---- one record

-- the position of a cell by rows: row × columns + column
abbrev pub position_of : ℕ → Record → ℕ
position_of columns r = r.row * columns + r.column

-- the cell of a record with its widened bounds, or their refusal with row and column
abbrev pub cell_from : ℕ → Record → Judged (ℕ × ℕ) → Answer Cell
cell_from columns r (gives x) = gives (record { next = r.next; position = position_of columns r; lower = x.0; upper = x.1 })
cell_from columns r (refuses x) = refuses (of_cell x 0 r.row r.column)

-- a record with its amount w, its bounds widened
abbrev pub worn_cell : ℕ → Record → ℕ → Answer Cell
worn_cell columns r w = cell_from columns r (widened_of r.lower r.upper w)

-- the checks of one record: 7, 8, those of the rule (6 and 10, or 14), then 3, 4, 5. `least` is one past the position of the cell before, 0 for the
-- first cell, so that a position of `least` or more comes later by row, then column (proofs/Order, `unordered_is`)
unfoldable pub judge_of : (Record → Answer ℕ) → ℕ → ℕ → ℕ → Record → Answer Cell
judge_of rule rows columns least r =
    cond (leb rows r.row) (refuse Outside)
    (cond (leb columns r.column) (refuse Outside)
    (cond (ltb (position_of columns r) least) (refuse NotRising)
    (and_then (rule r) (worn_cell columns r))))

-- ---- the chain

-- the result of following the chain: the cells up to its end or to the first refusal, and done or that refusal
pub record Walk : Type 0 where
  pub cells : List Cell
  pub verdict : Answer (Unit {0})

-- no cell, with this verdict
abbrev pub stopped : Answer (Unit {0}) → Walk
stopped v = record { cells = []; verdict = v }

-- one cell in front of a walk
abbrev pub more : Cell → Walk → Walk
more c w = record { cells = c ∷ w.cells; verdict = w.verdict }

-- a cell and the walk f behind it, or the refusal
abbrev pub onward : Answer Cell → (Cell → Walk) → Walk
onward (gives c) f = more c (f c)
onward (refuses r) f = stopped (refuses r)

-- the checks of the record at an index: 7 where the index is not below the record count, then those of the record
unfoldable pub visit_of : (Record → Answer ℕ) → List ℕ → ℕ → ℕ → ℕ → ℕ → Answer Cell
visit_of rule s rows columns index least = cond (leb (count_of s) index) (refuse Outside) (judge_of rule rows columns least (record_of s index))

-- the walk from record `index` on; index 0 ends the chain. Positions rise, so rows × columns + 1 turns are enough (proofs/Walking, `enough`)
unfoldable pub walk : (Record → Answer ℕ) → List ℕ → ℕ → ℕ → ℕ → ℕ → ℕ → Walk
walk rule s rows columns zero index least = stopped done
walk rule s rows columns (suc turns) index least =
    cond (eqb index 0) (stopped done)
    (onward (visit_of rule s rows columns index least) (λ c. walk rule s rows columns turns c.next (c.position + 1)))

-- the whole walk, for a matrix with this many rows and columns and a chain that starts at record `first`
abbrev pub walk_all : (Record → Answer ℕ) → List ℕ → ℕ → ℕ → ℕ → Walk
walk_all rule s rows columns first = walk rule s rows columns (rows * columns + 1) first 0

-- the walk of a sheet, by its head, over the eight wear amounts that the read is held against
unfoldable pub chain_of : List ℕ → List ℕ → Walk
chain_of amounts s = walk_all (cell_amount (kind_of s) amounts) s (rows_of s) (columns_of s) (first_of s)
