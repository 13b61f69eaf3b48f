-- The bytes of the sheet that is written for a matrix. Definitions only.
use Rattle.std.specs.Prelude.{cond, List, [], ◌∷◌, ◌++◌, ℕ, zero, suc, ◌+◌, ◌*◌, ◌/◌, ◌%◌, ltb, length, get_or, take, drop, Some, None}
use Rattle.refusals.specs.Answer.{gives, refuses}
use Rattle.sheets.specs.declared.amount.Kind.TheVariants.{Amounts}
use Rattle.sheets.specs.declared.layout.Record.{Record}
use Rattle.sheets.specs.Kind.{byte_of}
use Rattle.sheets.specs.Cell.{HandedIn, handed_of}

-- ---- bytes

-- the bytes of a record, as `record_of` reads them (Layout)
abbrev pub bytes_of : Record → List ℕ
bytes_of r =
    r.next % 256 ∷ r.next / 256 % 256 ∷ r.row ∷ r.column
    ∷ r.lower % 256 ∷ r.lower / 256 % 256 ∷ r.lower / 65536 % 256 ∷ r.lower / 16777216 % 256
    ∷ r.upper % 256 ∷ r.upper / 256 % 256 ∷ r.upper / 65536 % 256 ∷ r.upper / 16777216 % 256
    ∷ r.wear % 256 ∷ r.wear / 256 % 256 ∷ r.wear / 65536 % 256 ∷ r.wear / 16777216 % 256 ∷ []

-- the record of a cell that is written: next index, row, column, lower and upper bound, and the amount zero
unfoldable pub record_bytes : ℕ → ℕ → ℕ → ℕ → ℕ → List ℕ
record_bytes n r c l u = bytes_of (record { next = n; row = r; column = c; lower = l; upper = u; wear = 0 })

-- the head, in the same form: index of the first cell, rows, columns, number of records in bytes 4 and 5, the byte of its kind in byte 6, then zeros
abbrev pub head_bytes : ℕ → ℕ → ℕ → ℕ → List ℕ
head_bytes first rows columns count = record_bytes first rows columns (count + 65536 * byte_of Amounts) 0

-- `out` with `bytes` written from index m on
unfoldable pub over : ℕ → List ℕ → List ℕ → List ℕ
over m bytes out = take m out ++ bytes ++ drop (m + length bytes) out

-- ---- the cells that are not [0, 0], by rows

-- the cell at position p of the matrix with the bounds lo and up
abbrev pub cell_at : List ℕ → List ℕ → ℕ → HandedIn
cell_at lo up p = handed_of (get_or lo p 0) (get_or up p 0)

-- how many records a cell gets: 0 or 1
unfoldable pub tally : HandedIn → ℕ
tally (gives None) = 0
tally (gives (Some (a, b))) = 1
tally (refuses n) = 0

-- how many records the first p cells get
unfoldable pub count_to : List ℕ → List ℕ → ℕ → ℕ
count_to lo up zero = 0
count_to lo up (suc p) = count_to lo up p + tally (cell_at lo up p)

-- the next index in record k of a chain of records 1 to `total`, where record 0 is the head: k + 1, or 0 in the last record
unfoldable pub next_of : ℕ → ℕ → ℕ
next_of total k = cond (ltb k total) (k + 1) 0

-- the record of a cell, or no bytes for [0, 0]
unfoldable pub cell_bytes : ℕ → ℕ → ℕ → HandedIn → List ℕ
cell_bytes n r c (gives None) = []
cell_bytes n r c (gives (Some (a, b))) = record_bytes n r c a b
cell_bytes n r c (refuses x) = []

-- the records of the first p cells
unfoldable pub records_to : ℕ → ℕ → List ℕ → List ℕ → ℕ → List ℕ
records_to columns total lo up zero = []
records_to columns total lo up (suc p) =
    records_to columns total lo up p ++ cell_bytes (next_of total (count_to lo up p + 1)) (p / columns) (p % columns) (cell_at lo up p)

-- the whole sheet, an amount sheet: the head, then the cells that are not [0, 0] in records 1, 2, 3, ..
unfoldable pub sheet_of : ℕ → ℕ → List ℕ → List ℕ → List ℕ
sheet_of rows columns lo up =
    let total = count_to lo up (rows * columns) in
    head_bytes (next_of total 0) rows columns (total + 1) ++ records_to columns total lo up (rows * columns)
