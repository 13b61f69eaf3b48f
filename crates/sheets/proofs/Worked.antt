-- The bytes of worked sheets: one number, and a sheet of one cell. Assumes nothing.
use mathlib.Core.List.{List, [], ◌∷◌, ◌++◌}
use Prim.Native.Nat.{ℕ, ◌+◌, ◌*◌, ◌/◌, ◌%◌}
use Rattle.sheets.specs.Sheet.{record_bytes}

abbrev pub word : ℕ → List ℕ
word p = p % 256 ∷ p / 256 % 256 ∷ p / 65536 % 256 ∷ p / 16777216 % 256 ∷ []

-- a sheet of this kind for one row and one column, whose cell has these bounds and this wear
abbrev pub cell_sheet : ℕ → ℕ → ℕ → ℕ → List ℕ
cell_sheet kind l u wear = record_bytes 1 1 1 (2 + 65536 * kind) 0 ++ (0 ∷ 0 ∷ 0 ∷ 0 ∷ []) ++ word l ++ word u ++ word wear
