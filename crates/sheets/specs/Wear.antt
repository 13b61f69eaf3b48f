-- The amount of each wear class, by which the bounds of a cell are moved outward. Definitions only.
use Rattle.std.specs.Prelude.{cond, List, [], ◌∷◌, ℕ, ◌+◌, ◌^◌, eqb, pos, get_or}
use Rattle.binary32.specs.Number.{pattern_of}

-- in units of 2^-149: 0 for class 0; for class c from 1 to 7 2^(c - 11), which is 2^(138 + c) units
unfoldable pub units_of : ℕ → ℕ
units_of c = cond (eqb c 0) 0 (2 ^ (138 + c))

-- as a pattern
unfoldable pub amount_of : ℕ → ℕ
amount_of c = pattern_of (pos (units_of c))

-- ---- the eight amounts that a read is held against

-- the fixed table, for classes 0 to 7
unfoldable pub fixed_amounts : List ℕ
fixed_amounts = amount_of 0 ∷ amount_of 1 ∷ amount_of 2 ∷ amount_of 3 ∷ amount_of 4 ∷ amount_of 5 ∷ amount_of 6 ∷ amount_of 7 ∷ []

-- the amount of class c among eight
abbrev pub amount_in : List ℕ → ℕ → ℕ
amount_in amounts c = get_or amounts c 0
