-- The parts of the input: one ASCII digit, sheet A, sheet B. Definitions only.
use Rattle.std.specs.Prelude.{cond, List, ℕ, ◌-◌, ltb, get_or, take, drop}
use Rattle.sheets.specs.Cut.{first_length}

-- the value of an ASCII digit; for any other byte 0, which is no method
unfoldable pub digit_value : ℕ → ℕ
digit_value b = cond (ltb b 48) 0 (cond (ltb 57 b) 0 (b - 48))

-- the method; 0 where the input is empty
abbrev pub method_in : List ℕ → ℕ
method_in input = digit_value (get_or input 0 0)

abbrev pub sheets_in : List ℕ → List ℕ
sheets_in input = drop 1 input

-- sheet A, and sheet B, which is the rest
abbrev pub sheet_a : List ℕ → List ℕ
sheet_a s = take (first_length s) s

abbrev pub sheet_b : List ℕ → List ℕ
sheet_b s = drop (first_length s) s
