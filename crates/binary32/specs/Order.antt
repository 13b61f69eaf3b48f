-- The order of patterns by their values. Definitions only.
-- A pattern with exponent field 255 is compared by the value that its fields would give: minus infinity is below all numbers, infinity above.
use Rattle.std.specs.Prelude.{Bool, cond, ℕ, ◌%◌, ◌^◌, leb, ℤ}
use Rattle.std.specs.Int.Signed.{le_z}
use Rattle.binary32.specs.Number.{signed_by, value_of}

-- the pattern with its sign bit cleared
abbrev pub magnitude_of : ℕ → ℕ
magnitude_of p = p % 2 ^ 31

-- an integer that rises with the value of the pattern, 0 for both zeros
unfoldable pub key_of : ℕ → ℤ
key_of p = signed_by (leb (2 ^ 31) p) (p % 2 ^ 31)

-- whether the value of a is at most that of b
abbrev pub at_most : ℕ → ℕ → Bool
at_most a b = le_z (value_of a) (value_of b)

-- the pattern with the lesser value, and with the greater; of equal values the first, and the second
unfoldable pub least_of : ℕ → ℕ → ℕ
least_of a b = cond (at_most a b) a b

unfoldable pub greatest_of : ℕ → ℕ → ℕ
greatest_of a b = cond (at_most a b) b a
