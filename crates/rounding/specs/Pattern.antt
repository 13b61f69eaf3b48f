-- The value of a bit pattern without its sign, and the pattern of a value. Definitions only.
-- In the pattern n, the exponent field is n / 2 ^ (prec - 1) and the fraction is n % 2 ^ (prec - 1).
use Rattle.std.specs.Prelude.{ℕ, zero, suc, ◌+◌, ◌*◌, ◌/◌, ◌%◌, ◌^◌}
use Rattle.rounding.specs.Format.{Format, half, expo}

-- the value in units of exponent field e and fraction m, with P = 2 ^ (prec - 1): m for e = 0, else (P + m) * 2 ^ (e - 1)
abbrev pub value : ℕ → ℕ → ℕ → ℕ
value P zero m = m
value P (suc e) m = (P + m) * 2 ^ e

unfoldable pub val : Format → ℕ → ℕ
val f n = value (half f) (n / half f) (n % half f)

-- the pattern of infinity, whose exponent field is all ones: the patterns of numbers are those below it
abbrev pub limit : Format → ℕ
limit f = (f.top + 2) * half f

-- the pattern of the magnitude v of a number
unfoldable pub encode : Format → ℕ → ℕ
encode f v = expo f v * half f + v / 2 ^ expo f v
