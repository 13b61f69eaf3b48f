-- The value of a binary32 pattern in units of 2^-149, and the pattern of a value. Definitions only.
use Rattle.std.specs.Prelude.{Bool, true, false, cond, ℕ, suc, ◌+◌, ◌-◌, ◌*◌, ◌%◌, ◌^◌, ◌<◌, leb, ltb, ℤ, pos, negsuc, neg_ℤ}
use Rattle.std.proofs.Math.Option.{Option, none, some}
use Rattle.rounding.specs.Format.{binary32}
use Rattle.rounding.specs.Pattern.{val, encode}

-- ---- from a pattern to its number

-- n, or -n where the flag is set
abbrev pub signed_by : Bool → ℕ → ℤ
signed_by true n = neg_ℤ (pos n)
signed_by false n = pos n

-- the value of a pattern: the sign is the highest of 32 bits; below it are the exponent field and the fraction, whose value is `val`
unfoldable pub value_of : ℕ → ℤ
value_of p = signed_by (leb (2 ^ 31) p) (val binary32 (p % 2 ^ 31))

-- whether p is the pattern of a number: its exponent field is not 255
abbrev pub finite : ℕ → Bool
finite p = ltb (p % 2 ^ 31) (255 * 2 ^ 23)

abbrev pub Finite : ℕ → Type 0
Finite p = p % 2 ^ 31 < 255 * 2 ^ 23

abbrev pub finites : ℕ → ℕ → Bool
finites a b = cond (finite a) (finite b) false

-- the value of a pattern, or none for exponent field 255
unfoldable pub held : ℕ → Option ℤ
held p = cond (finite p) (some (value_of p)) none

-- the pattern with its sign bit changed
unfoldable pub negated : ℕ → ℕ
negated p = cond (ltb p (2 ^ 31)) (p + 2 ^ 31) (p - 2 ^ 31)

-- ---- from a value to its pattern: zero has the pattern 0, never that of minus zero

abbrev pub pattern_of : ℤ → ℕ
pattern_of (pos v) = encode binary32 v
pattern_of (negsuc n) = 2 ^ 31 + encode binary32 (suc n)

-- the patterns of MAX and -MAX, and of the infinities, which stand for "no finite result"
abbrev pub largest : ℕ
largest = 0x7F7FFFFF

abbrev pub least : ℕ
least = 0xFF7FFFFF

abbrev pub infinity : ℕ
infinity = 0x7F800000

abbrev pub minus_infinity : ℕ
minus_infinity = 0xFF800000

-- the pattern of a result; z, a pattern with exponent field 255, where there is no finite result
abbrev pub hold : ℕ → Option ℤ → ℕ
hold z (some v) = pattern_of v
hold z none = z

-- no finite result is written as minus infinity by rounding down, as infinity by rounding up and to nearest
abbrev pub hold_down : Option ℤ → ℕ
hold_down = hold minus_infinity

abbrev pub hold_up : Option ℤ → ℕ
hold_up = hold infinity

abbrev pub hold_near : Option ℤ → ℕ
hold_near = hold infinity
