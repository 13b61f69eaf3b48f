-- The operations: the exact result, rounded once. Definitions only.
use Rattle.std.specs.Prelude.{cond, ℕ, ◌-◌, ◌^◌, ℤ, ◌+ℤ◌, ◌-ℤ◌, ◌*ℤ◌}
use Rattle.std.proofs.Math.Option.{Option, none, some, bind}
use Rattle.rounding.specs.Format.{Format, binary32}
use Rattle.rounding.specs.Rounding.{up, down, near}
use Rattle.refusals.specs.declared.reason.Reason.TheVariants.{NotFinite, TooLarge}
use Rattle.refusals.specs.Answer.{Judged, gives, refuses}
use Rattle.binary32.specs.Number.{value_of, finite, finites, held, pattern_of}

-- a rounding: `up`, `down` or `near`
abbrev pub Way : Type 0
Way = Format → ℕ → ℤ → Option ℤ

-- ---- on two numbers in units: a sum or difference is a whole number of units, a midpoint one of half units, a product one of 2^-149 units

abbrev pub add : Way → ℤ → ℤ → Option ℤ
add way x y = way binary32 1 (x +ℤ y)

abbrev pub sub : Way → ℤ → ℤ → Option ℤ
sub way x y = way binary32 1 (x -ℤ y)

abbrev pub mul : Way → ℤ → ℤ → Option ℤ
mul way x y = way binary32 (2 ^ 149) (x *ℤ y)

abbrev pub midpoint : Way → ℤ → ℤ → Option ℤ
midpoint way x y = way binary32 2 (x +ℤ y)

-- the sum (lift 149) and the midpoint (lift 148) as one operation: (x + y) / 2^(149 - lift) is rounded
abbrev pub lifted : ℕ → Way → ℤ → ℤ → Option ℤ
lifted lift way x y = way binary32 (2 ^ (149 - lift)) (x +ℤ y)

-- ---- on two patterns: none where one has exponent field 255, or where the result is none
unfoldable pub with₂ : (ℤ → ℤ → Option ℤ) → ℕ → ℕ → Option ℤ
with₂ op a b = bind (held a) λ x. bind (held b) λ y. op x y

-- ---- on two results, each a number or none
abbrev pub on₂ : (ℤ → ℤ → Option ℤ) → Option ℤ → Option ℤ → Option ℤ
on₂ op m n = bind m λ x. bind n λ y. op x y

-- the sum of a pattern's number and a result t; none where either is none
abbrev pub plus_of : Way → ℕ → Option ℤ → Option ℤ
plus_of way s t = on₂ (add way) (held s) t

-- ---- on two patterns, with the reasons for a refusal: exponent field 255, and a result that is too large for binary32

-- the pattern of a result, where there is one
abbrev pub answer_of : Option ℤ → Judged ℕ
answer_of (some v) = gives (pattern_of v)
answer_of none = refuses TooLarge

-- the answer of an operation on the patterns a and b
unfoldable pub answer : (ℤ → ℤ → Option ℤ) → ℕ → ℕ → Judged ℕ
answer op a b = cond (finites a b) (answer_of (op (value_of a) (value_of b))) (refuses NotFinite)

-- the same from the pattern r of the result, where exponent field 255 means none
unfoldable pub checked_of : ℕ → ℕ → ℕ → Judged ℕ
checked_of a b r = cond (finites a b) (cond (finite r) (gives r) (refuses TooLarge)) (refuses NotFinite)

-- the twelve operations
abbrev pub add_down : ℕ → ℕ → Judged ℕ
add_down = answer (add down)

abbrev pub add_up : ℕ → ℕ → Judged ℕ
add_up = answer (add up)

abbrev pub add_near : ℕ → ℕ → Judged ℕ
add_near = answer (add near)

abbrev pub sub_down : ℕ → ℕ → Judged ℕ
sub_down = answer (sub down)

abbrev pub sub_up : ℕ → ℕ → Judged ℕ
sub_up = answer (sub up)

abbrev pub sub_near : ℕ → ℕ → Judged ℕ
sub_near = answer (sub near)

abbrev pub mul_down : ℕ → ℕ → Judged ℕ
mul_down = answer (mul down)

abbrev pub mul_up : ℕ → ℕ → Judged ℕ
mul_up = answer (mul up)

abbrev pub mul_near : ℕ → ℕ → Judged ℕ
mul_near = answer (mul near)

abbrev pub midpoint_down : ℕ → ℕ → Judged ℕ
midpoint_down = answer (midpoint down)

abbrev pub midpoint_up : ℕ → ℕ → Judged ℕ
midpoint_up = answer (midpoint up)

abbrev pub midpoint_near : ℕ → ℕ → Judged ℕ
midpoint_near = answer (midpoint near)
