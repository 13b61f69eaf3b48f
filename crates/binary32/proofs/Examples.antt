-- Worked examples on patterns as one computed table: what the definition gives, and what it should give. Assumes nothing.
use mathlib.Core.Path.{◌≡◌, refl}
use mathlib.Core.List.{List, [], ◌∷◌, map}
use Prim.Native.Nat.{ℕ}
use lib.Ieee.{size}
use Rattle.rounding.specs.Format.{MAX, expo}
use Rattle.rounding.specs.Rounding.{ceil, lo, hi, nr, up, down, near}
use Rattle.rounding.specs.Pattern.{val, encode}
use Rattle.refusals.specs.declared.reason.Reason.{Reason}
use Rattle.refusals.specs.declared.reason.Reason.TheVariants.{NotFinite, TooLarge}
use Rattle.refusals.specs.Answer.{Judged, gives, refuses}
use Rattle.binary32.specs.Number.{value_of, negated}
use Rattle.binary32.specs.Operations.{answer, add_down, add_up, add_near, sub_down, sub_up}
use Rattle.binary32.specs.Operations.{mul_up, mul_near}
use Rattle.binary32.specs.Order.{magnitude_of, least_of, greatest_of}

pub record Case : Type 0 where
  pub found : Judged ℕ
  pub said : Judged ℕ

-- the answer is a number's pattern, or it is refused with this reason
abbrev pub is : Judged ℕ → ℕ → Case
is r p = record { found = r; said = gives p }

abbrev pub refused : Judged ℕ → Reason → Case
refused r n = record { found = r; said = refuses n }

abbrev pub one : ℕ
one = 0x3F800000

abbrev pub max : ℕ
max = 0x7F7FFFFF

abbrev pub minus_max : ℕ
minus_max = 0xFF7FFFFF

abbrev pub minus_zero : ℕ
minus_zero = 0x80000000

unfoldable pub cases : List Case
cases =
    -- the tie 1 + 2^-23 + 2^-24 goes to the even fraction, 1 + 2^-22
    is (add_near 0x3F800001 0x33800000) 0x3F800002
    -- -MAX - MAX: up -MAX, down too large
    ∷ is (sub_up minus_max max) minus_max
    ∷ refused (sub_down minus_max max) TooLarge
    -- minus zero is read as zero, and a zero result is the pattern 0; e = 255: not finite
    ∷ is (add_down minus_zero minus_zero) 0
    ∷ is (mul_up minus_zero one) 0
    ∷ refused (mul_near 0x7F800000 0) NotFinite
    ∷ refused (add_up max 0xFFC00000) NotFinite
    -- of -2 and 1 the lesser and the greater; minus zero equals zero, so the first is the lesser and the second the greater, either way
    ∷ is (gives (least_of one 0xC0000000)) 0xC0000000
    ∷ is (gives (greatest_of one 0xC0000000)) one
    ∷ is (gives (least_of minus_zero 0)) minus_zero
    ∷ is (gives (least_of 0 minus_zero)) 0
    ∷ is (gives (greatest_of 0 minus_zero)) minus_zero
    -- minus one unit, negated and without its sign
    ∷ is (gives (negated 0x80000001)) 1
    ∷ is (gives (magnitude_of 0x80000001)) 1
    ∷ []

pub worked : map (λ c. c.found) cases ≡ map (λ c. c.said) cases
unfolding cases answer least_of greatest_of negated value_of encode val up down near lo hi nr ceil expo size MAX
worked = refl
