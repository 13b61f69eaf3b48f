-- Worked examples of the three roundings beside those that 01 states, as one computed table: the exact value is X / D units, and `none` is a refusal.
-- Assumes nothing.
use mathlib.Core.Path.{◌≡◌, refl}
use mathlib.Core.List.{List, [], ◌∷◌, map}
use mathlib.Core.Option.{Option, none, some}
use Prim.Native.Nat.{ℕ, ◌+◌, ◌-◌, ◌*◌, ◌^◌}
use lib.IntN.{ℤ, pos, neg_ℤ}
use lib.Ieee.{size}
use Rattle.rounding.specs.Format.{Format, binary32, binary64, units, MAX, expo}
use Rattle.rounding.specs.Rounding.{ceil, lo, hi, nr, up, down, near}

pub record Case : Type 0 where
  pub rounding : Format → ℕ → ℤ → Option ℤ
  pub format : Format
  pub D : ℕ
  pub X : ℤ
  pub answer : Option ℤ

-- in binary32, and in binary64
abbrev pub of32 : (Format → ℕ → ℤ → Option ℤ) → ℕ → ℤ → Option ℤ → Case
of32 r D X a = record { rounding = r; format = binary32; D = D; X = X; answer = a }

abbrev pub of64 : (Format → ℕ → ℤ → Option ℤ) → ℕ → ℤ → Option ℤ → Case
of64 r D X a = record { rounding = r; format = binary64; D = D; X = X; answer = a }

abbrev pub max : ℕ
max = MAX binary32

unfoldable pub cases : List Case
cases =
    -- 1 + 3 × 2^-24, nearest: the even fraction, 1 + 2^-22
    of32 near 1 (pos (units binary32 + 3 * 2 ^ 125)) (some (pos (units binary32 + 2 ^ 127)))
    -- MAX + 2^103 less one unit, and -MAX - 2^103: nearest
    ∷ of32 near 1 (pos (max + 2 ^ 252 - 1)) (some (pos max))
    ∷ of32 near 1 (neg_ℤ (pos (max + 2 ^ 252))) none
    -- -MAX - MAX
    ∷ of32 up 1 (neg_ℤ (pos (2 * max))) (some (neg_ℤ (pos max)))
    ∷ of32 down 1 (neg_ℤ (pos (2 * max))) none
    -- the midpoints 1/2 and 3/2 of a unit, nearest: ties to 0 and 2
    ∷ of32 near 2 (pos 1) (some (pos 0))
    ∷ of32 near 2 (pos 3) (some (pos 2))
    -- 2^25 - 1 units, nearest: all digits are carried over
    ∷ of32 near 1 (pos (2 ^ 25 - 1)) (some (pos (2 ^ 25)))
    -- binary64: one unit × one unit, MAX × MAX
    ∷ of64 up (units binary64) (pos 1) (some (pos 1))
    ∷ of64 down (units binary64) (pos 1) (some (pos 0))
    ∷ of64 near (units binary64) (pos 1) (some (pos 0))
    ∷ of64 up (units binary64) (pos (MAX binary64 * MAX binary64)) none
    ∷ of64 down (units binary64) (pos (MAX binary64 * MAX binary64)) (some (pos (MAX binary64)))
    ∷ of64 near (units binary64) (pos (MAX binary64 * MAX binary64)) none
    ∷ []

pub worked : map (λ c. c.rounding c.format c.D c.X) cases ≡ map (λ c. c.answer) cases
unfolding cases up down near lo hi nr ceil expo size MAX
worked = refl
