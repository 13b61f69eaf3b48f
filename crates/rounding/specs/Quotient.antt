-- An integer divided by m: the remainder of the quotient rounded down (which is the library's `shr_z`), and the quotient rounded up. Definitions only.
use Rattle.std.specs.Prelude.{Bool, true, false, ℕ, suc, ◌-◌, ◌/◌, ◌%◌, ℤ, pos, negsuc, neg_ℤ}
use Rattle.rounding.specs.Rounding.{ceil}

-- the remainder, from 0 to m - 1
abbrev pub rem : ℤ → ℕ → ℕ
rem (pos n) m = n % m
rem (negsuc n) m = m - suc (n % m)

-- s / m rounded up
abbrev pub ceil_s : ℤ → ℕ → ℤ
ceil_s (pos n) m = pos (ceil n m)
ceil_s (negsuc n) m = neg_ℤ (pos (suc n / m))

-- 1 where the test holds, else 0
abbrev pub bit : Bool → ℕ
bit true = 1
bit false = 0
