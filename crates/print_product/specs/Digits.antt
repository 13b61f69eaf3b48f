-- Numbers as text: decimal, and hexadecimal in capitals. Definitions only.
use Rattle.std.specs.Prelude.{cond, List, [], ◌∷◌, ◌++◌, ℕ, zero, suc, ◌+◌, ◌/◌, ◌%◌, ltb}

-- the ASCII code of a digit below 16: 0 to 9, then A to F
unfoldable pub digit : ℕ → ℕ
digit d = cond (ltb d 10) (48 + d) (55 + d)

-- the last k digits of n in base b, the most significant first
unfoldable pub digits : ℕ → ℕ → ℕ → List ℕ
digits b zero n = []
digits b (suc k) n = digits b k (n / b) ++ (digit (n % b) ∷ [])

-- how many decimal digits n has, by at most t divisions by 10; n divisions are always enough
unfoldable pub digit_count_to : ℕ → ℕ → ℕ
digit_count_to zero n = 1
digit_count_to (suc t) n = cond (ltb n 10) 1 (suc (digit_count_to t (n / 10)))

abbrev pub digit_count : ℕ → ℕ
digit_count n = digit_count_to n n

abbrev pub decimal : ℕ → List ℕ
decimal n = digits 10 (digit_count n) n

-- a pattern in eight hexadecimal capitals
abbrev pub hexadecimal : ℕ → List ℕ
hexadecimal p = digits 16 8 p
