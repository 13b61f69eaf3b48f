-- The lesser and the greater of two integers, and the least and the greatest of four. Definitions only.
use Rattle.std.specs.Prelude.{cond, ℤ}
use Rattle.std.specs.Int.Signed.{le_z}

unfoldable pub minℤ : ℤ → ℤ → ℤ
minℤ a b = cond (le_z a b) a b

unfoldable pub maxℤ : ℤ → ℤ → ℤ
maxℤ a b = cond (le_z a b) b a

-- the least and the greatest of four integers
abbrev pub least₄ : ℤ → ℤ → ℤ → ℤ → ℤ
least₄ a b c d = minℤ (minℤ a b) (minℤ c d)

abbrev pub greatest₄ : ℤ → ℤ → ℤ → ℤ → ℤ
greatest₄ a b c d = maxℤ (maxℤ a b) (maxℤ c d)
