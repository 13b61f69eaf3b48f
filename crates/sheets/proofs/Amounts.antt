-- The rule of the wear amounts, shown over the whole table: each is the pattern of 0, or of 2^(c-11) for its class c. Assumes nothing.
use mathlib.Core.Path.{◌≡◌, refl, ap}
use mathlib.Core.Bool.{Bool, false}
use mathlib.Core.List.{List, [], ◌∷◌}
use Prim.Native.Nat.{ℕ, ◌<◌}
use lib.Dec.{T, eqb, eqb→eq}
use lib.Ieee.{size}
use lib.IntN.{ℤ, pos, negsuc}
use Rattle.algebra.proofs.Table.{at}
use Rattle.rounding.specs.Pattern.{val, encode}
use Rattle.rounding.specs.Format.{expo}
use Rattle.binary32.specs.Number.{value_of}
use Rattle.sheets.specs.Wear.{units_of, amount_of, fixed_amounts, amount_in}

abbrev pub table : List ℕ
table = 0 ∷ 0x3A800000 ∷ 0x3B000000 ∷ 0x3B800000 ∷ 0x3C000000 ∷ 0x3C800000 ∷ 0x3D000000 ∷ 0x3D800000 ∷ []

abbrev is_units : ℤ → ℕ → Bool
is_units (pos n) m = eqb n m
is_units (negsuc n) m = false

units_are : (z : ℤ) (m : ℕ) → T (is_units z m) → z ≡ pos m
units_are (pos n) m t = ap pos (eqb→eq n m t)
units_are (negsuc n) m t = absurd t

pub amount_right : (c : ℕ) → c < 8 → value_of (amount_in table c) ≡ pos (units_of c)
unfolding units_of value_of val
amount_right c h = units_are (value_of (amount_in table c)) (units_of c) (at (λ i x. is_units (value_of x) (units_of i)) table tt c h)

pub table_is : table ≡ fixed_amounts
unfolding units_of amount_of fixed_amounts encode expo size
table_is = refl
