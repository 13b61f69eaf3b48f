-- Worked examples beside those that 01 states, computed: entries by methods 4, 3 and 5, the numbers of the width, and a pick. Assumes nothing.
use mathlib.Core.Path.{◌≡◌, refl}
use mathlib.Core.Option.{some, bind}
use Prim.Native.Nat.{ℕ, zero, suc, ◌+◌, ◌-◌, ◌*◌, ◌^◌}
use lib.IntN.{ℤ, pos, neg_ℤ}
use lib.Dec.{lit<}
use lib.Ieee.{size}
use lib.Signed.{le_z_yes}
use Rattle.algebra.specs.Extremes.{minℤ, maxℤ}
use Rattle.algebra.specs.Sum.{Σ<}
use Rattle.rounding.specs.Format.{binary32, units, MAX, expo}
use Rattle.rounding.specs.Rounding.{ceil, lo, hi, nr, up, down, near}
use Rattle.enclosure.specs.Arithmetic.{of}
use Rattle.enclosure.specs.Sums.{sum}
use Rattle.enclosure.specs.Cell.{Cell, largest, least_corner, greatest_corner}
use Rattle.enclosure.specs.Conversion.{mid, rad, cell_of}
use Rattle.enclosure.specs.Methods.{three, four, five, Range, part, entry, ends, radius₃, radius₄, radius₅, error_bound, error₅, size₅, centre, centre₇, total}
use Rattle.enclosure.specs.Methods.{inner_term, outer_radius, outer_term, raised_radius, raised_term, largest_term}
use Rattle.enclosure.specs.Methods.{mid_term, part_term, mid_size_term, part_size_term}
use Rattle.enclosure.specs.Fraction.{In}
use Rattle.enclosure.specs.Demand.{exact_lower, exact_upper, S, T, WidthFour}

-- in units: n is `whole n`, n / 2^j is `over n j`
abbrev whole : ℕ → ℤ
whole n = pos (n * units binary32)

abbrev over : ℕ → ℕ → ℤ
over n j = pos (n * 2 ^ (149 - j))

-- the cell [a, b]
abbrev cell : ℤ → ℤ → Cell
cell a b = cell_of (of binary32) a b

-- ---- entries of one pair
abbrev range : ℤ → ℤ → Range
range l u = record { lower = l; upper = u }

-- one unit × one unit by method 4: the product lies between the centre rounded down and the centre rounded up
pub four_worked : entry (of binary32) four 1 (λ l. cell (pos 1) (pos 1)) (λ l. cell (pos 1) (pos 1)) ≡ some (range (pos 0) (pos 1))
unfolding entry ends radius₄ centre total sum bind inner_term outer_radius outer_term mid_term mid rad maxℤ up down near lo hi nr ceil expo size MAX
four_worked = refl

-- one unit × [-1/8, 5/4] by method 3: without the 2^24 units, 2^-125, it would be [0, 2] units, and the product -1/8 of a unit lies outside
pub three_worked : entry (of binary32) three 1 (λ l. cell (pos 1) (pos 1)) (λ l. cell (neg_ℤ (over 1 3)) (over 5 2))
    ≡ some (range (neg_ℤ (pos (2 ^ 24 + 2))) (pos (2 ^ 24 + 4)))
unfolding entry ends radius₃ centre total sum bind raised_radius raised_term outer_radius outer_term mid_term mid rad maxℤ up down near lo hi nr ceil expo size MAX
three_worked = refl

-- one unit × one unit by method 5: C and G are 0, whose spacing is a unit, so E is 2^23 + 2 units; R is one unit and 2 × E, rounded up.
-- [0, 2] × [0, 2]: C and G are 2, whose spacing is 2^-22, so E is a little above 2^-21; R is 4 - 2 and 2 × E, rounded up to 2 + 5 / 2^22
-- 1 × 1 + 1 × -1: C is 0, but G is 2, so E is a little above 3 × 2^-22; R is 2 × E
abbrev opposed : ℕ → Cell
opposed zero = cell (whole 1) (whole 1)
opposed (suc l) = cell (neg_ℤ (whole 1)) (neg_ℤ (whole 1))

pub five_worked : (entry (of binary32) five 1 (λ l. cell (pos 1) (pos 1)) (λ l. cell (pos 1) (pos 1))
    ≡ some (range (neg_ℤ (pos (2 ^ 24 + 6))) (pos (2 ^ 24 + 6))))
    × (entry (of binary32) five 1 (λ l. cell (whole 0) (whole 2)) (λ l. cell (whole 0) (whole 2))
    ≡ some (range (neg_ℤ (over 5 22)) (over (4 * 2 ^ 21 + 3) 21)))
    × (entry (of binary32) five 2 (λ l. cell (whole 1) (whole 1)) opposed ≡ some (range (neg_ℤ (over (3 * 2 ^ 22 + 1) 43)) (over (3 * 2 ^ 22 + 1) 43)))
unfolding entry ends radius₅ error₅ error_bound size₅ centre₇ centre total sum bind largest_term outer_radius mid_term part_term mid_size_term part_size_term part mid rad minℤ maxℤ up down near lo hi nr ceil expo size MAX
five_worked = (refl, refl, refl)

-- ---- the numbers of the width, of two pairs: [1, 2] × [-1, 3] and [0, 2] × [0, 2]
abbrev row : ℕ → Cell
row zero = cell (whole 1) (whole 2)
row (suc l) = cell (whole 0) (whole 2)

abbrev column : ℕ → Cell
column zero = cell (neg_ℤ (whole 1)) (whole 3)
column (suc l) = cell (whole 0) (whole 2)

-- in units of 2^-298 the exact range is [-2, 10] and S is 10; in units T is 9
pub sizes_worked : (exact_lower 2 row column ≡ neg_ℤ (pos (2 * 2 ^ 298))) × (exact_upper 2 row column ≡ pos (10 * 2 ^ 298))
    × (S 2 row column ≡ 10 * 2 ^ 298) × (T 2 row column ≡ 9 * 2 ^ 149)
unfolding exact_lower exact_upper S T Σ< least_corner greatest_corner largest minℤ maxℤ mid rad up lo hi ceil expo size MAX
sizes_worked = (refl, refl, refl, refl)

-- [0, 2] × [0, 2] by method 4 is [-2, 4]: as wide as 3 × H, and so within the bound
pub width_worked : WidthFour 1 (λ l. cell (whole 0) (whole 2)) (λ l. cell (whole 0) (whole 2)) (range (neg_ℤ (whole 2)) (whole 4))
unfolding WidthFour exact_lower exact_upper S T Σ< least_corner greatest_corner largest minℤ maxℤ mid rad up lo hi ceil expo size MAX
width_worked = le_z_yes tt

-- ---- a pick need not be whole: 5/3 lies in [0, 2]
pub pick_worked : In (units binary32) (whole 0) (whole 2) (record { num = pos 5; den = 3; above = lit< tt })
pick_worked = record { not_below = le_z_yes tt; not_above = le_z_yes tt }
