-- The promise on one entry, over whole numbers: it encloses the exact results, by method 4 it is not too wide, and by method 5 the error of its centre is
-- bounded. Definitions only.
-- The entry has k pairs of cells: a l of the row and b l of the column, for l from 0 to k - 1; e is the entry that a method returned.
-- Bounds are in units, of which Q make 1 (2^149 for binary32), and products of two bounds in 1 / Q of a unit (2^-298).
use Rattle.std.specs.Prelude.{◌≡◌, ℕ, ◌+◌, ◌*◌, ◌^◌, ◌<◌, ℤ, pos, ◌+ℤ◌, ◌*ℤ◌, ◌-ℤ◌}
use Rattle.algebra.specs.Order.{◌≼◌}
use Rattle.algebra.specs.Sum.{Σ<}
use Rattle.rounding.specs.Format.{Format, Num, binary32, units}
use Rattle.enclosure.specs.Arithmetic.{of}
use Rattle.enclosure.specs.NaturalSum.{Σℕ}
use Rattle.enclosure.specs.Cell.{Cell, largest, least_corner, greatest_corner}
use Rattle.enclosure.specs.Conversion.{cell_of}
use Rattle.enclosure.specs.Methods.{Method, four, five, Range}
use Rattle.enclosure.specs.CentreError.{CentreWithin}
use Rattle.enclosure.specs.Fraction.{Fraction, ◌⊛◌, fsum, In}

-- ---- a valid cell: its bounds are numbers of the format, the lower not above the upper, and midpoint and radius are computed in the format
pub record Valid (f : Format) (c : Cell) : Type 0 where
  pub low_number : Num f c.low
  pub high_number : Num f c.high
  pub ordered : c.low ≼ c.high
  pub converted : c ≡ cell_of (of f) c.low c.high

-- the first k cells are valid
abbrev pub ValidCells : Format → ℕ → (ℕ → Cell) → Type 0
ValidCells f k a = (l : ℕ) → l < k → Valid f (a l)

-- ---- enclosure

-- x has one fraction from each of the first k cells, not below its lower bound and not above its upper one; the choices are independent
abbrev pub Picked : (Q k : ℕ) → (ℕ → Cell) → (ℕ → Fraction) → Type 0
Picked Q k a x = (l : ℕ) → l < k → In Q (a l).low (a l).high (x l)

-- x 0 × y 0 + .. + x (k - 1) × y (k - 1)
abbrev pub sum_of_products : ℕ → (ℕ → Fraction) → (ℕ → Fraction) → Fraction
sum_of_products k x y = fsum k (λ l. x l ⊛ y l)

-- for all fractions picked from the cells of the row and of the column, the sum of the k products lies in the entry
abbrev pub Encloses : (Q k : ℕ) (a b : ℕ → Cell) → Range → Type 0
Encloses Q k a b e = (x y : ℕ → Fraction) → Picked Q k a x → Picked Q k b y → In Q e.lower e.upper (sum_of_products k x y)

-- ---- width

-- the bounds of the exact range: the sums of the least and of the greatest corner products. H is half of exact_upper - exact_lower
unfoldable pub exact_lower : (k : ℕ) (a b : ℕ → Cell) → ℤ
exact_lower k a b = Σ< k (λ l. least_corner (a l) (b l))

unfoldable pub exact_upper : (k : ℕ) (a b : ℕ → Cell) → ℤ
exact_upper k a b = Σ< k (λ l. greatest_corner (a l) (b l))

-- S: the sum over the k pairs of the product of the two cells' largest magnitudes
unfoldable pub S : (k : ℕ) (a b : ℕ → Cell) → ℕ
S k a b = Σℕ k (λ l. largest (a l) * largest (b l))

-- T: the sum of these 2k magnitudes
unfoldable pub T : (k : ℕ) (a b : ℕ → Cell) → ℕ
T k a b = Σℕ k (λ l. largest (a l) + largest (b l))

-- The bound for binary32: the width of the entry is at most 3 × H + (k + 4) × S / 2^20 + T / 2^147 + k / 2^146.
-- Here upper - lower and T are in units of 2^-149; exact_upper - exact_lower, which is 2 × H, and S are in 2^-298. So the bound is
--   (upper - lower) / 2^149  ≤  3 × (exact_upper - exact_lower) / 2^299 + (k + 4) × S / 2^318 + T / 2^296 + k / 2^146,
-- and both sides are multiplied by 2^319 to be whole: the left factor is 2^170 = 2^21 × 2^149, the right ones are 2^20, 2, 2^23 and 2^173.
unfoldable pub WidthFour : (k : ℕ) (a b : ℕ → Cell) → Range → Type 0
WidthFour k a b e =
    pos (2 ^ 21) *ℤ (e.upper -ℤ e.lower) *ℤ pos (2 ^ 149)
    ≼ pos (3 * 2 ^ 20) *ℤ (exact_upper k a b -ℤ exact_lower k a b) +ℤ pos (2 * (k + 4) * S k a b + 2 ^ 23 * T k a b + k * 2 ^ 173)

-- ---- the promise as a whole, on an entry e that method m returned in binary32
pub record Kept (m : Method) (k : ℕ) (a b : ℕ → Cell) (e : Range) : Type 0 where
  pub encloses : Encloses (units binary32) k a b e
  pub width : m ≡ four → WidthFour k a b e
  pub centre : m ≡ five → CentreWithin (of binary32) k a b
