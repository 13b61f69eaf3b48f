-- From bounds to midpoint and radius. Definitions only.
use Rattle.std.proofs.Math.Option.{get_or}
use Rattle.std.specs.Prelude.{ℤ, pos, ◌+ℤ◌, ◌-ℤ◌}
use Rattle.algebra.specs.Extremes.{maxℤ}
use Rattle.enclosure.specs.Arithmetic.{Arithmetic}
use Rattle.enclosure.specs.Cell.{Cell}

-- m, the exact midpoint of a and b, rounded to nearest. For numbers a and b neither m nor r overflows (proofs/Conversion): the default 0 is never used
unfoldable pub mid : Arithmetic → ℤ → ℤ → ℤ
mid A a b = get_or (A.near 2 (a +ℤ b)) (pos 0)

-- the larger of m - a and b - m: the distance from m to the farther bound
abbrev pub farther : ℤ → ℤ → ℤ → ℤ
farther a b m = maxℤ (m -ℤ a) (b -ℤ m)

-- r, this distance rounded up
unfoldable pub rad : Arithmetic → ℤ → ℤ → ℤ
rad A a b = get_or (A.up 1 (farther a b (mid A a b))) (pos 0)

-- the cell with the bounds a and b
abbrev pub cell_of : Arithmetic → ℤ → ℤ → Cell
cell_of A a b = record { low = a; high = b; mid = mid A a b; rad = rad A a b }
