-- Method 1's two sums as they run along a row and a column: where they start, and the step that adds a pair of cells. Definitions only.
use Rattle.std.proofs.Math.Option.{Option, some, bind}
use Rattle.std.specs.Prelude.{pos, ◌+ℤ◌}
use Rattle.enclosure.specs.Arithmetic.{Arithmetic}
use Rattle.enclosure.specs.Cell.{Cell}
use Rattle.enclosure.specs.Methods.{Range, least_term, greatest_term}

-- both sums before the first pair
abbrev pub zero_range : Range
zero_range = record { lower = pos 0; upper = pos 0 }

module _ (A : Arithmetic) where
  open A use {up, down}

  -- the sums with a pair added: the least corner product to the lower one, rounded down, the greatest to the upper one, rounded up.
  -- None where either is refused
  unfoldable pub add_pair : Range → Cell → Cell → Option Range
  add_pair s a b =
      bind (bind (least_term A a b) λ t. down 1 (s.lower +ℤ t)) λ l. bind (bind (greatest_term A a b) λ t. up 1 (s.upper +ℤ t)) λ u.
      some (record { lower = l; upper = u })
