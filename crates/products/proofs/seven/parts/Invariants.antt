-- `products::seven::parts` meets its contract: its loop keeps the sums with the parts of the pairs passed, all numbers.
use Prim.Native.Nat.{◌-◌, ◌≤◌}
use Rattle.products.specs.Continued.{PartsSum}
use Rattle.products.specs.Line.{line_of}
use Rattle.products.proofs.seven.parts.Given as goal

abbrev pub invariant-loop-l : goal.invariant-loop-l
invariant-loop-l l = (l.l ≤ l.line.k) × PartsSum (line_of l.line) l.initial.s l.l l.s

abbrev pub decreases-loop-l : goal.decreases-loop-l
decreases-loop-l l = l.line.k - l.l
