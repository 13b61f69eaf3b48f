-- `products::radius::outer` meets its contract: its loop keeps the radius with the products of the pairs passed, a number.
use Prim.Native.Nat.{◌-◌, ◌≤◌}
use lib.IntN.{neg_ℤ}
use Rattle.unpacked.specs.Number.{worth}
use Rattle.products.specs.Line.{line_of}
use Rattle.products.proofs.Continuing.{GrowthRuns}
use Rattle.products.proofs.radius.outer.Given as goal

abbrev pub invariant-loop-l : goal.invariant-loop-l
invariant-loop-l l = (l.l ≤ l.line.k) × GrowthRuns (line_of l.line) (neg_ℤ (worth l.initial.r)) l.l l.r

abbrev pub decreases-loop-l : goal.decreases-loop-l
decreases-loop-l l = l.line.k - l.l
