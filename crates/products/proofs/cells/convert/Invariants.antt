-- `products::cells::convert` meets its contract: the cells passed are converted, in both slices, and a cell without a fault is never refused.
use Rattle.matrices.specs.Matrix.{of_bounds, mid_at, rad_at}
use Rattle.matrices.proofs.Fronts.{Filled}
use Rattle.products.proofs.cells.convert.Given as goal

abbrev pub invariant-loop-c : goal.invariant-loop-c
invariant-loop-c l = Filled l.c (mid_at (of_bounds l.lowers l.uppers)) l.initial.mids l.mids × Filled l.c (rad_at (of_bounds l.lowers l.uppers)) l.initial.rads l.rads
