-- `CentreSize::sum_pairs` meets its contract: its loop keeps the sums over the pairs passed, both numbers.
use Prim.Native.Nat.{◌-◌, ◌≤◌}
use Rattle.products.specs.CentreSize.{SizedSum}
use Rattle.products.specs.Paired.{pairs_of}
use Rattle.products.proofs.centre_size.CentreSize.sum_pairs.Given as goal

abbrev pub invariant-loop-l : goal.invariant-loop-l
invariant-loop-l l = (l.l ≤ l.pairs.k) × SizedSum (pairs_of l.pairs) l.initial.s l.l l.s

abbrev pub decreases-loop-l : goal.decreases-loop-l
decreases-loop-l l = l.pairs.k - l.l
