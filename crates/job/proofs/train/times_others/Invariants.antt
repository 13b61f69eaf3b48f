-- `train::times_others` meets its contract: one step of the fold for each sheet.
use mathlib.Core.Path.{◌≡◌}
use Prim.Native.Nat.{◌-◌, ◌≤◌}
use Rattle.job.specs.Factor.{in_front}
use Rattle.job.specs.Fold.{fold_from}
use Rattle.job.specs.Train.{sheets_in}
use Rattle.job.proofs.train.times_others.Given as goal

abbrev pub invariant-loop-position : goal.invariant-loop-position
invariant-loop-position l =
    (l.product.rows ≤ 32) × (l.product.columns ≤ 32)
    × (fold_from l.method 9 2 (in_front l.fn.first.rows l.fn.first.columns l.initial.lo l.initial.up) (sheets_in (l.count - 1) l.s)
    ≡ fold_from l.method 9 l.position (in_front l.product.rows l.product.columns l.lo l.up) (sheets_in (l.count - (l.position - 1)) l.rest))
