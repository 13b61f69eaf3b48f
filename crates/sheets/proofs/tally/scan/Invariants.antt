-- `tally::scan` meets its contract: the first p cells have no fault, and `count` of them are not [0, 0].
use mathlib.Core.Path.{◌≡◌}
use Prim.Native.Nat.{◌≤◌}
use Rattle.refusals.specs.Answer.{gives}
use Rattle.sheets.specs.Writing.{scan_to}
use Rattle.sheets.proofs.tally.scan.Given as goal

abbrev pub invariant-loop-p : goal.invariant-loop-p
invariant-loop-p l = (l.count ≤ l.p) × (scan_to l.matrix.columns l.matrix.lowers.now l.matrix.uppers.now l.p ≡ gives l.count)
