-- `records::put_cells` meets its contract: the records of the first p cells stand behind the first sixteen bytes.
use mathlib.Core.Path.{◌≡◌}
use mathlib.Core.List.{◌++◌}
use Prim.Native.Nat.{◌+◌, ◌*◌}
use lib.ListN.{take}
use Rattle.sheets.specs.Sheet.{count_to, records_to}
use Rattle.sheets.proofs.Fronts.{Front}
use Rattle.sheets.proofs.records.put_cells.Given as goal

abbrev pub invariant-loop-p : goal.invariant-loop-p
invariant-loop-p l =
    (l.k ≡ count_to l.matrix.lowers.now l.matrix.uppers.now l.p) × Front (16 * (l.k + 1)) (take 16 l.initial.out ++ records_to l.matrix.columns l.total l.matrix.lowers.now l.matrix.uppers.now l.p) l.initial.out l.out
