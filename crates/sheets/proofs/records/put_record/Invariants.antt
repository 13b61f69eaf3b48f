-- `records::put_record` meets its contract: the first j bytes stand in their positions.
use mathlib.Core.Path.{◌≡◌}
use lib.Seq.{paste}
use Rattle.sheets.proofs.records.put_record.Given as goal

abbrev pub invariant-loop-j : goal.invariant-loop-j
invariant-loop-j l = l.out ≡ paste l.initial.out l.at l.bytes l.j
