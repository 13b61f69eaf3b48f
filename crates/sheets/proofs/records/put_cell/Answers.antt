-- `records::put_cell`: a cell that is [0, 0] or refused leaves the buffer as it is.
use Rattle.std.proofs.Common.{◌≡◌, rules}
use Rattle.std.specs.Prelude.{None}
use Rattle.refusals.specs.Answer.{gives}
use Rattle.sheets.specs.Sheet.{tally, cell_bytes}
use Rattle.sheets.proofs.CellBytes.{nothing}
use Rattle.sheets.proofs.records.put_cell.Goals as goal

pub returns-in_default : goal.returns-in_default
unfolding tally cell_bytes
returns-in_default c =
    let e : c.handed.result ≡ gives None = search rules in
    rw (← c.handed.ensures, e) (nothing _ _ _)

pub returns-in_default-2 : goal.returns-in_default-2
unfolding tally cell_bytes
returns-in_default-2 c = rw (← c.handed.ensures, c.in_default.is) (nothing _ _ _)
