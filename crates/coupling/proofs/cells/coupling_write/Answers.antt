-- `cells::coupling_write` makes a number of a length that fits 32 bits.
use mathlib.Core.Path.{sym}
use Rattle.sheets.proofs.Rooms.{length_small}
use Rattle.coupling.proofs.Calls.{short}
use Rattle.coupling.proofs.cells.coupling_write.Goals as goal

pub length_code-requires : goal.length_code-requires
length_code-requires c = short c.put.result c.put.ensures.answer (λ n e. length_small _ _ _ _ _ n (sym e))
