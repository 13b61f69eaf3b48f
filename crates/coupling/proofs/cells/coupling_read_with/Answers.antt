-- `cells::coupling_read_with` makes a number of sizes that are small.
use mathlib.Core.Path.{sym}
use Rattle.sheets.proofs.Loads.{with_tells}
use Rattle.coupling.proofs.Calls.{small_sizes}
use Rattle.coupling.proofs.cells.coupling_read_with.Goals as goal

pub sizes_code-requires : goal.sizes_code-requires
sizes_code-requires c = let r = c.read_with in small_sizes r.result r.ensures.answer (λ m n e. (with_tells _ _ _ _ m n (sym e)).1.sized)
