-- `cells::coupling_read` makes a number of sizes that are small.
use mathlib.Core.Path.{sym}
use Rattle.sheets.proofs.Answers.{done_tells}
use Rattle.coupling.proofs.Calls.{small_sizes}
use Rattle.coupling.proofs.cells.coupling_read.Goals as goal

pub sizes_code-requires : goal.sizes_code-requires
sizes_code-requires c = let r = c.read in small_sizes r.result r.ensures.answer (λ m n e. (done_tells _ _ _ m n (sym e)).sized)
