-- `running_value::coupling_running_start` keeps its promise over histories.
use Rattle.std.proofs.Common.{sym, subst}
use Rattle.coupling.specs.RunningValue.{Begins}
use Rattle.coupling.proofs.RunningWords.{start_begins}
use Rattle.coupling.proofs.running_value.coupling_running_start.Goals as goal

pub returns-clause-begins : goal.returns-clause-begins
returns-clause-begins c = let d = c.args.value.now in subst (Begins d) (sym c.start.ensures.left) (start_begins d)
