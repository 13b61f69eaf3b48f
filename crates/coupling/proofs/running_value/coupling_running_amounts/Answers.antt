-- `running_value::coupling_running_amounts` keeps its promise over histories.
use Rattle.std.proofs.Common.{sym, subst}
use Rattle.running.specs.History.{exchange}
use Rattle.coupling.specs.RunningValue.{GoesOn}
use Rattle.coupling.proofs.RunningWords.{amounts_go_on}
use Rattle.coupling.proofs.running_value.coupling_running_amounts.Goals as goal

pub returns-clause-goes_on : goal.returns-clause-goes_on
returns-clause-goes_on c = let d = c.args.value.now in let l = c.args.load.now in subst (GoesOn (λ h. exchange h l) d) (sym c.exchange.ensures.left) (amounts_go_on d l)
