-- `running_value::coupling_running_take` keeps its promise over histories.
use Rattle.std.proofs.Common.{sym, subst}
use Rattle.running.specs.History.{take}
use Rattle.coupling.specs.RunningValue.{gauged, GoesOn}
use Rattle.coupling.proofs.RunningWords.{take_goes_on}
use Rattle.coupling.proofs.running_value.coupling_running_take.Goals as goal

pub returns-clause-goes_on : goal.returns-clause-goes_on
returns-clause-goes_on c = let d = c.args.value.now in let a = c.args in let x = gauged a.a_lower a.a_upper a.a_class in let y = gauged a.b_lower a.b_upper a.b_class in subst (GoesOn (λ h. take h x y) d) (sym c.take.ensures.left) (take_goes_on d x y)
