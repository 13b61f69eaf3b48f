-- `running::Running::show` meets its contract: it shows the entry over all pairs taken.
use Rattle.running.specs.Value.{show_of}
use Rattle.running.proofs.Histories.{shows_entry}
use Rattle.running.proofs.Running.show.Goals as goal

pub returns-clause-history : goal.returns-clause-history
unfolding show_of
returns-clause-history c = shows_entry c.args.self
