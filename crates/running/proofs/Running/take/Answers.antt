-- `running::Running::take` meets its contract: after any calls its answer is that of the pairs taken.
use Rattle.std.proofs.Common.{◌≡◌, ◌+◌, arith}
use Rattle.std.proofs.lemmas.Grind.{common_steps}
use Rattle.refusals.specs.Answer.{Answer, gives}
use Rattle.running.specs.declared.Running.{Running}
use Rattle.running.specs.Value.{take_of}
use Rattle.running.proofs.Calls.{answers_said}
use Rattle.running.proofs.Running.take.Goals as goal

pub returns-in_err-lower-clause-history : goal.returns-in_err-lower-clause-history
unfolding take_of
returns-in_err-lower-clause-history c =
    let a = c.args in
    let e : c.from_residual.result ≡ take_of a.self a.a a.b = grind (arith, common_steps) in
    answers_said a.self a.a a.b c.from_residual.result e

pub returns-clause-history : goal.returns-clause-history
unfolding take_of
returns-clause-history c =
    let a = c.args in
    let n : Answer Running = gives (record { lower = c.in_ok-lower.lower; upper = c.in_ok-lower.upper; pairs = a.self.pairs + 1; amounts = a.self.amounts }) in
    let e : n ≡ take_of a.self a.a a.b = grind (arith, common_steps) in
    answers_said a.self a.a a.b n e
