-- `binary32::midpoints::near_up`: `pattern` makes the patterns of two of the significands that `cut` found.
use Rattle.std.proofs.Common.{ap, Some, ◌∙◌}
use Rattle.binary32.specs.Number.{hold_up, hold_near}
use Rattle.binary32.specs.Operations.{with₂, lifted}
use Rattle.binary32.specs.Steps.{exact, Rounds}
use Rattle.binary32.proofs.midpoints.near_up.Goals as goal

pub returns : goal.returns
unfolding exact
returns c =
    let x : Rounds (λ way. with₂ (lifted 148 way) c.args.a c.args.b) (Some c.in-Some.x) = rw c.in-Some.is at c.total.ensures in
    record {
      nears = c.pattern.ensures ∙ c.cut-c.ensures.nears ∙ ap hold_near x.nears;
      ups = c.pattern-2.ensures ∙ c.cut-c.ensures.ups ∙ ap hold_up x.ups;
    }
