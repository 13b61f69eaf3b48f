-- `binary32::funnel::round`: `pattern` makes the pattern of the significand that `cut` found.
use Rattle.std.proofs.Common.{◌∙◌}
use Rattle.binary32.specs.Steps.{exact}
use Rattle.binary32.proofs.funnel.round.Goals as goal

pub pattern-requires : goal.pattern-requires
pattern-requires g c = (g.met.D.Direction.laws.few _ _ c.cut.ensures, c.cut.ensures.low)

pub returns-in-Some : goal.returns-in-Some
unfolding exact
returns-in-Some g c = rw c.in-Some.is (c.pattern.ensures ∙ g.met.D.Direction.laws.cuts _ _ c.cut.ensures)
