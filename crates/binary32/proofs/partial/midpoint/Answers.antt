-- `binary32::partial::midpoint`: `round` rounds what was found, which rounds as the exact value does.
use Rattle.std.proofs.Common.{ap, ◌∙◌}
use Rattle.binary32.specs.Number.{hold}
use Rattle.binary32.proofs.partial.midpoint.Goals as goal

pub returns : goal.returns
returns g c = c.round.ensures ∙ ap (hold g.D.Direction.NONE) (g.met.D.Direction.laws.exacts _ _ c.total.ensures)
