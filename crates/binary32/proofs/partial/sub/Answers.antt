-- `binary32::partial::sub`: to subtract is to add the pattern with the other sign (`sub_is`).
use Rattle.std.proofs.Common.{ap, ◌∙◌, arith}
use Rattle.binary32.specs.Number.{hold}
use Rattle.binary32.specs.Operations.{add, with₂}
use Rattle.binary32.proofs.Negation.{sub_is}
use Rattle.binary32.proofs.partial.sub.Goals as goal

pub returns : goal.returns
returns g c =
    let d = g.D.Direction in
    c.add.ensures ∙ ap (λ p. hold d.NONE (with₂ (add d.way) c.args.a p)) c.negate.ensures
    ∙ ap (hold d.NONE) (sub_is d.way c.args.a c.args.b (omega arith))
