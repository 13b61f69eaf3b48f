-- `Operands::step` meets its contract: a pair that is passed over, and the sums after a pair.
use mathlib.Core.Path.{sym, ◌∙◌}
use Rattle.products.specs.Spot.{spot}
use Rattle.products.proofs.FourEntry.{middle_below, middle_after, middle_skip}
use Rattle.products.proofs.Turns.{pair}
use Rattle.products.proofs.operands.Operands.step.Goals as goal

pub returns-then-not-is_nonzero : goal.returns-then-not-is_nonzero
returns-then-not-is_nonzero g c =
    middle_skip (spot c.args.self c.args.i c.args.j) c.args.l c.args.s c.requires.4 (sym c.is_nonzero.ensures ∙ c.if-not-is_nonzero.true)

pub step-requires : goal.step-requires
step-requires g c =
    let p = spot c.args.self c.args.i c.args.j in
    (middle_below p _ _ c.requires.4, (pair c.args.self.shape.m p c.requires.0 c.requires.1 c.requires.2 c.args.l c.requires.3).cell_first.mid)

pub returns : goal.returns
returns g c =
    let p = spot c.args.self c.args.i c.args.j in
    middle_after p c.args.l _ c.args.s (pair c.args.self.shape.m p c.requires.0 c.requires.1 c.requires.2 c.args.l c.requires.3) c.requires.4 c.step.result c.step.ensures c.requires.3
