-- `Three::step` meets its contract: a pair that is passed over, and the sums after a pair.
use mathlib.Core.Path.{refl, sym, ◌∙◌}
use Rattle.products.specs.Spot.{spot}
use Rattle.products.proofs.ThreeSteps.{first_skip, three_goes}
use Rattle.products.proofs.Turns.{pair, scaled}
use Rattle.products.proofs.three.ThreeSteps.step.Goals as goal

pub returns-then-not-adds : goal.returns-then-not-adds
returns-then-not-adds c =
    let p = spot c.args.self.of c.args.i c.args.j in
    first_skip p c.args.l _ c.args.s c.requires.5 (scaled c.args.self.of.shape.m p c.requires.0.0 c.requires.1 c.requires.2 _ c.requires.0.1 c.args.l c.requires.3) (sym c.adds.ensures ∙ c.if-not-adds.true)

pub step-requires : goal.step-requires
step-requires c =
    (pair c.args.self.of.shape.m (spot c.args.self.of c.args.i c.args.j) c.requires.0.0 c.requires.1 c.requires.2 c.args.l c.requires.3).cell_first.mid

pub returns : goal.returns
returns c =
    let p = spot c.args.self.of c.args.i c.args.j in
    let P = pair c.args.self.of.shape.m p c.requires.0.0 c.requires.1 c.requires.2 c.args.l c.requires.3 in
    let d = scaled c.args.self.of.shape.m p c.requires.0.0 c.requires.1 c.requires.2 _ c.requires.0.1 c.args.l c.requires.3 in
    three_goes p _ refl c.requires.2 c.args.l _ _ c.args.s P c.requires.5 d c.requires.3 c.step.result c.step.ensures
