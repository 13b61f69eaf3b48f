-- `Four::finish` meets its contract: the radius and the entry.
use mathlib.Core.Path.{refl, sym, ◌∙◌}
use Rattle.products.specs.Spot.{spot}
use Rattle.products.proofs.FourEntry.{middle_below, four_outer, four_holds}
use Rattle.products.proofs.Turns.{radius_runs, radius_none}
use Rattle.products.proofs.four.FourSteps.finish.Goals as goal

pub outer-radius-requires : goal.outer-radius-requires
outer-radius-requires c =
    let p = spot c.args.self.of c.args.i c.args.j in
    (c.args.s.radius_number, middle_below p _ _ c.requires.4)

pub returns-then-is_none : goal.returns-then-is_none
returns-then-is_none c =
    let p = spot c.args.self.of c.args.i c.args.j in
    four_outer p _ refl c.requires.2 _ c.requires.4
    (radius_none c.args.self.of.shape.m p c.requires.0.0 c.requires.1 c.requires.2 _ c.requires.0.1 _ _ c.outer-radius.ensures (sym c.is_none.ensures ∙ c.if-is_none.true))

pub ends-requires : goal.ends-requires
ends-requires c =
    let p = spot c.args.self.of c.args.i c.args.j in
    let R = radius_runs c.args.self.of.shape.m p c.requires.0.0 c.requires.1 c.requires.2 _ c.requires.0.1 c.args.s.radius _ c.outer-radius.ensures (sym c.is_none.ensures ∙ c.if-is_none.false) in
    (c.args.s.lower_number, c.args.s.opposed_number, R.number)

pub returns : goal.returns
returns c =
    let p = spot c.args.self.of c.args.i c.args.j in
    let R = radius_runs c.args.self.of.shape.m p c.requires.0.0 c.requires.1 c.requires.2 _ c.requires.0.1 c.args.s.radius _ c.outer-radius.ensures (sym c.is_none.ensures ∙ c.if-is_none.false) in
    four_holds p _ refl c.requires.2 c.args.s _ c.ends.result c.requires.4 R c.ends.ensures
