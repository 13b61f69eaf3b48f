-- `Three::finish` meets its contract: the radius, with 2^-125 between its two sums, and the entry.
use mathlib.Core.Path.{refl, sym, ◌∙◌}
use Rattle.unpacked.proofs.Opposites.{opposite_number}
use Rattle.products.specs.Spot.{spot}
use Rattle.products.proofs.NearestSteps.{tiny_holds, tiny_below}
use Rattle.products.proofs.ThreeSteps.{tiny_next, tiny_sum, tiny_number, tiny_none, three_tiny, three_outer, three_holds}
use Rattle.products.proofs.Turns.{radius_runs, radius_none}
use Rattle.products.proofs.three.ThreeSteps.finish.Goals as goal

pub plus_negative-inner-requires : goal.plus_negative-inner-requires
plus_negative-inner-requires c =
    let s = c.args.s in
    let t = c.minus_tiny in
    (s.radius_number, (tiny_holds t.result t.ensures).part, s.below, tiny_below t.result t.ensures)

pub returns-then-is_none : goal.returns-then-is_none
returns-then-is_none c =
    let p = spot c.args.self.of c.args.i c.args.j in
    let T = tiny_next p c.args.s c.minus_tiny.result c.plus_negative-inner.result c.requires.4 c.minus_tiny.ensures c.plus_negative-inner.ensures in
    three_tiny p _ refl c.requires.2 (tiny_none p _ T (sym c.is_none.ensures ∙ c.if-is_none.true))

pub outer-radius-requires : goal.outer-radius-requires
outer-radius-requires c =
    let p = spot c.args.self.of c.args.i c.args.j in
    let T = tiny_next p c.args.s c.minus_tiny.result c.plus_negative-inner.result c.requires.4 c.minus_tiny.ensures c.plus_negative-inner.ensures in
    let a = tiny_number p _ (tiny_sum p _ T (sym c.is_none.ensures ∙ c.if-is_none.false)) in
    (a.0, a.1)

pub returns-then-is_none-2 : goal.returns-then-is_none-2
returns-then-is_none-2 c =
    let p = spot c.args.self.of c.args.i c.args.j in
    let T = tiny_next p c.args.s c.minus_tiny.result c.plus_negative-inner.result c.requires.4 c.minus_tiny.ensures c.plus_negative-inner.ensures in
    let Y = tiny_sum p _ T (sym c.is_none.ensures ∙ c.if-is_none.false) in
    three_outer p _ refl c.requires.2 _ Y
    (radius_none c.args.self.of.shape.m p c.requires.0.0 c.requires.1 c.requires.2 _ c.requires.0.2 c.plus_negative-inner.result _ c.outer-radius.ensures (sym c.is_none-2.ensures ∙ c.if-is_none-2.true))

pub opposite-requires : goal.opposite-requires
opposite-requires c = c.args.s.centre_number.normal

pub ends-requires : goal.ends-requires
ends-requires c =
    let p = spot c.args.self.of c.args.i c.args.j in
    let f = c.args.s.centre_number in
    let R = radius_runs c.args.self.of.shape.m p c.requires.0.0 c.requires.1 c.requires.2 _ c.requires.0.2 c.plus_negative-inner.result _ c.outer-radius.ensures (sym c.is_none-2.ensures ∙ c.if-is_none-2.false) in
    (f, opposite_number f c.opposite.ensures, R.number)

pub returns : goal.returns
returns c =
    let p = spot c.args.self.of c.args.i c.args.j in
    let T = tiny_next p c.args.s c.minus_tiny.result c.plus_negative-inner.result c.requires.4 c.minus_tiny.ensures c.plus_negative-inner.ensures in
    let Y = tiny_sum p _ T (sym c.is_none.ensures ∙ c.if-is_none.false) in
    let R = radius_runs c.args.self.of.shape.m p c.requires.0.0 c.requires.1 c.requires.2 _ c.requires.0.2 c.plus_negative-inner.result _ c.outer-radius.ensures (sym c.is_none-2.ensures ∙ c.if-is_none-2.false) in
    three_holds p _ refl c.requires.2 c.args.s _ c.opposite.result _ c.ends.result c.requires.4 Y c.opposite.ensures R c.ends.ensures
