-- `Seven::finish` meets its contract: the radius, all three sums continued with the parts, and the entry.
use mathlib.Core.Path.{refl, sym, ◌∙◌, subst}
use Prim.Native.Nat.{◌+◌, ◌*◌}
use Rattle.enclosure.specs.Methods.{seven}
use Rattle.products.specs.Running.{HoldsRange}
use Rattle.products.specs.MidRad.{entries_of}
use Rattle.products.specs.Spot.{spot}
use Rattle.products.proofs.FourEntry.{middle_below}
use Rattle.products.proofs.SevenEntry.{seven_outer, seven_parts, seven_holds, held_number}
use Rattle.products.proofs.Turns.{radius_runs, radius_none, made}
use Rattle.products.proofs.seven.SevenSteps.finish.Goals as goal

pub outer-radius-requires : goal.outer-radius-requires
outer-radius-requires c =
    let p = spot c.args.self.of c.args.i c.args.j in
    (c.args.s.radius_number, middle_below p _ _ c.requires.4)

pub returns-then-is_none : goal.returns-then-is_none
returns-then-is_none c =
    let p = spot c.args.self.of c.args.i c.args.j in
    seven_outer p _ refl c.requires.2 _ c.requires.4
    (radius_none c.args.self.of.shape.m p c.requires.0.0 c.requires.1 c.requires.2 _ c.requires.0.2 _ _ c.outer-radius.ensures (sym c.is_none.ensures ∙ c.if-is_none.true))

pub invariant_of-sums : goal.invariant_of-sums
invariant_of-sums c =
    let p = spot c.args.self.of c.args.i c.args.j in
    record {
      lower_number = c.args.s.lower_number;
      opposed_number = c.args.s.opposed_number;
      radius_number = (radius_runs c.args.self.of.shape.m p c.requires.0.0 c.requires.1 c.requires.2 _ c.requires.0.2 c.args.s.radius _ c.outer-radius.ensures (sym c.is_none.ensures ∙ c.if-is_none.false)).number;
    }

pub parts-requires : goal.parts-requires
parts-requires c =
    let p = spot c.args.self.of c.args.i c.args.j in
    λ l m. held_number _ _ (made c.args.self.of.shape.m p c.requires.0.0 c.requires.1 c.requires.2 _ _ c.requires.0.1 c.requires.0.3 l m).second

pub returns-in_err-t : goal.returns-in_err-t
returns-in_err-t c =
    let p = spot c.args.self.of c.args.i c.args.j in
    let R = radius_runs c.args.self.of.shape.m p c.requires.0.0 c.requires.1 c.requires.2 _ c.requires.0.2 c.args.s.radius _ c.outer-radius.ensures (sym c.is_none.ensures ∙ c.if-is_none.false) in
    subst (HoldsRange (entries_of seven c.args.self.of (c.args.i * c.args.self.of.shape.n + c.args.j))) (sym c.from_residual.ensures)
    (seven_parts p _ refl c.requires.2 _ _ (made c.args.self.of.shape.m p c.requires.0.0 c.requires.1 c.requires.2 _ _ c.requires.0.1 c.requires.0.3) _ _ c.requires.4 R c.in_err-t.ensures)

pub returns : goal.returns
returns c =
    let p = spot c.args.self.of c.args.i c.args.j in
    let R = radius_runs c.args.self.of.shape.m p c.requires.0.0 c.requires.1 c.requires.2 _ c.requires.0.2 c.args.s.radius _ c.outer-radius.ensures (sym c.is_none.ensures ∙ c.if-is_none.false) in
    seven_holds p _ refl c.requires.2 _ _ (made c.args.self.of.shape.m p c.requires.0.0 c.requires.1 c.requires.2 _ _ c.requires.0.1 c.requires.0.3) _ _ c.requires.4 R _ c.ends.result c.in_ok-t.ensures c.ends.ensures
