-- `Classical::finish` meets its contract: after all pairs the sums are the whole entry.
use mathlib.Core.Path.{refl, sym, subst}
use Rattle.enclosure.specs.Methods.{classical}
use Rattle.std.specs.Prelude.{Some}
use Rattle.matrices.specs.Matrix.{of_bounds}
use Rattle.matrices.proofs.Places.{position_entry}
use Rattle.products.specs.Running.{HoldsRange}
use Rattle.products.proofs.ClassicalSums.{after_all}
use Rattle.products.proofs.classical.ClassicalSteps.finish.Goals as goal

pub returns : goal.returns
returns c =
    let s = c.args.self in
    let A = of_bounds s.al.now s.au.now in
    let B = of_bounds s.bl.now s.bu.now in
    let S = c.requires.4 in
    subst (λ m. HoldsRange m (Some c.args.s)) (sym (position_entry classical s.shape.k s.shape.n c.args._i c.args._j _ refl c.requires.2 A B)) (after_all s.shape.k s.shape.n A B c.args._i c.args._j s.shape.k c.args.s refl S)
