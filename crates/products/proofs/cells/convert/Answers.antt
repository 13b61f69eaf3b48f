use native.Mathlib.Omega.{arith}
use Rattle.matrices.specs.Matrix.{of_bounds}
use Rattle.matrices.proofs.Fronts.{filled_none, filled_more}
use Rattle.products.proofs.Converts.{fine_given, fine_refused}
use Rattle.products.proofs.cells.convert.Goals as goal

pub loop-c-init : goal.loop-c-init
loop-c-init c = (filled_none _ _, filled_none _ _)

pub returns-in_default : goal.returns-in_default
returns-in_default c =
    absurd (fine_refused (of_bounds c.args.lowers.now c.args.uppers.now) c.loop-c.c (c.requires.4 _ c.loop-c-test.true) c.to_midrad.ensures.answer _ c.in_default.is)

pub loop-c-preserved : goal.loop-c-preserved
loop-c-preserved c =
    let f = fine_given (of_bounds c.args.lowers.now c.args.uppers.now) c.loop-c.c (c.requires.4 _ c.loop-c-test.true) c.to_midrad.ensures.answer _ c.in-Ok.is in
    (filled_more _ _ _ _ _ (omega arith) f.0 c.loop-c.invariant.0, filled_more _ _ _ _ _ (omega arith) f.1 c.loop-c.invariant.1)
