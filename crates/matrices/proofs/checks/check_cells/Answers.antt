-- `matrices::checks::check_cells`: the first cell that has a fault is named.
use Rattle.std.proofs.Common.{◌≡◌, sym, ap, ◌∙◌, arith, rules, ◌/◌, ◌%◌}
use Rattle.refusals.specs.Answer.{refuses, at_cell}
use Rattle.matrices.specs.Matrix.{of_bounds}
use Rattle.matrices.proofs.CheckLaws.{cells_judged}
use Rattle.matrices.proofs.checks.check_cells.Goals as goal

pub returns-in_err-map_err : goal.returns-in_err-map_err
returns-in_err-map_err c =
    let g = c.args in
    let e : c.from_residual.result ≡ refuses c.in_err-map_err.field-0.0 = search rules in
    let m : c.map_err.result ≡ at_cell g.matrix (c.loop-c.c / g.cells.columns) (c.loop-c.c % g.cells.columns) c.check.result = search rules in
    e ∙ cells_judged g.matrix g.cells.rows g.cells.columns (of_bounds g.cells.lowers.now g.cells.uppers.now) c.loop-c.c c.check.result _ c.loop-c.invariant (omega arith) c.check.ensures (sym m ∙ c.in_err-map_err.was)
