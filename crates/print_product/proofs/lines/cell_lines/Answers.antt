-- `lines::cell_lines`: a line comes behind those of the cells before it.
use Rattle.print_product.proofs.LineLaws.{cells_more}
use Rattle.print_product.proofs.lines.cell_lines.Goals as goal

pub loop-p-preserved : goal.loop-p-preserved
loop-p-preserved c = cells_more _ _ _ _ c.loop-p.invariant c.cell_line-n.ensures
