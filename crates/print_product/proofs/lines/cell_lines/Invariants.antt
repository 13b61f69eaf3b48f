-- `lines::cell_lines`: the lines of the first p cells stand at the start.
use Rattle.print_product.specs.Printed.{cell_lines}
use Rattle.print_product.specs.Put.{Put}
use Rattle.print_product.proofs.lines.cell_lines.Given as goal

abbrev pub invariant-loop-p : goal.invariant-loop-p
invariant-loop-p l = Put (cell_lines l.columns l.product.lowers.now l.product.uppers.now l.p) l.initial.out l.n l.out
