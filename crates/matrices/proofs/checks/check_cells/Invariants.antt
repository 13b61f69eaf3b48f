-- `matrices::checks::check_cells`: no cell passed has a fault.
use Rattle.matrices.proofs.CheckLaws.{Passed}
use Rattle.matrices.proofs.checks.check_cells.Given as goal

abbrev pub invariant-loop-c : goal.invariant-loop-c
invariant-loop-c l = Passed (record { lowers = l.cells.lowers.now; uppers = l.cells.uppers.now }) l.c
