-- `check_write`: sizes that were accepted have products that fit, and lengths that were accepted cover the cells.
use Rattle.std.proofs.Common.{◌≡◌, ℕ, List, ◌*◌, ◌≤◌, length, sym, ◌∙◌, arith}
use Rattle.refusals.specs.Answer.{gives, done}
use Rattle.refusals.specs.Sizes.{check_fit}
use Rattle.refusals.proofs.SizeLaws.{small, fit_tells}
use Rattle.sheets.specs.Writing.{scan_to}
use Rattle.sheets.proofs.Counting.{count_le}
use Rattle.sheets.proofs.Scanning.{scan_tells}
use Rattle.sheets.proofs.check_write.Goals as goal

pub scan-requires : goal.scan-requires
scan-requires c =
    let z = fit_tells _ _ _ _ _ (sym c.check_fit.ensures ∙ c.in_ok-check_fit.was) in
    (z.some_column, z.rows, z.columns, z.lowers, z.uppers)

-- at most 1,024 cells are counted
few : (rows columns : ℕ) (lo up : List ℕ) (k : ℕ) → check_fit 0 rows columns (length lo) (length up) ≡ done → scan_to columns lo up (rows * columns) ≡ gives k → k ≤ 1024
few rows columns lo up k e f =
    let z = fit_tells 0 rows columns (length lo) (length up) e in
    omega (arith, (scan_tells columns lo up (rows * columns) k f).0, count_le lo up (rows * columns), small rows columns z.rows z.columns)

pub overflow_add-needed : goal.overflow_add-needed
overflow_add-needed c = omega (arith, few _ _ _ _ _ (sym c.check_fit.ensures ∙ c.in_ok-check_fit.was) (sym c.scan.ensures ∙ c.in_ok-k.was))

pub overflow_mul-needed : goal.overflow_mul-needed
overflow_mul-needed c = omega (arith, few _ _ _ _ _ (sym c.check_fit.ensures ∙ c.in_ok-check_fit.was) (sym c.scan.ensures ∙ c.in_ok-k.was))
