-- `matrices::check_order::check_all`: sizes that were accepted have products that fit, and lengths that were accepted cover the cells.
use Rattle.std.proofs.Common.{◌≡◌, ℕ, ◌≤◌, length, sym, ◌∙◌, arith}
use Rattle.refusals.specs.Answer.{done}
use Rattle.refusals.proofs.Answers.{then_tells}
use Rattle.refusals.proofs.SizeLaws.{small, lengths_tell}
use Rattle.matrices.specs.Matrix.{Matrix}
use Rattle.matrices.specs.Checks.{check_operands}
use Rattle.matrices.proofs.CheckTells.{sizes_tell}
use Rattle.matrices.proofs.check_order.check_all.Goals as goal

operands_tell : (a b : ℕ) (A B : Matrix) → check_operands a b A B ≡ done
    → ((a ≤ length A.lowers) × (a ≤ length A.uppers)) × ((b ≤ length B.lowers) × (b ≤ length B.uppers))
unfolding check_operands
operands_tell a b A B e = let t = then_tells _ _ tt e in (lengths_tell 1 a _ _ t.0.1, lengths_tell 2 b _ _ t.1)

pub overflow_mul-a_cells : goal.overflow_mul-a_cells
overflow_mul-a_cells c = let s = sizes_tell _ _ _ _ (sym c.check_sizes.ensures ∙ c.in_ok-check_sizes.was) in omega (arith, small _ _ s.a_rows_below s.a_columns_below)

pub overflow_mul-b_cells : goal.overflow_mul-b_cells
overflow_mul-b_cells c = let s = sizes_tell _ _ _ _ (sym c.check_sizes.ensures ∙ c.in_ok-check_sizes.was) in omega (arith, small _ _ s.b_rows_below s.b_columns_below)

pub overflow_mul-a : goal.overflow_mul-a
overflow_mul-a c = let s = sizes_tell _ _ _ _ (sym c.check_sizes.ensures ∙ c.in_ok-check_sizes.was) in omega (arith, small _ _ s.a_rows_below s.b_columns_below)

pub check_both-requires : goal.check_both-requires
check_both-requires c =
    let s = sizes_tell _ _ _ _ (sym c.check_sizes.ensures ∙ c.in_ok-check_sizes.was) in
    let l = operands_tell _ _ _ _ (sym c.check_operands.ensures ∙ c.in_ok-check_operands.was) in
    ((s.a_columns_above, s.a_rows_below, s.a_columns_below, l.0.0, l.0.1), (s.b_columns_above, s.b_rows_below, s.b_columns_below, l.1.0, l.1.1))
