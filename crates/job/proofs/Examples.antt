-- Trains, computed: a train of three sheets of both kinds, one that is too large before a sheet that is no sheet, and the checks before the sheets. Assumes nothing.
use mathlib.Core.Path.{◌≡◌, refl}
use mathlib.Core.List.{List, [], ◌∷◌, ◌++◌}
use mathlib.Core.Option.{bind}
use Prim.Native.Nat.{ℕ, ◌+◌, ◌*◌}
use lib.Ieee.{size}
use Rattle.algebra.specs.Extremes.{minℤ, maxℤ}
use Rattle.rounding.specs.Format.{MAX, expo}
use Rattle.rounding.specs.Rounding.{ceil, lo, hi, up, down}
use Rattle.rounding.specs.Pattern.{val, encode}
use Rattle.enclosure.specs.Sums.{sum}
use Rattle.enclosure.specs.Conversion.{mid, rad}
use Rattle.enclosure.specs.Methods.{entry, entry₁, total, least_term, greatest_term}
use Rattle.refusals.specs.declared.reason.Reason.TheVariants.{TooLarge, UnknownMethod, WrongCount}
use Rattle.refusals.specs.Refusal.{of_matrix, of_cell}
use Rattle.refusals.specs.Answer.{gives, refuses}
use Rattle.refusals.specs.Sizes.{check_size, check_lengths, check_fit}
use Rattle.binary32.specs.Number.{value_of}
use Rattle.binary32.specs.Operations.{answer}
use Rattle.intervals.specs.Conversion.{fault_of}
use Rattle.sheets.specs.AllFrom.{all_from}
use Rattle.sheets.specs.Layout.{u16_at, u32_at, blank, record_of, whole, framed}
use Rattle.sheets.specs.Cut.{first_length}
use Rattle.sheets.specs.Wear.{units_of, amount_of, fixed_amounts}
use Rattle.sheets.specs.Amount.{below_zero, check_wear, wear_amount, cell_amount}
use Rattle.sheets.specs.Cell.{worn_fault, widened_of}
use Rattle.sheets.specs.Chain.{judge_of, visit_of, walk, chain_of}
use Rattle.sheets.specs.Reading.{read_of, put_in}
use Rattle.sheets.specs.Sheet.{record_bytes}
use Rattle.matrices.specs.Lists.{tabulate, first}
use Rattle.matrices.specs.Matrix.{cell_at}
use Rattle.matrices.specs.Entries.{entry_of, entry_at, stop_of}
use Rattle.matrices.specs.Checks.{method_of, check_method, check_sizes, check_operands, check_lent, check_slices, check_cells, check_both, check_shapes, check_of}
use Rattle.matrices.specs.Product.{product_of}
use Rattle.job.specs.Factor.{read_as}
use Rattle.job.specs.Fold.{times_of, step_of, fold_from, sheets_product}
use Rattle.job.specs.Train.{check_count, next_length, sheets_in, train_product}

-- a sheet of either kind for one row and one column, class 0 or the amount zero
abbrev sheet : ℕ → ℕ → ℕ → List ℕ
sheet kind l u = record_bytes 1 1 1 (2 + 65536 * kind) 0 ++ record_bytes 0 0 0 l u

-- [1, 2] × [-1, 3] × [2, 2] is [-4, 12]
three : train_product 1 3 (sheet 0 0x3F800000 0x40000000 ++ sheet 1 0xBF800000 0x40400000 ++ sheet 0 0x40000000 0x40000000)
    ≡ gives (record { rows = 1; columns = 1; lowers = 0xC0800000 ∷ []; uppers = 0x41400000 ∷ [] })
unfolding train_product check_count sheets_in next_length first_length sheets_product fold_from step_of times_of read_as
    u16_at u32_at all_from blank record_of whole framed check_fit check_size check_lengths units_of amount_of fixed_amounts below_zero check_wear wear_amount cell_amount worn_fault widened_of judge_of visit_of walk chain_of read_of put_in record_bytes
    product_of check_of check_shapes check_method method_of check_sizes check_slices check_operands check_lent check_both check_cells first
    stop_of tabulate entry_at entry_of cell_at entry entry₁ total sum least_term greatest_term fault_of answer value_of mid rad up down lo hi ceil expo size MAX val encode bind minℤ maxℤ
three = refl

-- [2, MAX] × [2, 2] is too large, whatever stands behind: three bytes that are no sheet
early : train_product 1 3 (sheet 1 0x40000000 0x7F7FFFFF ++ sheet 0 0x40000000 0x40000000 ++ (1 ∷ 2 ∷ 3 ∷ [])) ≡ refuses (of_cell TooLarge 9 0 0)
unfolding train_product check_count sheets_in next_length first_length sheets_product fold_from step_of times_of read_as
    u16_at u32_at all_from blank record_of whole framed check_fit check_size check_lengths units_of amount_of fixed_amounts below_zero check_wear wear_amount cell_amount worn_fault widened_of judge_of visit_of walk chain_of read_of put_in record_bytes
    product_of check_of check_shapes check_method method_of check_sizes check_slices check_operands check_lent check_both check_cells first
    stop_of tabulate entry_at entry_of cell_at entry entry₁ total sum least_term greatest_term fault_of answer value_of mid rad up down lo hi ceil expo size MAX val encode bind minℤ maxℤ
early = refl

-- 9 before 12, 12 for no sheet and for nine
unknown : train_product 2 0 [] ≡ refuses (of_matrix UnknownMethod 0)
unfolding train_product check_method method_of
unknown = refl

none : train_product 1 0 [] ≡ refuses (of_matrix WrongCount 0)
unfolding train_product check_method method_of check_count
none = refl

nine : train_product 1 9 [] ≡ refuses (of_matrix WrongCount 0)
unfolding train_product check_method method_of check_count
nine = refl
