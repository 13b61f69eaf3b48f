-- What is printed, computed: no input, and the paper's example. Assumes nothing.
use mathlib.Core.Path.{◌≡◌, refl}
use mathlib.Core.List.{List, [], ◌∷◌, ◌++◌}
use mathlib.Core.Option.{bind}
use Prim.Native.Nat.{ℕ}
use lib.Ieee.{size}
use Rattle.algebra.specs.Extremes.{maxℤ}
use Rattle.rounding.specs.Format.{MAX, expo}
use Rattle.rounding.specs.Rounding.{ceil, lo, hi, nr, up, down, near}
use Rattle.rounding.specs.Pattern.{val, encode}
use Rattle.enclosure.specs.Sums.{sum}
use Rattle.enclosure.specs.Conversion.{mid, rad}
use Rattle.enclosure.specs.Methods.{entry, ends, radius₄, centre, total, inner_term, outer_radius, outer_term, mid_term}
use Rattle.refusals.specs.Sizes.{check_size, check_lengths, check_fit}
use Rattle.binary32.specs.Number.{value_of}
use Rattle.binary32.specs.Operations.{answer}
use Rattle.intervals.specs.Conversion.{fault_of}
use Rattle.sheets.specs.AllFrom.{all_from}
use Rattle.sheets.specs.Layout.{u16_at, u32_at, blank, record_of, whole, framed}
use Rattle.sheets.specs.Cut.{first_length}
use Rattle.sheets.specs.Wear.{units_of, amount_of, fixed_amounts}
use Rattle.sheets.specs.Amount.{check_wear, wear_amount, cell_amount}
use Rattle.sheets.specs.Cell.{worn_fault, widened_of}
use Rattle.sheets.specs.Chain.{judge_of, visit_of, walk, chain_of}
use Rattle.sheets.specs.Reading.{read_of, put_in, slice_after}
use Rattle.sheets.specs.Sheet.{record_bytes}
use Rattle.matrices.specs.Lists.{tabulate, first}
use Rattle.matrices.specs.Matrix.{cell_at}
use Rattle.matrices.specs.Entries.{entry_of, entry_at, stop_of}
use Rattle.matrices.specs.Checks.{method_of, check_method, check_sizes, check_operands, check_lent, check_slices, check_cells, check_both, check_shapes, check_of}
use Rattle.matrices.specs.Product.{product_of, result_after}
use Rattle.job.specs.Factor.{read_as}
use Rattle.job.specs.Fold.{times_of, step_of, fold_from, sheets_product}
use Rattle.job.specs.Job.{job_product}
use Rattle.print_product.specs.Digits.{digit, digits, digit_count_to}
use Rattle.print_product.specs.Lines.{product_line, cell_line, refused_line}
use Rattle.print_product.specs.Input.{digit_value}
use Rattle.print_product.specs.Printed.{cell_lines, sheets_text, printed_of}

-- refused 9 0 0 0
none : printed_of [] ≡ 114 ∷ 101 ∷ 102 ∷ 117 ∷ 115 ∷ 101 ∷ 100 ∷ 32 ∷ 57 ∷ 32 ∷ 48 ∷ 32 ∷ 48 ∷ 32 ∷ 48 ∷ 10 ∷ []
unfolding printed_of sheets_text digit_value first_length refused_line digit digits digit_count_to job_product check_method method_of
none = refl

-- one row and one column, class 0
abbrev sheet : ℕ → ℕ → List ℕ
sheet l u = record_bytes 1 1 1 2 0 ++ record_bytes 0 0 0 l u

-- product 4 1 1, then 0 0 C0400000 40C00000
four : printed_of (52 ∷ sheet 0x3F800000 0x40000000 ++ sheet 0xBF800000 0x40400000)
    ≡ (112 ∷ 114 ∷ 111 ∷ 100 ∷ 117 ∷ 99 ∷ 116 ∷ 32 ∷ 52 ∷ 32 ∷ 49 ∷ 32 ∷ 49 ∷ 10 ∷ [])
    ++ (48 ∷ 32 ∷ 48 ∷ 32 ∷ 67 ∷ 48 ∷ 52 ∷ 48 ∷ 48 ∷ 48 ∷ 48 ∷ 48 ∷ 32 ∷ 52 ∷ 48 ∷ 67 ∷ 48 ∷ 48 ∷ 48 ∷ 48 ∷ 48 ∷ 10 ∷ [])
unfolding printed_of sheets_text digit_value first_length product_line cell_line cell_lines digit digits digit_count_to job_product sheets_product fold_from step_of times_of read_as
    u16_at u32_at all_from blank record_of whole framed check_fit check_size check_lengths units_of amount_of fixed_amounts check_wear wear_amount cell_amount worn_fault widened_of judge_of visit_of walk chain_of read_of put_in slice_after record_bytes
    product_of result_after check_of check_shapes check_method method_of check_sizes check_slices check_operands check_lent check_both check_cells first
    stop_of tabulate entry_at entry_of cell_at entry radius₄ centre total sum inner_term outer_radius outer_term mid_term fault_of answer value_of mid rad maxℤ up down near lo hi nr ceil expo size MAX val encode ends bind
four = refl
