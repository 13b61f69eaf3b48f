-- Worked amount sheets, computed: the plain form, a third kind, a cell widened by its own amount, and the order of 14, 3 and 4. Assumes nothing.
use mathlib.Core.Path.{◌≡◌, refl}
use mathlib.Core.List.{[], ◌∷◌}
use Prim.Native.Nat.{◌+◌, ◌*◌}
use lib.Ieee.{size}
use Rattle.rounding.specs.Format.{MAX, expo}
use Rattle.rounding.specs.Pattern.{val, encode}
use Rattle.rounding.specs.Rounding.{ceil, lo, hi, up, down}
use Rattle.refusals.specs.declared.reason.Reason.TheVariants.{WrongLayout, NegativeAmount, NotFinite, TooLarge}
use Rattle.refusals.specs.Refusal.{of_cell}
use Rattle.refusals.specs.Answer.{gives, refuses, refuse}
use Rattle.refusals.specs.Sizes.{check_size, check_lengths, check_fit}
use Rattle.binary32.specs.Number.{value_of}
use Rattle.binary32.specs.Operations.{answer}
use Rattle.intervals.specs.Conversion.{fault_of}
use Rattle.sheets.specs.AllFrom.{all_from}
use Rattle.sheets.specs.Layout.{u16_at, u32_at, blank, record_of, whole, framed}
use Rattle.sheets.specs.Amount.{below_zero, check_wear, wear_amount, cell_amount}
use Rattle.sheets.specs.Cell.{worn_fault, widened_of}
use Rattle.sheets.specs.Chain.{judge_of, visit_of, walk, chain_of}
use Rattle.sheets.specs.Reading.{sizes, read_of, cell_lower, cell_upper, put_in, matrix_of}
use Rattle.sheets.specs.Sheet.{record_bytes, head_bytes}
use Rattle.sheets.proofs.Worked.{cell_sheet}

-- a head alone; and one of kind 2
alone : read_of (head_bytes 0 32 32 1) 1024 1024 ≡ gives (sizes 32 32)
unfolding u16_at all_from blank whole framed check_size check_lengths check_fit walk chain_of read_of record_bytes
alone = refl

third_kind : read_of (record_bytes 0 32 32 (1 + 65536 * 2) 0) 1024 1024 ≡ refuse WrongLayout
unfolding u16_at whole framed read_of record_bytes
third_kind = refl

-- [1, 1] with the amount 1/2 is [1/2, 3/2], and with minus zero itself; a pattern of 8 is no class, but 8 units
half_lower : matrix_of cell_lower (cell_sheet 1 0x3F800000 0x3F800000 0x3F000000) ≡ 0x3F000000 ∷ []
unfolding u16_at u32_at record_of fault_of below_zero check_wear wear_amount cell_amount worn_fault widened_of judge_of visit_of walk chain_of put_in record_bytes value_of val encode expo size MAX ceil lo hi up down answer
half_lower = refl

half_upper : matrix_of cell_upper (cell_sheet 1 0x3F800000 0x3F800000 0x3F000000) ≡ 0x3FC00000 ∷ []
unfolding u16_at u32_at record_of fault_of below_zero check_wear wear_amount cell_amount worn_fault widened_of judge_of visit_of walk chain_of put_in record_bytes value_of val encode expo size MAX ceil lo hi up down answer
half_upper = refl

minus_zero : matrix_of cell_upper (cell_sheet 1 0x3F800000 0x3F800000 0x80000000) ≡ 0x3F800000 ∷ []
unfolding u16_at u32_at record_of fault_of below_zero check_wear wear_amount cell_amount worn_fault widened_of judge_of visit_of walk chain_of put_in record_bytes value_of val encode expo size MAX ceil lo hi up down answer
minus_zero = refl

eighth : matrix_of cell_upper (cell_sheet 1 0 0 8) ≡ 8 ∷ []
unfolding u16_at u32_at record_of fault_of below_zero check_wear wear_amount cell_amount worn_fault widened_of judge_of visit_of walk chain_of put_in record_bytes value_of val encode expo size MAX ceil lo hi up down answer
eighth = refl

-- the greatest amount below zero, beside a bound that is no number: 14 before 3
negative : read_of (cell_sheet 1 0x7FC00000 0x3F800000 0x80000001) 1 1 ≡ refuses (of_cell NegativeAmount 0 0 0)
unfolding u16_at u32_at all_from blank record_of whole framed check_size check_lengths check_fit fault_of below_zero check_wear wear_amount cell_amount worn_fault widened_of judge_of visit_of walk chain_of read_of record_bytes value_of val
negative = refl

-- minus infinity, beside bounds in the wrong order: 3, and before 4
infinite : read_of (cell_sheet 1 0x40000000 0x3F800000 0xFF800000) 1 1 ≡ refuses (of_cell NotFinite 0 0 0)
unfolding u16_at u32_at all_from blank record_of whole framed check_size check_lengths check_fit fault_of below_zero check_wear wear_amount cell_amount worn_fault widened_of judge_of visit_of walk chain_of read_of record_bytes value_of val
infinite = refl

-- MAX as an amount is a number, but [1, 1] widened by it is too large
far : read_of (cell_sheet 1 0x3F800000 0x3F800000 0x7F7FFFFF) 1 1 ≡ refuses (of_cell TooLarge 0 0 0)
unfolding u16_at u32_at all_from blank record_of whole framed check_size check_lengths check_fit fault_of below_zero check_wear wear_amount cell_amount worn_fault widened_of judge_of visit_of walk chain_of read_of record_bytes value_of val encode expo size MAX ceil lo hi up down answer
far = refl
