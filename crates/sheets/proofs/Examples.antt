-- Worked class sheets, computed: a head alone, sizes 32 and 33, a loop, an index past the records, cells of classes 7, 1 and 8. Assumes nothing.
use mathlib.Core.Path.{◌≡◌, refl}
use mathlib.Core.List.{[], ◌∷◌, ◌++◌}
use lib.Ieee.{size}
use Rattle.rounding.specs.Format.{MAX, expo}
use Rattle.rounding.specs.Pattern.{val, encode}
use Rattle.rounding.specs.Rounding.{ceil, lo, hi, up, down}
use Rattle.refusals.specs.declared.reason.Reason.TheVariants.{WrongSize, NotRising, Outside, TooLarge, WrongLayout, UnknownClass}
use Rattle.refusals.specs.Refusal.{of_cell}
use Rattle.refusals.specs.Answer.{gives, refuses, refuse}
use Rattle.refusals.specs.Sizes.{check_size, check_lengths, check_fit}
use Rattle.binary32.specs.Number.{value_of}
use Rattle.binary32.specs.Operations.{answer}
use Rattle.intervals.specs.Conversion.{fault_of}
use Rattle.sheets.specs.AllFrom.{all_from}
use Rattle.sheets.specs.Layout.{u16_at, u32_at, blank, record_of, whole, framed}
use Rattle.sheets.specs.Wear.{units_of, amount_of, fixed_amounts}
use Rattle.sheets.specs.Amount.{check_wear, wear_amount, cell_amount}
use Rattle.sheets.specs.Cell.{worn_fault, widened_of}
use Rattle.sheets.specs.Chain.{judge_of, visit_of, walk, chain_of}
use Rattle.sheets.specs.Reading.{sizes, read_of, cell_lower, cell_upper, put_in, matrix_of}
use Rattle.sheets.specs.Sheet.{record_bytes}
use Rattle.sheets.proofs.Worked.{cell_sheet}

-- a head alone with index 0 and one record is a zero matrix; size 32 is accepted, 33 refused with 1
alone : read_of (record_bytes 0 32 32 1 0) 1024 1024 ≡ gives (sizes 32 32)
unfolding u16_at all_from blank whole framed check_size check_lengths check_fit walk chain_of read_of record_bytes
alone = refl

large : read_of (record_bytes 0 33 1 1 0) 1024 1024 ≡ refuse WrongSize
unfolding u16_at all_from blank whole framed check_size check_lengths check_fit read_of record_bytes
large = refl

-- a chain that comes back to its first cell, [1, 2]
loop : read_of (record_bytes 1 1 2 2 0 ++ record_bytes 1 0 0 0x3F800000 0x40000000) 2 2 ≡ refuse NotRising
unfolding u16_at u32_at all_from blank record_of whole framed check_size check_lengths check_fit units_of amount_of fixed_amounts fault_of check_wear wear_amount cell_amount worn_fault widened_of judge_of visit_of walk chain_of read_of record_bytes value_of val encode expo size MAX ceil lo hi up down answer
loop = refl

-- an index at the record count
past : read_of (record_bytes 2 1 1 2 0 ++ record_bytes 0 0 0 0 0) 1 1 ≡ refuse Outside
unfolding u16_at u32_at all_from blank record_of whole framed check_size check_lengths check_fit judge_of visit_of walk chain_of read_of record_bytes
past = refl

-- 1 with class 7 is 1 less and plus 1/16; MAX with class 1 has no upper bound
one_lower : matrix_of cell_lower (cell_sheet 0 0x3F800000 0x3F800000 7) ≡ 0x3F700000 ∷ []
unfolding u16_at u32_at record_of units_of amount_of fixed_amounts fault_of check_wear wear_amount cell_amount worn_fault widened_of judge_of visit_of walk chain_of put_in record_bytes value_of val encode expo size MAX ceil lo hi up down answer
one_lower = refl

one_upper : matrix_of cell_upper (cell_sheet 0 0x3F800000 0x3F800000 7) ≡ 0x3F880000 ∷ []
unfolding u16_at u32_at record_of units_of amount_of fixed_amounts fault_of check_wear wear_amount cell_amount worn_fault widened_of judge_of visit_of walk chain_of put_in record_bytes value_of val encode expo size MAX ceil lo hi up down answer
one_upper = refl

far : read_of (cell_sheet 0 0x3F800000 0x7F7FFFFF 1) 1 1 ≡ refuses (of_cell TooLarge 0 0 0)
unfolding u16_at u32_at all_from blank record_of whole framed check_size check_lengths check_fit units_of amount_of fixed_amounts fault_of check_wear wear_amount cell_amount worn_fault widened_of judge_of visit_of walk chain_of read_of record_bytes value_of val encode expo size MAX ceil lo hi up down answer
far = refl

-- byte 13 of a cell: 6 before 10; a class of 8: 10 before 3
spare : read_of (cell_sheet 0 0x3F800000 0x3F800000 264) 1 1 ≡ refuse WrongLayout
unfolding u16_at u32_at all_from blank record_of whole framed check_size check_lengths check_fit check_wear wear_amount cell_amount judge_of visit_of walk chain_of read_of record_bytes
spare = refl

eighth : read_of (cell_sheet 0 0x7F800000 0x3F800000 8) 1 1 ≡ refuses (of_cell UnknownClass 0 0 0)
unfolding u16_at u32_at all_from blank record_of whole framed check_size check_lengths check_fit check_wear wear_amount cell_amount judge_of visit_of walk chain_of read_of record_bytes
eighth = refl
