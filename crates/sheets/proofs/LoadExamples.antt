-- Worked loads, computed: the fixed table as a load, each refusal with its order, zeros of either sign, and a cell widened by a mill's own amount. Assumes nothing.
use mathlib.Core.Path.{◌≡◌, refl, sym, ap, ◌∙◌}
use mathlib.Core.List.{List, [], ◌∷◌, ◌++◌}
use Prim.Native.Nat.{ℕ}
use lib.Ieee.{size}
use Rattle.rounding.specs.Format.{MAX, expo}
use Rattle.rounding.specs.Pattern.{val, encode}
use Rattle.rounding.specs.Rounding.{ceil, lo, hi, up, down}
use Rattle.refusals.specs.declared.reason.Reason.TheVariants.{NotFinite, TooLarge, WrongLayout, WrongLoad}
use Rattle.refusals.specs.Refusal.{of_cell}
use Rattle.refusals.specs.Answer.{Answer, gives, refuses, done, refuse}
use Rattle.refusals.proofs.Answers.{then_gives}
use Rattle.refusals.specs.Sizes.{check_size, check_lengths, check_fit}
use Rattle.binary32.specs.Number.{value_of}
use Rattle.binary32.specs.Operations.{answer}
use Rattle.intervals.specs.Conversion.{fault_of}
use Rattle.sheets.specs.declared.Sizes.{Sizes}
use Rattle.sheets.specs.declared.chain.Cell.{Cell}
use Rattle.sheets.specs.AllFrom.{all_from}
use Rattle.sheets.specs.Layout.{u16_at, u32_at, blank, record_of, whole, framed}
use Rattle.sheets.specs.Wear.{units_of, amount_of, fixed_amounts}
use Rattle.sheets.specs.Load.{patterns_of, all_finite, rising, ascending, amounts_fault, load_fault, load_of}
use Rattle.sheets.specs.Amount.{below_zero, check_wear, wear_amount, cell_amount}
use Rattle.sheets.specs.Cell.{worn_fault, widened_of}
use Rattle.sheets.specs.Chain.{judge_of, visit_of, walk, chain_of}
use Rattle.sheets.specs.Reading.{sizes, read_by, read_of, read_with, put_in, slice_by, slice_after, slice_with, lowers_with, uppers_with}
use Rattle.sheets.specs.Sheet.{record_bytes}
use Rattle.sheets.proofs.Loads.{with_loaded}
use Rattle.sheets.proofs.Worked.{word, cell_sheet}

-- a load of eight amounts: the first, the second, three of 1 and the last three
abbrev load : ℕ → ℕ → ℕ → ℕ → ℕ → List ℕ
load a b f g h = word a ++ word b ++ word 0x3F800000 ++ word 0x3F800000 ++ word 0x3F800000 ++ word f ++ word g ++ word h

abbrev fixed : List ℕ
fixed = word 0 ++ word 0x3A800000 ++ word 0x3B000000 ++ word 0x3B800000 ++ word 0x3C000000 ++ word 0x3C800000 ++ word 0x3D000000 ++ word 0x3D800000

fixed_patterns : patterns_of fixed ≡ fixed_amounts
unfolding u32_at patterns_of units_of amount_of fixed_amounts encode expo size
fixed_patterns = refl

fixed_passes : load_fault fixed ≡ done
unfolding u32_at patterns_of all_from all_finite rising ascending amounts_fault load_fault value_of val
fixed_passes = refl

-- with it a read answers and leaves what a plain read does, whatever the sheet
pub fixed_read : (s : List ℕ) (l u : ℕ) → read_with fixed s l u ≡ read_of s l u
unfolding load_of read_of
fixed_read s l u =
    sym (with_loaded fixed (load_of fixed) refl s l u (patterns_of fixed) (sym (then_gives _ tt _ _ fixed_passes refl))) ∙ ap (λ (amounts : List ℕ). read_by amounts s l u) fixed_patterns

pub fixed_slice : (b : Cell → ℕ) (s : List ℕ) (a : Answer Sizes) (d : List ℕ) → slice_with b fixed s a d ≡ slice_after b s a d
unfolding slice_with slice_after
fixed_slice b s a d = ap (λ (amounts : List ℕ). slice_by amounts b s a d) fixed_patterns

-- 6 for 31 bytes, before 3; 3 for an infinity, before 13; 13 for a first amount of one unit, and for one that is a pattern below its forerunner
short : load_fault (word 0x7F800000 ++ (0 ∷ [])) ≡ refuses WrongLayout
unfolding load_fault
short = refl

infinite : load_fault (load 0x3F800000 0 0x3F800000 0x3F800000 0x7F800000) ≡ refuses NotFinite
unfolding u32_at patterns_of all_from all_finite amounts_fault load_fault
infinite = refl

not_zero : load_fault (load 1 1 0x3F800000 0x3F800000 0x3F800000) ≡ refuses WrongLoad
unfolding u32_at patterns_of all_from all_finite ascending amounts_fault load_fault
not_zero = refl

below : load_fault (load 0 0 0x3F800000 0x3F800000 0x3F7FFFFF) ≡ refuses WrongLoad
unfolding u32_at patterns_of all_from all_finite rising ascending amounts_fault load_fault value_of val
below = refl

-- minus zero passes as the first amount and after a zero, and so does an amount that is equal to its forerunner
zeros : load_fault (load 0x80000000 0x80000000 0x3F800000 0x7F7FFFFF 0x7F7FFFFF) ≡ done
unfolding u32_at patterns_of all_from all_finite rising ascending amounts_fault load_fault value_of val
zeros = refl

-- [1, 1] with class 1, whose amount is 1/2, is [1/2, 3/2]; with class 7, whose amount is MAX, it is too large
abbrev own : List ℕ
own = load 0 0x3F000000 0x3F800000 0x3F800000 0x7F7FFFFF

abbrev worn : ℕ → List ℕ
worn class = cell_sheet 0 0x3F800000 0x3F800000 class

worn_lower : lowers_with own (worn 1) (gives (sizes 1 1)) (7 ∷ 8 ∷ []) ≡ 0x3F000000 ∷ 8 ∷ []
unfolding u16_at u32_at all_from blank record_of patterns_of fault_of check_wear wear_amount cell_amount worn_fault widened_of judge_of visit_of walk chain_of put_in slice_with record_bytes value_of val encode expo size MAX ceil lo hi up down answer
worn_lower = refl

worn_upper : uppers_with own (worn 1) (gives (sizes 1 1)) (7 ∷ 8 ∷ []) ≡ 0x3FC00000 ∷ 8 ∷ []
unfolding u16_at u32_at all_from blank record_of patterns_of fault_of check_wear wear_amount cell_amount worn_fault widened_of judge_of visit_of walk chain_of put_in slice_with record_bytes value_of val encode expo size MAX ceil lo hi up down answer
worn_upper = refl

far : read_with own (worn 7) 1 1 ≡ refuses (of_cell TooLarge 0 0 0)
unfolding u16_at u32_at all_from blank record_of whole framed check_size check_lengths check_fit patterns_of all_finite rising ascending amounts_fault load_fault load_of fault_of check_wear wear_amount cell_amount worn_fault widened_of judge_of visit_of walk chain_of read_with record_bytes value_of val encode expo size MAX ceil lo hi up down answer
far = refl

-- a load is refused before the sheet is looked at, here one of no bytes
first : read_with (load 1 1 0x3F800000 0x3F800000 0x3F800000) [] 0 0 ≡ refuse WrongLoad
unfolding u32_at patterns_of all_from all_finite ascending amounts_fault load_fault load_of read_with
first = refl

-- and whatever the sheet's kind; a cell with an amount of its own, here 1/2, is not widened by the load
first_too : read_with (load 1 1 0x3F800000 0x3F800000 0x3F800000) (cell_sheet 1 0x3F800000 0x3F800000 0x3F000000) 1 1 ≡ refuse WrongLoad
unfolding u32_at patterns_of all_from all_finite ascending amounts_fault load_fault load_of read_with
first_too = refl

own_upper : uppers_with own (cell_sheet 1 0x3F800000 0x3F800000 0x3F000000) (gives (sizes 1 1)) (7 ∷ []) ≡ 0x3FC00000 ∷ []
unfolding u16_at u32_at record_of patterns_of fault_of below_zero check_wear wear_amount cell_amount worn_fault widened_of judge_of visit_of walk chain_of put_in slice_with record_bytes value_of val encode expo size MAX ceil lo hi up down answer
own_upper = refl
