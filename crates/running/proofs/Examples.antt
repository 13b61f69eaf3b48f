-- Worked calls, computed: a history with a pair, a refused pair, other amounts, another pair and a refused load; the order of refusals; and values that no call
-- made. Assumes nothing.
use mathlib.Core.Path.{◌≡◌, refl}
use mathlib.Core.List.{List, [], ◌∷◌, ◌++◌}
use mathlib.Core.Option.{bind}
use Prim.Native.Nat.{ℕ}
use lib.Ieee.{size}
use lib.ListN.{replicate}
use Rattle.algebra.specs.Extremes.{minℤ, maxℤ}
use Rattle.rounding.specs.Format.{MAX, expo}
use Rattle.rounding.specs.Pattern.{val, encode}
use Rattle.rounding.specs.Rounding.{ceil, lo, hi, up, down}
use Rattle.enclosure.specs.Sums.{sum}
use Rattle.enclosure.specs.Methods.{least_term, greatest_term, total, entry₁, entry}
use Rattle.enclosure.specs.RunningSums.{add_pair}
use Rattle.refusals.specs.declared.reason.Reason.TheVariants.{WrongSize, UnknownClass, NotFinite, Crossed}
use Rattle.refusals.specs.Answer.{refuse}
use Rattle.binary32.specs.Number.{value_of}
use Rattle.binary32.specs.Operations.{answer}
use Rattle.intervals.specs.Conversion.{fault_of}
use Rattle.sheets.specs.AllFrom.{all_from}
use Rattle.sheets.specs.Layout.{u32_at}
use Rattle.sheets.specs.Wear.{units_of, amount_of, fixed_amounts}
use Rattle.sheets.specs.Load.{patterns_of, all_finite, rising, ascending, amounts_fault, load_fault, load_of}
use Rattle.sheets.specs.Cell.{worn_fault, widened_of}
use Rattle.products.specs.Pair.{pair_fault, pair_added}
use Rattle.running.specs.declared.cell.Gauged.{Gauged}
use Rattle.running.specs.declared.Running.{Running}
use Rattle.running.specs.declared.Shown.{Shown}
use Rattle.running.specs.Gauged.{gauged_of}
use Rattle.running.specs.Value.{new_of, sums_of, take_of, exchange_of, show_of}
use Rattle.running.specs.History.{History, new, take, exchange, carried, entry_over, taken_with, taken_load, taken}

abbrev cell : ℕ → ℕ → ℕ → Gauged
cell l u c = record { lower = l; upper = u; class = c }

abbrev shown : ℕ → ℕ → ℕ → Shown
shown l u n = record { lower = l; upper = u; pairs = n }

-- ---- a history

-- [1, 2] and [-1, 3], both of class 0; then a class above 7; then amounts of which the last is 1/2; then [1, 1] of class 7 and [2, 2] of class 0
abbrev one : History
one = take new (cell 0x3F800000 0x40000000 0) (cell 0xBF800000 0x40400000 0)

abbrev load : List ℕ
load = replicate 31 0 ++ (63 ∷ [])

abbrev two : History
two = take (exchange (take one (cell 0 0 0) (cell 0 0 8)) load) (cell 0x3F800000 0x3F800000 7) (cell 0x40000000 0x40000000 0)

-- [0, 0]; [-2, 6]; and [-2, 6] with [1/2, 3/2] × [2, 2] added, [-1, 9]. A load of no bytes is refused and changes nothing
none_shown : show_of (carried new) ≡ shown 0 0 0
unfolding new_of show_of carried
none_shown = refl

one_shown : show_of (carried one) ≡ shown 0xC0000000 0x40C00000 1
unfolding new_of sums_of take_of show_of carried gauged_of worn_fault widened_of fault_of fixed_amounts amount_of units_of pair_fault pair_added add_pair least_term greatest_term bind minℤ maxℤ answer value_of val encode expo size MAX ceil lo hi up down
one_shown = refl

two_shown : show_of (carried (exchange two [])) ≡ shown 0xBF800000 0x41100000 2
unfolding new_of sums_of take_of exchange_of show_of carried gauged_of worn_fault widened_of fault_of fixed_amounts amount_of units_of load_of load_fault amounts_fault all_finite ascending rising all_from patterns_of u32_at pair_fault pair_added add_pair least_term greatest_term bind minℤ maxℤ answer value_of val encode expo size MAX ceil lo hi up down
two_shown = refl

-- two pairs are taken, the second as it was widened
two_taken : (taken (exchange two [])).pairs ≡ ((0x3F800000, 0x40000000), (0xBF800000, 0x40400000)) ∷ ((0x3F000000, 0x3FC00000), (0x40000000, 0x40000000)) ∷ []
unfolding taken taken_with taken_load entry_over entry entry₁ total sum gauged_of worn_fault widened_of fault_of fixed_amounts amount_of units_of load_of load_fault amounts_fault all_finite ascending rising all_from patterns_of u32_at least_term greatest_term bind minℤ maxℤ answer value_of val encode expo size MAX ceil lo hi up down
two_taken = refl

-- ---- the order of refusals, on a value with so many pairs and this amount in each class

abbrev value : ℕ → ℕ → ℕ → Running
value l n w = record { lower = l; upper = 0; pairs = n; amounts = w ∷ w ∷ w ∷ w ∷ w ∷ w ∷ w ∷ w ∷ [] }

-- 1 for a thirty-third pair, before a class that is above 7, and for a number of pairs that no calls make
thirty_third : take_of (value 0 32 0) (cell 0 0 8) (cell 0 0 8) ≡ refuse WrongSize
unfolding sums_of take_of gauged_of
thirty_third = refl

far_more : take_of (value 0 0xFFFFFFFF 0) (cell 0 0 0) (cell 0 0 0) ≡ refuse WrongSize
unfolding sums_of take_of
far_more = refl

-- 10 before 3 in one cell, whatever the class is above 7; 3 of the first cell before 10 of the second; 4 of the first before 3 of the second
class_first : take_of (value 0 31 0) (cell 0x7F800000 0 0x100) (cell 0 0 0) ≡ refuse UnknownClass
unfolding sums_of take_of gauged_of
class_first = refl

cell_first : take_of (value 0 0 0) (cell 0x7F800000 0 0) (cell 0 0 8) ≡ refuse NotFinite
unfolding sums_of take_of gauged_of worn_fault widened_of fault_of
cell_first = refl

order_first : take_of (value 0 0 0) (cell 0x3F800000 0 7) (cell 0x7F800000 0 0) ≡ refuse Crossed
unfolding sums_of take_of gauged_of worn_fault widened_of fault_of value_of val
order_first = refl

-- ---- values that no call made

-- an amount that is no number: 3, with the cell that uses it
no_amount : take_of (value 0 0 0x7FC00000) (cell 0x3F800000 0 0) (cell 0 0 8) ≡ refuse NotFinite
unfolding sums_of take_of gauged_of worn_fault widened_of
no_amount = refl

-- an amount of -1 crosses [1, 1]: 4, after the second cell was checked
crossed : take_of (value 0 0 0xBF800000) (cell 0x3F800000 0x3F800000 0) (cell 0 0 8) ≡ refuse UnknownClass
unfolding sums_of take_of gauged_of worn_fault widened_of fault_of answer value_of val encode expo size MAX ceil lo hi up down
crossed = refl

crossed_later : take_of (value 0x7F800000 0 0xBF800000) (cell 0x3F800000 0x3F800000 0) (cell 0xC0000000 0x40000000 0) ≡ refuse Crossed
unfolding sums_of take_of gauged_of worn_fault widened_of fault_of pair_fault pair_added answer value_of val encode expo size MAX ceil lo hi up down
crossed_later = refl

-- a sum that is no number: 3, after both cells
no_sum : take_of (value 0x7F800000 0 0) (cell 0x3F800000 0x3F800000 0) (cell 0x3F800000 0x3F800000 0) ≡ refuse NotFinite
unfolding sums_of take_of gauged_of worn_fault widened_of fault_of pair_fault pair_added answer value_of val encode expo size MAX ceil lo hi up down
no_sum = refl
