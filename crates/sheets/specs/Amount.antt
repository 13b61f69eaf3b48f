-- The wear amount of one cell, by the kind of its sheet. Definitions only.
use Rattle.std.specs.Prelude.{Bool, false, cond, not, List, ℕ, leb, ltb}
use Rattle.refusals.specs.declared.reason.Reason.TheVariants.{WrongLayout, UnknownClass, NegativeAmount}
use Rattle.refusals.specs.Refusal.{of_cell}
use Rattle.refusals.specs.Answer.{Answer, gives, refuse, unless, then}
use Rattle.binary32.specs.Number.{finite}
use Rattle.binary32.specs.Order.{at_most}
use Rattle.sheets.specs.declared.amount.Kind.{Kind}
use Rattle.sheets.specs.declared.amount.Kind.TheVariants.{Classes, Amounts}
use Rattle.sheets.specs.declared.layout.Record.{Record}
use Rattle.sheets.specs.Wear.{amount_in}

-- whether p is a number below zero: minus zero is not, and an exponent field of 255 makes no number
unfoldable pub below_zero : ℕ → Bool
below_zero p = cond (finite p) (not (at_most 0 p)) false

-- the check of a cell's wear. In a class sheet: one of bytes 13 to 15 is not zero, so that all four make a number above 255; else, the class is above 7.
-- In an amount sheet: the amount is below zero. Whether an amount is a number is checked with the bounds (Cell, `worn_fault`)
unfoldable pub check_wear : Kind → Record → Answer (Unit {0})
check_wear Classes r = cond (ltb 255 r.wear) (refuse WrongLayout) (unless (leb r.wear 7) (of_cell UnknownClass 0 r.row r.column))
check_wear Amounts r = unless (not (below_zero r.wear)) (of_cell NegativeAmount 0 r.row r.column)

-- the amount of a wear that passes: in a class sheet that of its class among eight, in an amount sheet the pattern itself
unfoldable pub wear_amount : Kind → List ℕ → ℕ → ℕ
wear_amount Classes amounts wear = amount_in amounts wear
wear_amount Amounts amounts wear = wear

-- the amount of a record, or the refusal
unfoldable pub cell_amount : Kind → List ℕ → Record → Answer ℕ
cell_amount kind amounts r = then (check_wear kind r) (gives (wear_amount kind amounts r.wear))
