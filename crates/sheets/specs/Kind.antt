-- The kinds of sheets. Definitions only.
use Rattle.std.specs.Prelude.{cond, List, ℕ, eqb, get_or}
use Rattle.sheets.specs.declared.amount.Kind.{Kind}
use Rattle.sheets.specs.declared.amount.Kind.TheVariants.{Classes, Amounts}

-- the byte of a kind in a sheet's head: 0 for a class sheet, whose cells hold a wear class; 1 for an amount sheet, whose cells hold the amount itself
abbrev pub byte_of : Kind → ℕ
byte_of Classes = 0
byte_of Amounts = 1

-- the kind that byte 6 of the head tells. A head with a byte that is of neither kind does not pass refusal 6 (Layout, `framed`)
abbrev pub kind_of : List ℕ → Kind
kind_of s = cond (eqb (get_or s 6 0) (byte_of Classes)) Classes Amounts
