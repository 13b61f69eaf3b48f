-- A cell whose bounds are unpacked. Definitions only, for the contracts of private functions.
use Rattle.std.specs.Prelude.{ℕ, pos}
use Rattle.unpacked.specs.declared.Number.{Number}
use Rattle.algebra.specs.Order.{◌≼◌}
use Rattle.binary32.specs.Number.{value_of, Finite}
use Rattle.products.specs.declared.apart.Apart.{Apart}
use Rattle.unpacked.specs.Number.{Unpacked, IsNumber}

-- the lower bound, and the upper one
abbrev pub lower_number : Apart → Number
lower_number a = record { sig = a.lower_sig; exp = a.lower_exp }

abbrev pub upper_number : Apart → Number
upper_number a = record { sig = a.upper_sig; exp = a.upper_exp }

-- the bounds of a are the numbers of the patterns lo and hi
pub record IsApart (lo hi : ℕ) (a : Apart) : Type 0 where
  pub lower : Unpacked lo (lower_number a)
  pub upper : Unpacked hi (upper_number a)

-- all fields are 0
abbrev pub zero_apart : Apart
zero_apart = record { lower_sig = pos 0; upper_sig = pos 0; lower_exp = 0; upper_exp = 0 }

-- the bounds of the unpacked cell a and of the cell [bl, bu], given by patterns, are finite, and those of [bl, bu] are in order
pub record Cells (a : Apart) (bl bu : ℕ) : Type 0 where
  pub a_lower : IsNumber (lower_number a)
  pub a_upper : IsNumber (upper_number a)
  pub b_lower : Finite bl
  pub b_upper : Finite bu
  pub b_order : value_of bl ≼ value_of bu
