-- The number of each reason for a refusal. Definitions only.
use Rattle.std.specs.Prelude.{ℕ}
use Rattle.refusals.specs.declared.reason.Reason.{Reason}
use Rattle.refusals.specs.declared.reason.Reason.TheVariants.{WrongSize, ShortSlice, NotFinite, Crossed, TooLarge, WrongLayout, Outside, NotRising, UnknownMethod, UnknownClass, NoRoom, WrongCount, WrongLoad, NegativeAmount}

abbrev pub number_of : Reason → ℕ
number_of WrongSize = 1
number_of ShortSlice = 2
number_of NotFinite = 3
number_of Crossed = 4
number_of TooLarge = 5
number_of WrongLayout = 6
number_of Outside = 7
number_of NotRising = 8
number_of UnknownMethod = 9
number_of UnknownClass = 10
number_of NoRoom = 11
number_of WrongCount = 12
number_of WrongLoad = 13
number_of NegativeAmount = 14
