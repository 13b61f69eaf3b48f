-- The answer of an operation as one pattern, for a caller in C. Definitions only.
use Rattle.std.specs.Prelude.{ℕ, ◌+◌}
use Rattle.binary32.specs.Number.{infinity}
use Rattle.refusals.specs.Reason.{number_of}
use Rattle.refusals.specs.Answer.{Judged, gives, refuses}

-- the pattern of the result, or the number of the reason added to the pattern of infinity: no result has exponent field 255
abbrev pub pattern_for : Judged ℕ → ℕ
pattern_for (gives p) = p
pattern_for (refuses r) = infinity + number_of r
