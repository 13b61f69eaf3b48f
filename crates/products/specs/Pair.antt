-- A pair of cells added to the sums of an entry by method 1, all as patterns. Definitions only.
-- Sums and cells are two patterns: those of the lower and of the upper bound.
use Rattle.std.specs.Prelude.{ℕ}
use Rattle.std.proofs.Math.Option.{Option, none, some}
use Rattle.rounding.specs.Format.{binary32}
use Rattle.enclosure.specs.Arithmetic.{of}
use Rattle.enclosure.specs.Methods.{Range}
use Rattle.enclosure.specs.RunningSums.{add_pair}
use Rattle.refusals.specs.declared.reason.Reason.TheVariants.{NotFinite, TooLarge}
use Rattle.refusals.specs.Answer.{Judged, gives, refuses, unless, then}
use Rattle.binary32.specs.Number.{value_of, finites, pattern_of}
use Rattle.intervals.specs.Conversion.{fault_of}
use Rattle.products.specs.Classical.{pattern_cell}

-- two sums as a range, in units
abbrev pub range_of : ℕ × ℕ → Range
range_of s = record { lower = value_of s.0; upper = value_of s.1 }

-- the patterns of a range, where there is one
abbrev pub range_answer : Option Range → Judged (ℕ × ℕ)
range_answer (some e) = gives (pattern_of e.lower, pattern_of e.upper)
range_answer none = refuses TooLarge

-- the fault of the sums s and the cells a and b: that of a; else that of b; else, a sum is not a number; else none
unfoldable pub pair_fault : ℕ × ℕ → ℕ × ℕ → ℕ × ℕ → Judged (Unit {0})
pair_fault s a b = then (fault_of a.0 a.1) (then (fault_of b.0 b.1) (unless (finites s.0 s.1) NotFinite))

-- the sums with the pair added, or the reason why not: a fault, or a step that has no finite number
unfoldable pub pair_added : ℕ × ℕ → ℕ × ℕ → ℕ × ℕ → Judged (ℕ × ℕ)
pair_added s a b = then (pair_fault s a b) (range_answer (add_pair (of binary32) (range_of s) (pattern_cell a.0 a.1) (pattern_cell b.0 b.1)))
