-- A cell as it is gauged, with its wear class, and as it is taken: widened. Definitions only.
use Rattle.std.specs.Prelude.{List, ℕ, leb}
use Rattle.refusals.specs.declared.reason.Reason.TheVariants.{UnknownClass}
use Rattle.refusals.specs.Answer.{Judged, unless, then}
use Rattle.sheets.specs.Wear.{amount_in}
use Rattle.sheets.specs.Cell.{widened_of}
use Rattle.running.specs.declared.cell.Gauged.{Gauged}

-- the bounds of a gauged cell, widened by the amount of its class among eight, or the reason why not: the class is above 7; then those of the widening
unfoldable pub gauged_of : List ℕ → Gauged → Judged (ℕ × ℕ)
gauged_of amounts g = then (unless (leb g.class 7) UnknownClass) (widened_of g.lower g.upper (amount_in amounts g.class))
