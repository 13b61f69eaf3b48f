-- The running entry as a value, and what each call makes of it, on all values. Definitions only.
use Rattle.std.specs.Prelude.{List, ℕ, ◌+◌, ltb, Result}
use Rattle.refusals.specs.declared.reason.Reason.TheVariants.{WrongSize}
use Rattle.refusals.specs.Answer.{Answer, Judged, gives, refuses, unplaced, unless, then, and_then}
use Rattle.refusals.specs.Sizes.{largest_size}
use Rattle.sheets.specs.Wear.{fixed_amounts}
use Rattle.sheets.specs.Load.{load_of}
use Rattle.products.specs.Pair.{pair_added}
use Rattle.running.specs.declared.cell.Gauged.{Gauged}
use Rattle.running.specs.declared.Running.{Running}
use Rattle.running.specs.declared.Shown.{Shown}
use Rattle.running.specs.Gauged.{gauged_of}

-- before the first pair: [0, 0], no pairs, the fixed amounts
unfoldable pub new_of : Running
new_of = record { lower = 0; upper = 0; pairs = 0; amounts = fixed_amounts }

-- the range and the number of pairs
unfoldable pub show_of : Running → Shown
show_of v = record { lower = v.lower; upper = v.upper; pairs = v.pairs }

-- the sums with a pair of cells added, or the reason why not: 32 pairs are taken; then that of the first cell, of the second, and of the sums
unfoldable pub sums_of : Running → Gauged → Gauged → Judged (ℕ × ℕ)
sums_of v a b =
    then (unless (ltb v.pairs largest_size) WrongSize)
    (and_then (gauged_of v.amounts a) λ x. and_then (gauged_of v.amounts b) λ y. pair_added (v.lower, v.upper) x y)

-- the next value: by a pair, and by the amounts of a load
unfoldable pub take_of : Running → Gauged → Gauged → Answer Running
take_of v a b = unplaced (and_then (sums_of v a b) λ s. gives (record { lower = s.0; upper = s.1; pairs = v.pairs + 1; amounts = v.amounts }))

unfoldable pub exchange_of : Running → List ℕ → Answer Running
exchange_of v load = unplaced (and_then (load_of load) λ amounts. gives (record { lower = v.lower; upper = v.upper; pairs = v.pairs; amounts = amounts }))

-- what a call leaves: what it gives, or the same as before where it is refused
abbrev pub or_same : {A E : Type 0} → Result A E → A → A
or_same (gives v) same = v
or_same (refuses r) same = same
