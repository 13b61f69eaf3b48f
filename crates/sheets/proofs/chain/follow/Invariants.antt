-- `chain::follow` meets its contract: what is left of the walk from here ends as the whole walk does.
use mathlib.Core.Path.{◌≡◌}
use Prim.Native.Nat.{ℕ, ◌+◌, ◌-◌, ◌*◌, ◌≤◌, ◌<◌}
use Rattle.sheets.specs.Amount.{cell_amount}
use Rattle.sheets.specs.Chain.{walk}
use Rattle.sheets.proofs.chain.follow.Given as goal

abbrev pub invariant-loop-index : goal.invariant-loop-index
invariant-loop-index l =
    (t : ℕ) × (l.sizes.rows * l.sizes.columns < t + l.least) × (l.least ≤ l.sizes.rows * l.sizes.columns) × ((walk (cell_amount l.rule.kind l.rule.amounts.now) l.s l.sizes.rows l.sizes.columns (l.sizes.rows * l.sizes.columns + 1) l.first 0).verdict ≡ (walk (cell_amount l.rule.kind l.rule.amounts.now) l.s l.sizes.rows l.sizes.columns t l.index l.least).verdict)

abbrev pub decreases-loop-index : goal.decreases-loop-index
decreases-loop-index l = l.sizes.rows * l.sizes.columns - l.least
