-- `matrix::fill` meets its contract: the cells left from here, put into what is there, give the whole walk's cells put in at the start.
use mathlib.Core.Path.{◌≡◌}
use Prim.Native.Nat.{ℕ, ◌+◌, ◌-◌, ◌*◌, ◌≤◌, ◌<◌}
use lib.ListN.{length}
use Rattle.refusals.specs.Answer.{done}
use Rattle.sheets.specs.Amount.{cell_amount}
use Rattle.sheets.specs.Chain.{walk}
use Rattle.sheets.specs.Reading.{put_in, cell_lower, cell_upper}
use Rattle.sheets.proofs.matrix.fill.Given as goal

abbrev pub invariant-loop-index : goal.invariant-loop-index
invariant-loop-index l =
    (t : ℕ) × (l.sizes.rows * l.sizes.columns < t + l.least) × (l.least ≤ l.sizes.rows * l.sizes.columns) × (length l.lowers ≡ length l.initial.lowers) × (length l.uppers ≡ length l.initial.uppers)
    × ((walk (cell_amount l.rule.kind l.rule.amounts.now) l.s l.sizes.rows l.sizes.columns t l.index l.least).verdict ≡ done)
    × (put_in cell_lower l.lowers (walk (cell_amount l.rule.kind l.rule.amounts.now) l.s l.sizes.rows l.sizes.columns t l.index l.least).cells ≡ put_in cell_lower l.initial.lowers (walk (cell_amount l.rule.kind l.rule.amounts.now) l.s l.sizes.rows l.sizes.columns (l.sizes.rows * l.sizes.columns + 1) l.first 0).cells)
    × (put_in cell_upper l.uppers (walk (cell_amount l.rule.kind l.rule.amounts.now) l.s l.sizes.rows l.sizes.columns t l.index l.least).cells ≡ put_in cell_upper l.initial.uppers (walk (cell_amount l.rule.kind l.rule.amounts.now) l.s l.sizes.rows l.sizes.columns (l.sizes.rows * l.sizes.columns + 1) l.first 0).cells)

abbrev pub decreases-loop-index : goal.decreases-loop-index
decreases-loop-index l = l.sizes.rows * l.sizes.columns - l.least
