-- `read_with`: the slices are those of the load's own amounts.
use Rattle.std.proofs.Common.{List, ℕ, ap, ◌∙◌}
use Rattle.sheets.specs.Reading.{cell_lower, cell_upper, slice_by, slice_with}
use Rattle.sheets.proofs.Loads.{loaded_is}
use Rattle.sheets.proofs.read_with.Goals as goal

pub returns-clause-below : goal.returns-clause-below
unfolding slice_with
returns-clause-below c =
    let a = c.args in
    c.read-2.ensures.below ∙ ap (λ (w : List ℕ). slice_by w cell_lower a.s.now c.read-2.result a.lowers.now) (loaded_is _ _ c.read.ensures _ c.in_ok-loaded.was)

pub returns-clause-above : goal.returns-clause-above
unfolding slice_with
returns-clause-above c =
    let a = c.args in
    c.read-2.ensures.above ∙ ap (λ (w : List ℕ). slice_by w cell_upper a.s.now c.read-2.result a.uppers.now) (loaded_is _ _ c.read.ensures _ c.in_ok-loaded.was)
