-- `reading::read` meets its contract.
use mathlib.Core.Path.{sym, ap, ◌∙◌}
use native.Mathlib.Omega.{arith}
use Rattle.sheets.specs.Chain.{Walk}
use Rattle.sheets.specs.Reading.{cell_lower, cell_upper}
use Rattle.sheets.proofs.Frames.{framed_tells}
use Rattle.sheets.proofs.Answers.{accepted_by, accepted_walk, slice_done}
use Rattle.sheets.proofs.reading.read.Goals as goal

pub kind-kind-requires : goal.kind-kind-requires
kind-kind-requires c = let g = framed_tells _ ((accepted_by _ _ _ _ _ _ (sym c.check.ensures ∙ c.in_ok-sizes.was))).frame in omega arith

pub u16_at-requires : goal.u16_at-requires
u16_at-requires c = let g = framed_tells _ ((accepted_by _ _ _ _ _ _ (sym c.check.ensures ∙ c.in_ok-sizes.was))).frame in omega arith

pub fill-requires : goal.fill-requires
fill-requires c =
    let a = accepted_by _ _ _ _ _ _ (sym c.check.ensures ∙ c.in_ok-sizes.was) in
    let z = a.sized in (
      z.rows,
      z.columns,
      (framed_tells _ a.frame).1,
      omega arith,
      omega arith,
      ap (λ (w : Walk). w.verdict) (accepted_walk _ _ _ _ _ _ _ _ a c.kind-kind.ensures (c.from.ensures ∙ c.u16_at.ensures)) ∙ a.passed,
    )

pub returns-clause-below : goal.returns-clause-below
returns-clause-below c =
    let a = accepted_by _ _ _ _ _ _ (sym c.check.ensures ∙ c.in_ok-sizes.was) in
    slice_done _ cell_lower _ _ _ _ _ _ _ _ _ _ a c.kind-kind.ensures (c.from.ensures ∙ c.u16_at.ensures) a.sized.lowers c.clear.ensures c.fill.ensures.0

pub returns-clause-above : goal.returns-clause-above
returns-clause-above c =
    let a = accepted_by _ _ _ _ _ _ (sym c.check.ensures ∙ c.in_ok-sizes.was) in
    slice_done _ cell_upper _ _ _ _ _ _ _ _ _ _ a c.kind-kind.ensures (c.from.ensures ∙ c.u16_at.ensures) a.sized.uppers c.clear-2.ensures c.fill.ensures.1
