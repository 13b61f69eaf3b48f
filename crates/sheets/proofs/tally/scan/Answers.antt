use mathlib.Core.Path.{◌≡◌, sym, ap, ◌∙◌}
use Prim.Native.Nat.{ℕ, ◌+◌, ◌/◌, ◌%◌, ◌≤◌}
use borrow.Author.Rules.{rules}
use native.Mathlib.Omega.{arith}
use mathlib.Core.Bool.{cond}
use Rattle.refusals.specs.Answer.{gives, refuses, at_cell}
use Rattle.refusals.proofs.Answers.{placed_tells}
use Rattle.sheets.proofs.Scanning.{scan_none, scan_counted, scan_judged}
use Rattle.sheets.proofs.tally.scan.Goals.{then-is_some, else-is_some}
use Rattle.sheets.proofs.tally.scan.Goals as goal

pub loop-p-init : goal.loop-p-init
loop-p-init c = (omega arith, scan_none _ _ _)

pub returns-in_err-cell : goal.returns-in_err-cell
returns-in_err-cell c =
    let h = c.loop-p in
    let g = c.args.matrix in
    let e : c.from_residual.result ≡ refuses c.in_err-cell.field-0.0 = search rules in
    let m : c.map_err.result ≡ at_cell 0 (h.p / g.columns) (h.p % g.columns) c.handed.result = search rules in
    e ∙ scan_judged _ _ _ h.p _ _ _ _ (omega arith) h.invariant.1 (sym c.handed.ensures) (sym m ∙ c.in_err-cell.was)

pub loop-p-preserved : goal.loop-p-preserved
loop-p-preserved c =
    let a = c.args in
    let h = c.loop-p in
    let n = c.if-is_some.count in
    let w : c.map_err.result ≡ at_cell 0 (h.p / a.matrix.columns) (h.p % a.matrix.columns) c.handed.result = search rules in
    let k : (n ≤ h.count + 1) × (h.count + cond c.is_some.result 1 0 ≡ n) =
    elim c.if-is_some.branch [
      | then-is_some w ↦ (omega (arith, w.count-is), rw w.if-is_some.true (sym w.count-is))
      | else-is_some w ↦ (omega (arith, w.count-is), rw w.if-is_some.false (omega (arith, w.count-is)))
    ] in
    let e = scan_counted a.matrix.columns a.matrix.lowers.now a.matrix.uppers.now h.p h.count _ _ _ h.invariant.1 c.handed.ensures (placed_tells 0 (h.p / a.matrix.columns) (h.p % a.matrix.columns) _ _ (sym w ∙ c.in_ok-cell.was)) c.is_some.ensures in
    (omega (arith, k.0, h.invariant), e ∙ ap (λ (m : ℕ). gives m) k.1)
