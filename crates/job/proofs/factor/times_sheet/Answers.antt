-- `factor::times_sheet` meets its contract: one step of the fold.
use Rattle.std.proofs.Common.{◌≡◌, sym, ap, ◌∙◌, arith, rules}
use Rattle.refusals.specs.Answer.{refuses}
use Rattle.refusals.proofs.SizeLaws.{small}
use Rattle.job.specs.Factor.{in_front, in_arrays}
use Rattle.job.specs.Fold.{times_of}
use Rattle.job.proofs.Factors.{arrays_by}
use Rattle.job.proofs.Steps.{step_unread, step_unfit, step_fits}
use Rattle.job.proofs.Sizes.{read_small}
use Rattle.job.proofs.factor.times_sheet.Goals as goal

pub returns-in_err-right : goal.returns-in_err-right
returns-in_err-right c =
    let g = c.args in
    let e : c.from_residual.result ≡ refuses c.in_err-right.field-0.0 = search rules in
    ap (λ z. in_arrays z g.lo.now g.up.now) e
    ∙ step_unread g.method g.matrix g.position (in_front g.left.rows g.left.columns g.lo.now g.up.now) g.s.now (arrays_by _ _ c.read_as.ensures c.in_err-right.was)

pub returns-then-left-right : goal.returns-then-left-right
returns-then-left-right c =
    let g = c.args in
    step_unfit g.method g.matrix g.position (in_front g.left.rows g.left.columns g.lo.now g.up.now) g.s.now (arrays_by _ _ c.read_as.ensures c.in_ok-right.was) (λ e. omega arith) c.of_matrix.ensures

pub in_front-requires : goal.in_front-requires
in_front-requires c = let z = read_small _ _ _ (sym (arrays_by _ _ c.read_as.ensures c.in_ok-right.was)) in small _ _ z.rows z.columns

pub multiply-requires : goal.multiply-requires
multiply-requires c =
    let z = read_small _ _ _ (sym (arrays_by _ _ c.read_as.ensures c.in_ok-right.was)) in
    let k : c.in_front.result.columns ≡ c.in_ok-right.right.columns = ap (λ F. F.columns) c.in_front.ensures in
    (small _ _ c.requires.0 c.requires.1, small _ _ c.requires.0 (omega (arith, k, z.columns)))

pub returns : goal.returns
returns c =
    let g = c.args in
    let X = in_front g.left.rows g.left.columns g.lo.now g.up.now in
    let e : g.left.columns ≡ c.in_ok-right.right.rows = omega arith in
    c.multiply.ensures ∙ ap (times_of g.method g.matrix X) c.in_front.ensures
    ∙ step_fits g.method g.matrix g.position X g.s.now (arrays_by _ _ c.read_as.ensures c.in_ok-right.was) e
