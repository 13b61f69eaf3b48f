-- `product_of_two` meets its contract.
use Rattle.std.proofs.Common.{◌≡◌, sym, ap, ◌∙◌, rules}
use Rattle.refusals.specs.Answer.{refuses}
use Rattle.job.specs.Factor.{in_arrays}
use Rattle.job.proofs.Factors.{arrays_by}
use Rattle.job.proofs.Sizes.{read_small}
use Rattle.job.proofs.Jobs.{job_first, job_second}
use Rattle.job.proofs.product_of_two.Goals as goal

pub returns-in_err-left : goal.returns-in_err-left
returns-in_err-left c =
    let e : c.from_residual-in_err-left.result ≡ refuses c.in_err-left.field-0.0 = search rules in
    ap (λ z. in_arrays z c.read_as.new.lowers c.read_as.new.uppers) e
    ∙ job_first _ _ _ (sym c.check_method.ensures ∙ c.in_ok-check_method.was) (arrays_by _ _ c.read_as.ensures c.in_err-left.was)

pub times_sheet-requires : goal.times_sheet-requires
times_sheet-requires c =
    let z = read_small _ _ _ (sym (arrays_by _ _ c.read_as.ensures c.in_ok-left.was)) in
    (z.rows, z.columns)

pub returns : goal.returns
returns c =
    c.times_sheet.ensures
    ∙ job_second _ _ _ (sym c.check_method.ensures ∙ c.in_ok-check_method.was) (arrays_by _ _ c.read_as.ensures c.in_ok-left.was)
