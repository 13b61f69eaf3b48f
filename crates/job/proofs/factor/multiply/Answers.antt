-- `factor::multiply` meets its contract: the product's, copied to the left factor's place.
use Rattle.std.proofs.Common.{◌≡◌, sym, ap, ◌∙◌, rules}
use Rattle.refusals.specs.Answer.{refuses, naming}
use Rattle.refusals.proofs.Answers.{naming_tells}
use Rattle.job.specs.Factor.{factor_of, in_arrays}
use Rattle.job.proofs.Naming.{named_by}
use Rattle.job.proofs.Steps.{times_refused, times_gives}
use Rattle.job.proofs.factor.multiply.Goals as goal

pub returns-in_err-map_err : goal.returns-in_err-map_err
returns-in_err-map_err c =
    let g = c.args in
    let e : c.from_residual.result ≡ refuses c.in_err-map_err.field-0.0 = search rules in
    let n : c.map_err.result ≡ naming g.matrix c.product.result = named_by g.matrix _ (λ r s h. search rules) c.product.result c.map_err.result c.map_err.ensures.cases in
    ap (λ z. in_arrays z g.lo.now g.up.now) e
    ∙ times_refused g.method g.matrix _ (factor_of g.right) c.in_front.ensures c.product.ensures.left.answer n c.in_err-map_err.was

pub returns : goal.returns
returns c =
    let g = c.args in
    let m = c.product.ensures.left in
    let n : c.map_err.result ≡ naming g.matrix c.product.result = named_by g.matrix _ (λ r s h. search rules) c.product.result c.map_err.result c.map_err.ensures.cases in
    times_gives g.method g.matrix _ (factor_of g.right) c.in_front.ensures
    m.answer _ _ _ _ g.lo.now g.up.now _ _ (naming_tells g.matrix c.product.result tt (sym n ∙ c.in_ok-map_err.was)) m.lowers m.uppers c.copy.ensures c.copy-2.ensures
