-- `deliver` meets its contract: the writer's, with the refusal named.
use Rattle.std.proofs.Common.{◌≡◌, sym, ap, ◌∙◌, subst, length, rules}
use Rattle.refusals.specs.Answer.{gives, refuses, naming}
use Rattle.job.specs.Factor.{in_arrays}
use Rattle.job.proofs.Naming.{named_by}
use Rattle.job.proofs.Writing.{Delivers, deliver_refused, deliver_put}
use Rattle.job.proofs.deliver.Goals as goal

pub returns-in_err-sizes : goal.returns-in_err-sizes
returns-in_err-sizes c =
    let g = c.args in
    let e : c.from_residual.result ≡ refuses c.in_err-sizes.field-0.0 = search rules in
    let t = subst (λ w. Delivers g.matrix (in_arrays g.product g.lo.now g.up.now) (length g.out.now) w g.out.now g.out.now) (sym e)
    (deliver_refused g.matrix g.product g.lo.now g.up.now g.out.now (length g.out.now) _ c.in_err-sizes.was) in
    record { answer = t.0; left = t.1.0; back = t.1.1 }

pub returns : goal.returns
returns c =
    let g = c.args in
    let p = c.put.ensures in
    let n : c.map_err.result ≡ naming g.matrix c.put.result = named_by g.matrix _ (λ r s h. search rules) c.put.result c.map_err.result c.map_err.ensures.cases in
    let A = in_arrays g.product g.lo.now g.up.now in
    let t = deliver_put g.matrix A g.out.now c.put.new.out (length g.out.now) (ap (λ z. in_arrays z g.lo.now g.up.now) c.in_ok-sizes.was ∙ sym (ap gives c.in_front.ensures))
    c.put.result c.map_err.result p.answer p.left p.trip n in
    record { answer = t.0; left = t.1.0; back = t.1.1 }
