use mathlib.Core.Path.{◌≡◌, sym, ap, ◌∙◌}
use Prim.Native.Nat.{suc, ◌+◌, ◌-◌}
use native.Mathlib.Omega.{arith}
use borrow.Author.Rules.{rules}
use Rattle.refusals.specs.Answer.{refuses}
use Rattle.job.specs.Factor.{in_front, in_arrays}
use Rattle.job.proofs.Others.{others_stop, others_columns, others_rows, others_go, others_end}
use Rattle.job.proofs.train.times_others.Goals as goal

pub returns-in_err-product : goal.returns-in_err-product
returns-in_err-product c =
    let h = c.loop-position in
    let g = c.args in
    let e : c.from_residual.result ≡ refuses c.in_err-product.field-0.0 = search rules in
    let m : g.count - (h.position - 1) ≡ suc (g.count - h.position) = omega arith in
    ap (λ z. in_arrays z c.times_sheet.new.lo c.times_sheet.new.up) e
    ∙ others_stop g.method h.position (in_front h.product.rows h.product.columns h.lo h.up) _ _ h.rest.now (g.count - (h.position - 1)) (g.count - h.position) c.next_length-end.result
    m c.next_length-end.ensures.0 c.times_sheet.ensures c.in_err-product.was ∙ sym h.invariant.2

pub loop-position-preserved : goal.loop-position-preserved
loop-position-preserved c =
    let h = c.loop-position in
    let g = c.args in
    let X = in_front h.product.rows h.product.columns h.lo h.up in
    let n = g.count - h.position in
    let k = c.next_length-end in
    let t = c.times_sheet.ensures in
    let m : g.count - (h.position - 1) ≡ suc n = omega arith in
    let s = c.in_ok-product.was in
    let q : g.count - (h.position + 1 - 1) ≡ n = omega arith in (
      omega (arith, h.invariant.0, others_rows g.method h.position X _ _ h.rest.now _ n k.result m k.ensures.0 t s),
      others_columns g.method h.position X _ _ h.rest.now _ n k.result m k.ensures.0 t s,
      rw q (h.invariant.2 ∙ others_go g.method h.position X _ _ h.rest.now _ n k.result m k.ensures.0 t s),
    )

pub returns : goal.returns
returns c =
    let h = c.loop-position in
    let g = c.args in
    others_end g.method h.position (in_front h.product.rows h.product.columns h.lo h.up) (g.count - (h.position - 1)) h.rest.now (omega arith) ∙ sym h.invariant.2
