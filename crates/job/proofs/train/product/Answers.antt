-- `train::product` meets its contract: the checks, the first sheet, the others.
use Rattle.std.proofs.Common.{◌≡◌, sym, ap, ◌∙◌, ◌-◌, arith, rules}
use Rattle.refusals.specs.Answer.{refuses}
use Rattle.job.specs.Factor.{in_arrays}
use Rattle.job.proofs.Factors.{arrays_by}
use Rattle.job.proofs.Sizes.{read_small}
use Rattle.job.proofs.Trains.{checks_done, checks_count, others_are, train_unread, train_goes}
use Rattle.job.proofs.train.product.Goals as goal

pub overflow_cast-count : goal.overflow_cast-count
overflow_cast-count c =
    let g = c.args in
    omega (arith, (checks_count g.method g.count (checks_done g.method g.count (sym c.check_method.ensures ∙ c.in_ok-check_method.was) (sym c.check_count.ensures ∙ c.in_ok-check_count.was))).1)

pub overflow_sub-count : goal.overflow_sub-count
overflow_sub-count c =
    let g = c.args in
    (checks_count g.method g.count (checks_done g.method g.count (sym c.check_method.ensures ∙ c.in_ok-check_method.was) (sym c.check_count.ensures ∙ c.in_ok-check_count.was))).0

pub times_others-requires : goal.times_others-requires
times_others-requires c =
    let g = c.args in
    let n = checks_count g.method g.count (checks_done g.method g.count (sym c.check_method.ensures ∙ c.in_ok-check_method.was) (sym c.check_count.ensures ∙ c.in_ok-check_count.was)) in
    let z = read_small 1 _ _ (sym (arrays_by _ _ c.read_as.ensures c.in_ok-first.was)) in
    (n.0, n.1, z.rows, z.columns)

pub returns-in_err-first : goal.returns-in_err-first
returns-in_err-first c =
    let g = c.args in
    let k = checks_done g.method g.count (sym c.check_method.ensures ∙ c.in_ok-check_method.was) (sym c.check_count.ensures ∙ c.in_ok-check_count.was) in
    let e : c.from_residual-in_err-first.result ≡ refuses c.in_err-first.field-0.0 = search rules in
    ap (λ z. in_arrays z c.read_as.new.lowers c.read_as.new.uppers) e
    ∙ train_unread g.method g.count g.s.now (g.count - 1) c.next_length-end.result k (others_are g.method g.count k) c.next_length-end.ensures.0
    (arrays_by _ _ c.read_as.ensures c.in_err-first.was)

pub returns : goal.returns
returns c =
    let g = c.args in
    let k = checks_done g.method g.count (sym c.check_method.ensures ∙ c.in_ok-check_method.was) (sym c.check_count.ensures ∙ c.in_ok-check_count.was) in
    c.times_others.ensures
    ∙ train_goes g.method g.count g.s.now (g.count - 1) c.next_length-end.result k (others_are g.method g.count k) c.next_length-end.ensures.0
    (arrays_by _ _ c.read_as.ensures c.in_ok-first.was)
