-- `products::product` meets its contract: what the checks accept fits what the entries' functions ask for, and each way out is a case of `Left`.
use mathlib.Core.Path.{refl, sym, ◌∙◌}
use native.Mathlib.Omega.{arith}
use borrow.Author.Rules.{rules}
use Rattle.refusals.proofs.SizeLaws.{small}
use Rattle.matrices.proofs.Keeping.{left_keeps}
use Rattle.products.proofs.Accepted.{inner, sizes, a_convertible, b_convertible, a_converted, b_converted, ready}
use Rattle.matrices.proofs.MethodLaws.{classical_number, other_number, method_chosen}
use Rattle.products.proofs.Chosen.{by_mid_rad}
use Rattle.products.proofs.Leaving.{reached, left_refused, number_refused, left_classical, left_converted}
use Rattle.products.proofs.product.Goals as goal

pub returns-in_err-by : goal.returns-in_err-by
returns-in_err-by c =
    let a = c.args in
    let l = left_keeps (left_refused _ c.from_residual.result _ a.ma.now a.ra.now a.mb.now a.rb.now a.lo.now a.up.now (number_refused _ _ (sym c.in_err-by.was ∙ c.try_from.ensures)) (search rules)) in
    record { left = l.0; keeps = l.1 }

pub returns-in_err-check_all : goal.returns-in_err-check_all
returns-in_err-check_all c =
    let a = c.args in
    let l = left_keeps (left_refused _ c.from_residual-in_err-check_all.result _ a.ma.now a.ra.now a.mb.now a.rb.now a.lo.now a.up.now (sym c.check_all.ensures ∙ c.in_err-check_all.was) (search rules)) in
    record { left = l.0; keeps = l.1 }

pub overflow_mul-count : goal.overflow_mul-count
overflow_mul-count c = let f = sizes _ (sym c.check_all.ensures ∙ c.in_ok-check_all.was) in omega (arith, small _ _ f.rows f.columns)

pub by_bounds-requires : goal.by_bounds-requires
by_bounds-requires c = sizes _ (sym c.check_all.ensures ∙ c.in_ok-check_all.was)

pub finish-requires : goal.finish-requires
finish-requires c =
    let f = sizes _ (sym c.check_all.ensures ∙ c.in_ok-check_all.was) in
    (omega (arith, f.lowers), omega (arith, f.uppers), reached c.by_bounds.ensures f.rows f.positive f.columns)

pub overflow_mul-a : goal.overflow_mul-a
overflow_mul-a c = let f = sizes _ (sym c.check_all.ensures ∙ c.in_ok-check_all.was) in omega (arith, small _ _ f.rows f.inner)

pub convert-requires : goal.convert-requires
convert-requires c = a_convertible _ (sym c.check_all.ensures ∙ c.in_ok-check_all.was)

pub overflow_mul-b : goal.overflow_mul-b
overflow_mul-b c =
    let k = sym c.check_all.ensures ∙ c.in_ok-check_all.was in
    let f = sizes _ k in
    omega (arith, small _ _ f.inner f.columns, inner _ k)

pub convert-requires-in_default : goal.convert-requires-in_default
convert-requires-in_default c = b_convertible _ (sym c.check_all.ensures ∙ c.in_ok-check_all.was)

pub converted-requires : goal.converted-requires
converted-requires c =
    let k = sym c.check_all.ensures ∙ c.in_ok-check_all.was in (
      c.in_default.not-Classical,
      ready _ k _ _ _ _
          (a_converted _ k c.args.ma.now c.args.ra.now _ _ refl refl c.convert.ensures.mids_after c.convert.ensures.rads_after)
          (b_converted _ k c.args.mb.now c.args.rb.now _ _ refl refl c.convert-in_default.ensures.mids_after c.convert-in_default.ensures.rads_after),
    )

pub finish-requires-in_default : goal.finish-requires-in_default
finish-requires-in_default c =
    let f = sizes _ (sym c.check_all.ensures ∙ c.in_ok-check_all.was) in
    (omega (arith, f.lowers), omega (arith, f.uppers), reached c.converted.ensures f.rows f.positive f.columns)

pub returns-in-Classical : goal.returns-in-Classical
returns-in-Classical c =
    let a = c.args in
    let e = classical_number _ _ (sym c.in_ok-by.was ∙ c.try_from.ensures) c.in-Classical.is in
    let l =
    left_keeps
    (left_classical _ (sym c.check_all.ensures ∙ c.in_ok-check_all.was) a.ma.now a.ra.now a.mb.now a.rb.now _ _ _ _ _ _ _ _
    e c.by_bounds.ensures c.finish.ensures)
    in
    record { left = l.0; keeps = l.1 }

pub returns-in_default : goal.returns-in_default
returns-in_default c =
    let a = c.args in
    let k = sym c.check_all.ensures ∙ c.in_ok-check_all.was in
    let v = sym c.in_ok-by.was ∙ c.try_from.ensures in
    let other = c.in_default.not-Classical in
    let A = c.convert.ensures in
    let B = c.convert-in_default.ensures in
    let l =
    left_keeps
    (left_converted _ k _ _ _ _
    (a_converted _ k a.ma.now a.ra.now _ _ refl refl A.mids_after A.rads_after) (b_converted _ k a.mb.now a.rb.now _ _ refl refl B.mids_after B.rads_after)
    a.ma.now a.ra.now a.mb.now a.rb.now _ _ _ _ _ _ _ _ (other_number _ _ v other) (method_chosen _ _ v) (by_mid_rad _ other)
    A.mids_after A.rads_after B.mids_after B.rads_after c.converted.ensures c.finish-in_default.ensures)
    in
    record { left = l.0; keeps = l.1 }
