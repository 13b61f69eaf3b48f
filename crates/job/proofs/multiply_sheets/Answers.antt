-- `multiply_sheets` meets its contract: the product of the two sheets, copied.
use Rattle.std.proofs.Common.{arith}
use Rattle.job.proofs.Factors.{arrays_by, few_is}
use Rattle.job.proofs.Sizes.{few}
use Rattle.job.proofs.Jobs.{job_small, arrays_kept, arrays_filled}
use Rattle.job.proofs.multiply_sheets.Goals as goal

pub overflow_mul-n : goal.overflow_mul-n
overflow_mul-n c = omega (arith, few_is c.in_ok-sizes.was (few c.product_of_two.new.lo c.product_of_two.new.up c.product_of_two.result c.product_of_two.ensures (job_small _ _ _)))

pub copy-requires : goal.copy-requires
copy-requires c = let n = few_is c.in_ok-sizes.was (few c.product_of_two.new.lo c.product_of_two.new.up c.product_of_two.result c.product_of_two.ensures (job_small _ _ _)) in (omega arith, omega arith)

pub copy-requires-2 : goal.copy-requires-2
copy-requires-2 c = let n = few_is c.in_ok-sizes.was (few c.product_of_two.new.lo c.product_of_two.new.up c.product_of_two.result c.product_of_two.ensures (job_small _ _ _)) in (omega arith, omega arith)

pub returns-in_err-sizes-clause-below : goal.returns-in_err-sizes-clause-below
returns-in_err-sizes-clause-below c = (arrays_kept c.args.lo.now c.args.up.now (arrays_by _ _ c.product_of_two.ensures c.in_err-sizes.was)).1.0

pub returns-in_err-sizes-clause-above : goal.returns-in_err-sizes-clause-above
returns-in_err-sizes-clause-above c = (arrays_kept c.args.lo.now c.args.up.now (arrays_by _ _ c.product_of_two.ensures c.in_err-sizes.was)).1.1

pub returns : goal.returns
returns c =
    let g = c.args in
    let n = few_is c.in_ok-sizes.was (few c.product_of_two.new.lo c.product_of_two.new.up c.product_of_two.result c.product_of_two.ensures (job_small _ _ _)) in
    let t = arrays_filled _ _ _ _ g.lo.now g.up.now _ _ (omega arith) (omega arith) (arrays_by _ _ c.product_of_two.ensures c.in_ok-sizes.was) c.copy.ensures c.copy-2.ensures in
    record { answer = t.0; below = t.1.0; above = t.1.1 }
