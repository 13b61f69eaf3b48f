-- `run` meets its contract: the product of the two sheets, written.
use Rattle.job.specs.Job.{job_product}
use Rattle.job.specs.Demand.{JobKeeps}
use Rattle.job.proofs.Sizes.{few}
use Rattle.job.proofs.Jobs.{job_small}
use Rattle.job.proofs.Deliveries.{ends, job_given, job_none}
use Rattle.job.proofs.run.Goals as goal

pub deliver-requires : goal.deliver-requires
deliver-requires c =
    let p = c.product_of_two-product in
    few p.new.lo p.new.up p.result p.ensures (job_small _ _ _)

pub returns-clause-keeps : goal.returns-clause-keeps
returns-clause-keeps c =
    let g = c.args in
    let d = c.deliver.ensures in
    (ends 3 _ (job_product g.method g.a.now g.b.now) (JobKeeps g.method g.a.now g.b.now) (job_given g.method g.a.now g.b.now)
    (job_none g.method g.a.now g.b.now) _ _ _ _ c.product_of_two-product.ensures (d.answer, (d.left, d.back))).1.1
