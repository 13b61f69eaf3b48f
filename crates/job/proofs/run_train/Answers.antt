-- `run_train` meets its contract: the product of the train, written.
use Rattle.job.specs.Train.{train_product}
use Rattle.job.specs.TrainDemand.{TrainKeeps}
use Rattle.job.proofs.Sizes.{few}
use Rattle.job.proofs.Trains.{train_small}
use Rattle.job.proofs.Deliveries.{ends, train_given, train_none}
use Rattle.job.proofs.run_train.Goals as goal

pub deliver-requires : goal.deliver-requires
deliver-requires c =
    let p = c.product-product in
    few p.new.lo p.new.up p.result p.ensures (train_small _ _ _)

pub returns-clause-keeps : goal.returns-clause-keeps
returns-clause-keeps c =
    let g = c.args in
    let d = c.deliver.ensures in
    (ends 9 _ (train_product g.method g.count g.sheets.now) (TrainKeeps g.method g.count g.sheets.now) (train_given g.method g.count g.sheets.now)
    (train_none g.method g.count g.sheets.now) _ _ _ _ c.product-product.ensures (d.answer, (d.left, d.back))).1.1
