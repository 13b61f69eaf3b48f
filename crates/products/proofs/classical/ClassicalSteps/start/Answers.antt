-- `Classical::start` meets its contract.
use Rattle.products.proofs.ClassicalSums.{after_none}
use Rattle.products.proofs.classical.ClassicalSteps.start.Goals as goal

pub returns : goal.returns
returns c = λ i j. after_none _ _ _ _ _ _ c.new.result c.new.ensures
