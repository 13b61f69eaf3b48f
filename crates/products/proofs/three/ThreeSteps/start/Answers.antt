-- `Three::start` meets its contract.
use Rattle.products.specs.Spot.{spot}
use Rattle.products.proofs.ThreeSteps.{first_start}
use Rattle.products.proofs.three.ThreeSteps.start.Goals as goal

pub returns : goal.returns
returns c = λ i j. first_start (spot c.args.self.of i j) _ c.new.ensures
