-- `Four::start` meets its contract.
use Rattle.products.specs.Spot.{spot}
use Rattle.products.proofs.FourEntry.{middle_start}
use Rattle.products.proofs.four.FourSteps.start.Goals as goal

pub returns : goal.returns
returns c = λ i j. middle_start (spot c.args.self.of i j) _ c.new.ensures
