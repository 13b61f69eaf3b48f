-- `Four::step` meets its contract: where a sum is none, there is no entry.
use mathlib.Core.Path.{refl}
use Rattle.products.specs.Spot.{spot}
use Rattle.products.proofs.FourEntry.{four_goes}
use Rattle.products.proofs.four.FourSteps.step.Goals as goal

pub returns : goal.returns
returns c = four_goes (spot c.args.self.of c.args.i c.args.j) _ refl c.requires.2 c.args.l c.step.result c.step.ensures
