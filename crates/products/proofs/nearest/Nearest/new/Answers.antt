-- `Nearest::new` meets its contract: zero is a number, and not above zero.
use mathlib.Core.Path.{sym, subst}
use Rattle.unpacked.specs.Number.{IsNumber, Below}
use Rattle.products.proofs.Carrying.{zero_runs, zero_below}
use Rattle.products.proofs.nearest.Nearest.new.Goals as goal

pub invariant_of-result : goal.invariant_of-result
invariant_of-result c = record {
  centre_number = subst IsNumber (sym c.zero.ensures) zero_runs.number;
  radius_number = subst IsNumber (sym c.zero-2.ensures) zero_runs.number;
  below = subst Below (sym c.zero-2.ensures) zero_below;
}
