-- `Centred::new` meets its contract: zero is a number.
use mathlib.Core.Path.{sym, subst}
use Rattle.unpacked.specs.Number.{IsNumber}
use Rattle.products.proofs.Carrying.{zero_runs}
use Rattle.products.proofs.centred.Centred.new.Goals as goal

pub invariant_of-result : goal.invariant_of-result
invariant_of-result c = record {
  lower_number = subst IsNumber (sym c.zero.ensures) zero_runs.number;
  opposed_number = subst IsNumber (sym c.zero-2.ensures) zero_runs.number;
  radius_number = subst IsNumber (sym c.zero-3.ensures) zero_runs.number;
}
