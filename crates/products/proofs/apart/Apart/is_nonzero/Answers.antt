-- `products::apart::Apart::is_nonzero` meets its contract: exponents of numbers are small.
use native.Mathlib.Omega.{arith}
use Rattle.products.specs.Apart.{lower_number, upper_number}
use Rattle.unpacked.proofs.Packing.{exp_high}
use Rattle.products.proofs.apart.Apart.is_nonzero.Goals as goal

pub overflow_add-result : goal.overflow_add-result
overflow_add-result c =
    omega (arith, exp_high (lower_number c.args.self) c.requires.0, exp_high (upper_number c.args.self) c.requires.1)
