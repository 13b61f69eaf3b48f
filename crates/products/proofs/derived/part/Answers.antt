-- `products::derived::part` meets its contract: the lesser of |m| and r, with the sign of m.
use native.Mathlib.Omega.{arith}
use Rattle.products.proofs.Derivations.{part_low, part_high}
use Rattle.products.proofs.derived.part.Goals as goal

pub returns-then-m-lt-SIGN : goal.returns-then-m-lt-SIGN
returns-then-m-lt-SIGN c =
    part_low c.args.m c.args.r c.magnitude.result c.least-p.result c.requires c.if-m-lt-SIGN.true c.magnitude.ensures c.least-p.ensures

pub returns-else-m-lt-SIGN : goal.returns-else-m-lt-SIGN
returns-else-m-lt-SIGN c =
    part_high c.args.m c.args.r c.magnitude.result c.least-p.result c.negate.result c.requires c.if-m-lt-SIGN.false (omega arith)
    c.magnitude.ensures c.least-p.ensures c.negate.ensures
