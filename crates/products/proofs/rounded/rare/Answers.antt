-- `products::rounded::rare` meets its contract: whole units below, none above all products, and between them 24 digits up to the largest number.
use mathlib.Core.Path.{sym, subst}
use mathlib.Core.Option.{none}
use native.Mathlib.Nat.{not-le_of_lt}
use native.Mathlib.Omega.{arith}
use Rattle.unpacked.specs.Number.{Holds}
use Rattle.unpacked.proofs.Unpacking.{none_holds}
use Rattle.products.proofs.rounded.rare.Goals as goal

pub returns-then-p-lt-WHOLE : goal.returns-then-p-lt-WHOLE
returns-then-p-lt-WHOLE g c = record { number = c.small.ensures; none = λ l. absurd (omega (arith, c.if-p-lt-WHOLE.true)) }

pub returns-then-p-gt-LARGEST_PRODUCT : goal.returns-then-p-gt-LARGEST_PRODUCT
returns-then-p-gt-LARGEST_PRODUCT g c = record {
  number = λ X i. absurd (not-le_of_lt c.if-p-gt-LARGEST_PRODUCT.true i.high);
  none = λ l. subst (Holds none) (sym c.none.ensures) none_holds;
}

pub returns : goal.returns
returns g c = record {
  number = λ X i. g.met.D.Short.laws.large c.requires c.if-p-lt-WHOLE.false c.if-p-gt-LARGEST_PRODUCT.false c.shortened.ensures i c.limit.ensures;
  none = λ l. absurd (not-le_of_lt l c.if-p-gt-LARGEST_PRODUCT.false);
}
