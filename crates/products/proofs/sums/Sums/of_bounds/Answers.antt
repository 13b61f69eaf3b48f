-- `products::sums::Sums::of_bounds` meets its contract: the numbers of the two patterns, the upper one negated.
use mathlib.Core.Path.{◌≡◌, ap, ap₂, ◌∙◌}
use lib.IntN.{ℤ, neg_ℤ, neg_ℤ-neg_ℤ}
use Rattle.enclosure.specs.Methods.{Range}
use Rattle.binary32.specs.Number.{value_of}
use Rattle.binary32.proofs.Held.{finites_first, finites_second}
use Rattle.unpacked.specs.Number.{worth, IsNumber}
use Rattle.unpacked.proofs.Multiplying.{unpacked_number}
use Rattle.unpacked.proofs.Opposites.{opposite_number}
use Rattle.products.proofs.sums.Sums.of_bounds.Goals as goal

-- both are numbers, with the values of their patterns
module _ (c : goal.After-unpack-2) where
  lower_is : IsNumber c.unpack.result × (worth c.unpack.result ≡ value_of c.args.lower)
  lower_is = unpacked_number _ _ (finites_first c.args.lower c.args.upper c.requires) c.unpack.ensures

  upper_is : IsNumber c.unpack-2.result × (worth c.unpack-2.result ≡ value_of c.args.upper)
  upper_is = unpacked_number _ _ (finites_second c.args.lower c.args.upper c.requires) c.unpack-2.ensures

pub opposite-requires : goal.opposite-requires
opposite-requires c = (upper_is c).0.normal

abbrev range : ℤ → ℤ → Range
range l u = record { lower = l; upper = u }

pub invariant_of-result : goal.invariant_of-result
invariant_of-result c = record { lower_number = (lower_is c.before).0; opposed_number = opposite_number (upper_is c.before).0 c.opposite.ensures }

pub returns : goal.returns
returns c =
    let o = c.opposite.ensures in
    ap₂ range (lower_is c.before.before).1 (ap neg_ℤ o.worths ∙ neg_ℤ-neg_ℤ (worth c.unpack-2.result) ∙ (upper_is c.before.before).1)
