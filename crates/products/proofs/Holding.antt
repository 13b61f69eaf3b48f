-- Sums that hold a range: one that is made of two bounds, and none. The upper bound is kept with the other sign.
use mathlib.Core.Path.{ap, ap₂, ◌∙◌}
use mathlib.Core.Logic.{inl, inr}
use mathlib.Core.Option.{Option, bind}
use lib.IntN.{ℤ}
use Rattle.std.specs.Prelude.{Option as Maybe, Some, None}
use Rattle.rounding.specs.Rounding.{negate}
use Rattle.enclosure.proofs.RunningSums.{both, both_none}
use Rattle.products.specs.declared.sums.Sums.{Sums}
use Rattle.products.specs.Running.{HoldsRange, Summed}
use Rattle.products.proofs.Carrying.{mirrored_is, negate_none}

pub holds_both : (low high : Option ℤ) (r : Maybe Sums) → Summed low (negate high) r → HoldsRange (both low high) r
unfolding bind
holds_both low high None (inl e) = ap (λ m. both m high) e
holds_both low high None (inr e) = ap (both low) (negate_none high e) ∙ both_none low
holds_both low high (Some s) (l, o) = ap₂ both l.is (mirrored_is high s.opposed o)
