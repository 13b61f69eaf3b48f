-- The three directions keep the laws of a direction.
use Rattle.std.proofs.Common.{refl}
use Rattle.rounding.specs.Format.{binary32}
use Rattle.rounding.specs.Rounding.{down, up, near}
use Rattle.binary32.specs.declared.funnel.Ways.{Ways}
use Rattle.binary32.specs.Number.{largest, least, infinity, minus_infinity}
use Rattle.binary32.specs.Directions.{DirectionLaws}
use Rattle.rounding.proofs.Directed.{up_is, down_is}
use Rattle.rounding.proofs.Nearest.{near_is}

pub down_laws : DirectionLaws down (λ (c : Ways). c.down) minus_infinity minus_infinity largest
down_laws = record {
  numbers = λ D X v d e. (down_is binary32 D d e).num;
  outside = refl;
  cuts = λ X r c. c.downs;
  few = λ X r c. c.down_few;
  exacts = λ m r s. s.downs;
}

pub up_laws : DirectionLaws up (λ (c : Ways). c.up) infinity least infinity
up_laws = record {
  numbers = λ D X v d e. (up_is binary32 D d e).num;
  outside = refl;
  cuts = λ X r c. c.ups;
  few = λ X r c. c.up_few;
  exacts = λ m r s. s.ups;
}

pub near_laws : DirectionLaws near (λ (c : Ways). c.near) infinity infinity infinity
near_laws = record {
  numbers = λ D X v d e. (near_is binary32 D d e).num;
  outside = refl;
  cuts = λ X r c. c.nears;
  few = λ X r c. c.near_few;
  exacts = λ m r s. s.nears;
}
