-- What the steps of a method to an entry give, where they give it. Definitions only, for the contracts of private functions.
use Rattle.std.specs.Prelude.{◌≡◌, Option as Maybe, Some, None}
use Rattle.std.proofs.Math.Option.{Option, none}
use Rattle.enclosure.specs.Methods.{Range}

-- sums of which `after` holds, or none, where there is no entry e
abbrev pub Going : {S : Type 0} → (S → Type 0) → Option Range → Maybe S → Type 0
Going after e None = e ≡ none
Going after e (Some s) = after s
