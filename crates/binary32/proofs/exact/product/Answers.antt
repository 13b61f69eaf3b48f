-- `binary32::exact::product` meets its contract: of two finite patterns `times` has the product, else there is none.
use Rattle.std.proofs.Common.{sym, ◌∙◌, ◌*ℤ◌, ◌^◌}
use Rattle.binary32.specs.Number.{held}
use Rattle.binary32.specs.Operations.{mul, with₂}
use Rattle.binary32.proofs.Exacts.{rounds_finite, rounds_none, held_either}
use Rattle.binary32.proofs.exact.product.Goals as goal

pub returns-then-are_finite : goal.returns-then-are_finite
returns-then-are_finite c =
    rounds_finite (2 ^ 149) ◌*ℤ◌ c.args.a c.args.b (sym c.are_finite.ensures ∙ c.if-are_finite.true) c.decode.ensures c.decode-then-are_finite.ensures c.times.ensures

pub returns : goal.returns
unfolding with₂
returns c =
    let s = c.args in
    rounds_none mul (held s.a) (held s.b) (held_either s.a s.b (sym c.are_finite.ensures ∙ c.if-are_finite.false))
