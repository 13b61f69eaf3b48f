-- `binary32::parts::decode` meets its contract: exponent field 0 (`decoded_low`), or 1 to 254 (`decoded_high`).
use Rattle.std.proofs.Common.{◌∙◌}
use Rattle.binary32.proofs.Ints.{read}
use Rattle.binary32.proofs.Values.{decoded_low, decoded_high}
use Rattle.binary32.proofs.parts.decode.Goals as goal

pub returns-then-e-eq0 : goal.returns-then-e-eq0
returns-then-e-eq0 c = decoded_low c.args.p _ c.if-e-eq0.true (read c.with_sign.result c.with_sign.type_inv ∙ c.with_sign.ensures)

pub returns : goal.returns
returns c = decoded_high c.args.p _ c.requires c.if-e-eq0.false (read c.with_sign-2.result c.with_sign-2.type_inv ∙ c.with_sign-2.ensures)
