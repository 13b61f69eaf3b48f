-- `products::pattern::unpack` meets its contract: a normal number by `unpacked_normal`, all others by `unpack_other`.
use mathlib.Core.Path.{sym, ap, ◌∙◌}
use lib.Dec.{leb}
use Rattle.binary32.specs.Number.{signed_by}
use Prim.Native.Nat.{◌/◌, ◌%◌, ◌^◌}
use Rattle.binary32.proofs.Ints.{read}
use Rattle.unpacked.proofs.Ranges.{range_yes}
use Rattle.unpacked.proofs.Unpacking.{unpacked_normal}
use Rattle.products.proofs.pattern.unpack.Goals as goal

pub returns-then-is_normal : goal.returns-then-is_normal
returns-then-is_normal c =
    let p = c.args.p in
    let y = range_yes (p % 2 ^ 31 / 2 ^ 23) 1 255 (sym c.is_normal.ensures ∙ c.if-is_normal.true) in
    unpacked_normal p _ y.0 y.1 (read c.with_sign.result c.with_sign.type_inv ∙ c.with_sign.ensures ∙ ap (signed_by (leb (2 ^ 31) p)) c.from.ensures)
