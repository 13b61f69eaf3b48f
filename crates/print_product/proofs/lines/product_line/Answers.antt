-- `lines::product_line` meets its contract.
use Rattle.std.proofs.Common.{refl, append_assoc}
use Rattle.print_product.specs.Lines.{product_line}
use Rattle.print_product.proofs.Puts.{put_more, put_as}
use Rattle.print_product.proofs.lines.product_line.Goals as goal

pub returns : goal.returns
unfolding product_line
returns c = put_as (simp (append_assoc, c.from-method.ensures) refl) (put_more (put_more (put_more c.bytes-n.ensures c.decimal-n.ensures) c.decimal-n-2.ensures) c.decimal.ensures)
