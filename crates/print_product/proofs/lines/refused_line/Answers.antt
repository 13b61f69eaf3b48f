-- `lines::refused_line` meets its contract.
use Rattle.std.proofs.Common.{refl, append_assoc}
use Rattle.print_product.specs.Lines.{refused_line}
use Rattle.print_product.proofs.Puts.{put_more, put_as}
use Rattle.print_product.proofs.lines.refused_line.Goals as goal

pub returns : goal.returns
unfolding refused_line
returns c =
    put_as (simp (append_assoc, c.number-number.ensures, c.from.ensures, c.from-2.ensures, c.from-3.ensures, c.from-4.ensures) refl)
    (put_more (put_more (put_more (put_more c.bytes-n.ensures c.decimal-n.ensures) c.decimal-n-2.ensures) c.decimal-n-3.ensures) c.decimal.ensures)
