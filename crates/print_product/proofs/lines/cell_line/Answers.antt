-- `lines::cell_line` meets its contract.
use Rattle.std.proofs.Common.{refl, append_assoc}
use Rattle.print_product.specs.Lines.{cell_line}
use Rattle.print_product.proofs.Puts.{put_more, put_as}
use Rattle.print_product.proofs.lines.cell_line.Goals as goal

pub returns : goal.returns
unfolding cell_line
returns c = put_as (simp append_assoc refl) (put_more (put_more (put_more c.decimal-n.ensures c.decimal-n-2.ensures) c.hexadecimal-n.ensures) c.hexadecimal.ensures)
