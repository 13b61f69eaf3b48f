-- `printed` meets its contract.
use Rattle.print_product.proofs.Puts.{put_as}
use Rattle.print_product.proofs.Answers.{printed_is}
use Rattle.print_product.proofs.printed.Goals as goal

pub returns : goal.returns
returns c =
    let w = put_as (printed_is c.args.input.now c.method.result c.min-start.result c.method.ensures c.min-start.ensures) c.sheets_text.ensures in
    record { size = w.size; left = w.left }
