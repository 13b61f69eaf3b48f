-- `sheets_text` meets its contract: a way out for each answer of the job.
use Rattle.std.proofs.Common.{sym, ap, ◌∙◌, arith}
use Rattle.job.proofs.Jobs.{job_small}
use Rattle.print_product.specs.Printed.{answer_text}
use Rattle.print_product.proofs.Answers.{product_text_is, sheets_text_is}
use Rattle.print_product.proofs.Puts.{put_as}
use Rattle.print_product.proofs.sheets_text.Goals as goal

pub invariant_of-product : goal.invariant_of-product
invariant_of-product c =
    let z = job_small _ _ _ _ (sym c.in-Ok.ensures.answer) in
    record { digit = omega arith; rows = z.rows; some_column = z.some_column; columns = z.columns }

pub returns-in-Ok : goal.returns-in-Ok
returns-in-Ok c =
    let n = c.first_length in
    put_as (product_text_is c.args.method _ _ _ _ c.in-Ok.ensures.answer ∙ sheets_text_is c.args.method c.args.s.now c.from.result n.result c.from.ensures n.ensures.0 c.split_at.ensures.front c.split_at.ensures.back) c.product_text.ensures

pub returns-in-Err : goal.returns-in-Err
returns-in-Err c =
    let n = c.first_length in
    put_as (ap (answer_text c.args.method) c.in-Err.ensures.answer ∙ sheets_text_is c.args.method c.args.s.now c.from.result n.result c.from.ensures n.ensures.0 c.split_at.ensures.front c.split_at.ensures.back) c.refused_line.ensures
