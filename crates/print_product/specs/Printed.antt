-- The text that is printed for an input. Definitions only.
use Rattle.std.specs.Prelude.{List, [], ◌++◌, ℕ, zero, suc, ◌*◌, ◌/◌, ◌%◌, get_or}
use Rattle.refusals.specs.Answer.{Answer, gives, refuses}
use Rattle.job.specs.Factor.{Factor}
use Rattle.job.specs.Job.{job_product}
use Rattle.print_product.specs.Lines.{product_line, cell_line, refused_line}
use Rattle.print_product.specs.Input.{method_in, sheets_in, sheet_a, sheet_b}

-- the lines of the first p cells by rows
unfoldable pub cell_lines : ℕ → List ℕ → List ℕ → ℕ → List ℕ
cell_lines columns lo up zero = []
cell_lines columns lo up (suc p) = cell_lines columns lo up p ++ cell_line (p / columns) (p % columns) (get_or lo p 0) (get_or up p 0)

-- the text of a product with the bounds lo and up
abbrev pub product_text : ℕ → ℕ → ℕ → List ℕ → List ℕ → List ℕ
product_text method rows columns lo up = product_line method rows columns ++ cell_lines columns lo up (rows * columns)

-- the text for the answer of a product
abbrev pub answer_text : ℕ → Answer Factor → List ℕ
answer_text method (gives F) = product_text method F.rows F.columns F.lowers F.uppers
answer_text method (refuses x) = refused_line x

-- the text for the method and s, which has both sheets
unfoldable pub sheets_text : ℕ → List ℕ → List ℕ
sheets_text method s = answer_text method (job_product method (sheet_a s) (sheet_b s))

-- the text for the whole input
unfoldable pub printed_of : List ℕ → List ℕ
printed_of input = sheets_text (method_in input) (sheets_in input)
