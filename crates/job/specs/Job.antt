-- The product of two sheets and the sheet job: what they answer, and the arrays that are lent for the product. Definitions only.
use Rattle.std.specs.Prelude.{List, [], ◌∷◌, ◌++◌, ℕ, ◌*◌, drop}
use Rattle.refusals.specs.Answer.{Answer, gives, refuses, then}
use Rattle.matrices.specs.Checks.{check_method}
use Rattle.job.specs.Factor.{Factor}
use Rattle.job.specs.Fold.{sheets_product}
use Rattle.job.specs.Delivery.{written_of}

-- refusal 9, then the product of the sheets a and b; a product or the writing is matrix 3
unfoldable pub job_product : ℕ → List ℕ → List ℕ → Answer Factor
job_product method a b = then (check_method method) (sheets_product method 3 (a ∷ b ∷ []))

abbrev pub job_of : ℕ → List ℕ → List ℕ → ℕ → Answer ℕ
job_of method a b room = written_of 3 (job_product method a b) room

-- ---- an array that is lent for a product's lower or upper bounds, which held d: the bounds, then the rest of d; on a refusal d
unfoldable pub array_after : (Factor → List ℕ) → Answer Factor → List ℕ → List ℕ
array_after bounds (gives F) d = bounds F ++ drop (F.rows * F.columns) d
array_after bounds (refuses x) d = d

abbrev pub factor_lowers : Factor → List ℕ
factor_lowers F = F.lowers

abbrev pub factor_uppers : Factor → List ℕ
factor_uppers F = F.uppers
