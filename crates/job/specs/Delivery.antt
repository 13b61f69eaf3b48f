-- The writing of a product by a job: its answer, the buffer afterwards, and that the sheet reads back. Definitions only.
use Rattle.std.specs.Prelude.{List, ℕ}
use Rattle.refusals.specs.Answer.{Answer, gives, refuses, and_then, naming}
use Rattle.sheets.specs.Writing.{write_of, out_after}
use Rattle.sheets.specs.Trip.{TripOf}
use Rattle.job.specs.Factor.{Factor}

-- the length of the sheet that is written into a buffer of `room` bytes, or the first refusal; a refusal by the writer names the matrix n
unfoldable pub written_of : ℕ → Answer Factor → ℕ → Answer ℕ
written_of n A room = and_then A (λ F. naming n (write_of F.rows F.columns F.lowers F.uppers room))

-- the buffer afterwards, which held d, by the answer r of the writing: the sheet, then the rest of d; on a refusal d
unfoldable pub out_of : Answer Factor → Answer ℕ → List ℕ → List ℕ
out_of (gives F) r d = out_after F.rows F.columns F.lowers F.uppers r d
out_of (refuses x) r d = d

-- the sheet that was written reads back as the product
unfoldable pub BackOf : Answer Factor → Answer ℕ → List ℕ → Type 0
BackOf (gives F) r out = TripOf F.rows F.columns F.lowers F.uppers r out
BackOf (refuses x) r out = Unit {0}
