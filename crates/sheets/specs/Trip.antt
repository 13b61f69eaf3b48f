-- The round trip: a read of what was written gives a matrix with the same values. Definitions only.
use Rattle.std.specs.Prelude.{◌≡◌, List, [], ◌∷◌, ◌++◌, ℕ, zero, suc, ◌+◌, ◌*◌, ◌≤◌, length, get_or, take, drop}
use Rattle.refusals.specs.Answer.{Answer, gives, refuses}
use Rattle.sheets.specs.Cell.{canonical_of}
use Rattle.sheets.specs.Reading.{sizes, read_of, lowers_after, uppers_after}

-- n patterns of l from position p on, with 0 for minus zero, which has the same value (proofs/Exact, `canonical_value`)
unfoldable pub canonicals : List ℕ → ℕ → ℕ → List ℕ
canonicals l zero p = []
canonicals l (suc n) p = canonical_of (get_or l p 0) ∷ canonicals l n (p + 1)

-- a read of the sheet s into the slices l and u is not refused, and leaves the matrix with the bounds lo and up in them
pub record ReadsBack (rows columns : ℕ) (lo up s l u : List ℕ) : Type 0 where
  pub answer : read_of s (length l) (length u) ≡ gives (sizes rows columns)
  pub lowers : lowers_after s (gives (sizes rows columns)) l ≡ canonicals lo (rows * columns) 0 ++ drop (rows * columns) l
  pub uppers : uppers_after s (gives (sizes rows columns)) u ≡ canonicals up (rows * columns) 0 ++ drop (rows * columns) u

-- the same for the answer of a write and the buffer afterwards: the sheet is its first n bytes, and l and u are any slices that are long enough
abbrev pub TripOf : ℕ → ℕ → List ℕ → List ℕ → Answer ℕ → List ℕ → Type 0
TripOf rows columns lo up (gives n) out =
    (l u : List ℕ) → rows * columns ≤ length l → rows * columns ≤ length u → ReadsBack rows columns lo up (take n out) l u
TripOf rows columns lo up (refuses r) out = Unit {0}
