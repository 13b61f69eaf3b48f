-- The entries of a product by rows, and the first one that is refused. Definitions only.
use Rattle.std.specs.Prelude.{Bool, true, false, ℕ, ◌+◌, ◌*◌, ◌/◌, ◌%◌}
use Rattle.std.proofs.Math.Option.{Option, none, some}
use Rattle.rounding.specs.Format.{binary32}
use Rattle.enclosure.specs.Arithmetic.{of}
use Rattle.enclosure.specs.Methods.{Method, Range, entry}
use Rattle.binary32.specs.Number.{pattern_of}
use Rattle.matrices.specs.Lists.{first}
use Rattle.matrices.specs.Matrix.{Matrix, cell_at}

-- ---- one entry

-- the entry in row i and column j of A (k columns) times B (n columns)
unfoldable pub entry_of : Method → (k n : ℕ) → Matrix → Matrix → (i j : ℕ) → Option Range
entry_of method k n A B i j = entry (of binary32) method k (λ l. cell_at A (i * k + l)) (λ l. cell_at B (l * n + j))

-- the entry at position c by rows: c is row × n + column
unfoldable pub entry_at : Method → (k n : ℕ) → Matrix → Matrix → ℕ → Option Range
entry_at method k n A B c = entry_of method k n A B (c / n) (c % n)

-- ---- any entries E, by position

abbrev pub refused : Option Range → Bool
refused (some e) = false
refused none = true

-- the patterns of the bounds of an entry
abbrev pub lower_of : Option Range → ℕ
lower_of (some e) = pattern_of e.lower
lower_of none = 0

abbrev pub upper_of : Option Range → ℕ
upper_of (some e) = pattern_of e.upper
upper_of none = 0

-- how many entries come before the first refused one
unfoldable pub stop_of : (ℕ → Option Range) → ℕ → ℕ
stop_of E = first (λ c. refused (E c))
