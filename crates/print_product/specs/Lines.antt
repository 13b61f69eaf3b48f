-- The lines that are printed: fields one space apart, and a line feed at the end. Definitions only.
use Rattle.std.specs.Prelude.{List, [], ◌∷◌, ◌++◌, ℕ}
use Rattle.refusals.specs.declared.Refusal.{Refusal}
use Rattle.refusals.specs.Reason.{number_of}
use Rattle.print_product.specs.Digits.{decimal, hexadecimal}

-- 10 is the line feed, 32 the space
abbrev pub line : List (List ℕ) → List ℕ
line [] = []
line (f ∷ []) = f ++ (10 ∷ [])
line (f ∷ g ∷ fs) = (f ++ (32 ∷ [])) ++ line (g ∷ fs)

-- the words "product" and "refused" in ASCII
abbrev pub product : List ℕ
product = 112 ∷ 114 ∷ 111 ∷ 100 ∷ 117 ∷ 99 ∷ 116 ∷ []

abbrev pub refused : List ℕ
refused = 114 ∷ 101 ∷ 102 ∷ 117 ∷ 115 ∷ 101 ∷ 100 ∷ []

-- the first line of a product: method, rows, columns
unfoldable pub product_line : ℕ → ℕ → ℕ → List ℕ
product_line m r c = line (product ∷ decimal m ∷ decimal r ∷ decimal c ∷ [])

-- the line of a cell: row, column, lower bound, upper bound
unfoldable pub cell_line : ℕ → ℕ → ℕ → ℕ → List ℕ
cell_line i j l u = line (decimal i ∷ decimal j ∷ hexadecimal l ∷ hexadecimal u ∷ [])

-- the line of a refusal: number, matrix, row, column
unfoldable pub refused_line : Refusal → List ℕ
refused_line x = line (refused ∷ decimal (number_of x.reason) ∷ decimal x.matrix ∷ decimal x.row ∷ decimal x.column ∷ [])
