-- The entry over a list of pairs is that of a product: of the row of the first cells, one by k, and the column of the second ones, k by one.
use mathlib.Core.Path.{◌≡◌, ap₂, subst}
use mathlib.Core.List.{List, map}
use Prim.Native.Nat.{ℕ, ◌+◌, ◌*◌}
use native.Mathlib.Omega.{arith}
use lib.ListN.{length, get_or, get_or-map}
use Rattle.rounding.specs.Format.{binary32}
use Rattle.enclosure.specs.Arithmetic.{of}
use Rattle.enclosure.specs.Methods.{classical}
use Rattle.matrices.specs.Matrix.{Matrix, of_bounds, cell_at}
use Rattle.matrices.specs.Entries.{entry_of}
use Rattle.products.specs.Classical.{pattern_cell}
use Rattle.products.proofs.EntryExt.{entry_ext}
use Rattle.running.specs.History.{Pair, first_at, second_at, entry_over}

-- the bounds of one cell of each pair, as a row or a column
abbrev pub matrix_of : (Pair → ℕ × ℕ) → List Pair → Matrix
matrix_of cell ps = of_bounds (map (λ p. (cell p).0) ps) (map (λ p. (cell p).1) ps)

abbrev first : Pair → ℕ × ℕ
first p = p.0

abbrev second : Pair → ℕ × ℕ
second p = p.1

pub over_product : (ps : List Pair) → entry_of classical (length ps) 1 (matrix_of first ps) (matrix_of second ps) 0 0 ≡ entry_over ps
unfolding entry_of entry_over cell_at
over_product ps =
    entry_ext (of binary32) (length ps) _ _ (first_at ps) (second_at ps)
    (λ l h. at first l (0 * length ps + l) (omega arith)) (λ l h. at second l (l * 1 + 0) (omega arith)) classical
  where
    none : Pair
    none = ((0, 0), (0, 0))

    at : (cell : Pair → ℕ × ℕ) (l c : ℕ) → l ≡ c
        → pattern_cell (get_or (map (λ p. (cell p).0) ps) c (cell none).0) (get_or (map (λ p. (cell p).1) ps) c (cell none).1) ≡ pattern_cell (cell (get_or ps l none)).0 (cell (get_or ps l none)).1
    at cell l c e =
        subst (λ (i : ℕ). pattern_cell (get_or (map (λ p. (cell p).0) ps) i (cell none).0) (get_or (map (λ p. (cell p).1) ps) i (cell none).1) ≡ pattern_cell (cell (get_or ps l none)).0 (cell (get_or ps l none)).1) e
        (ap₂ pattern_cell (get_or-map (λ p. (cell p).0) ps l none) (get_or-map (λ p. (cell p).1) ps l none))
