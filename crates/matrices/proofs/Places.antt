-- Rows and columns as places: a row and a column below the sizes make a place below their product, and a place has them back.
use mathlib.Core.Path.{◌≡◌, ap₂}
use Prim.Native.Nat.{ℕ, ◌+◌, ◌*◌, ◌/◌, ◌%◌, ◌<◌}
use lib.Arith.{digits_div, digits_mod, digits_lt}
use Rattle.enclosure.specs.Methods.{Method}
use Rattle.matrices.specs.Matrix.{Matrix}
use Rattle.matrices.specs.Entries.{entry_of, entry_at}

pub below : (i m j n : ℕ) → i < m → j < n → i * n + j < m * n
below i m j n h k = digits_lt h k

-- ---- the entry at the place of row i and column j
pub position_row : (i j n c : ℕ) → c ≡ i * n + j → j < n → c / n ≡ i
position_row i j n c e h = rw (e, digits_div i h)

pub position_column : (i j n c : ℕ) → c ≡ i * n + j → j < n → c % n ≡ j
position_column i j n c e h = rw (e, digits_mod i h)

module _ (method : Method) (k n i j c : ℕ) (e : c ≡ i * n + j) (h : j < n) where
  pub position_entry : (A B : Matrix) → entry_at method k n A B c ≡ entry_of method k n A B i j
  unfolding entry_at
  position_entry A B = ap₂ (entry_of method k n A B) (position_row i j n c e h) (position_column i j n c e h)
