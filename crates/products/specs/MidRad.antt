-- The entries of methods 3, 4, 5 and 7 from lists of midpoints and radii. Definitions only, for the contracts of private functions.
use Rattle.std.specs.Prelude.{List, ℕ, ◌+◌, ◌*◌, ◌/◌, ◌%◌, ◌≤◌, pos, get_or}
use Rattle.std.proofs.Math.Option.{Option}
use Rattle.rounding.specs.Format.{binary32}
use Rattle.enclosure.specs.Arithmetic.{of}
use Rattle.enclosure.specs.Cell.{Cell}
use Rattle.enclosure.specs.Methods.{Method, Range, entry}
use Rattle.binary32.specs.Number.{value_of}
use Rattle.products.specs.declared.operands.Operands.{Operands}
use Rattle.products.specs.Derived.{MidRads}
use Rattle.products.specs.Written.{Found, Written}

-- the cell with the midpoint and the radius at position c; its bounds are set to 0, since methods 3, 4, 5 and 7 do not use them
abbrev pub mid_rad_at : (m r : List ℕ) → ℕ → Cell
mid_rad_at m r c = record { low = pos 0; high = pos 0; mid = value_of (get_or m c 0); rad = value_of (get_or r c 0) }

-- the entry at position c by rows, from the midpoints and radii of A (k columns) and B (n columns)
unfoldable pub entry_from : Method → (k n : ℕ) → (ma ra mb rb : List ℕ) → ℕ → Option Range
entry_from method k n ma ra mb rb c = entry (of binary32) method k (λ l. mid_rad_at ma ra (c / n * k + l)) (λ l. mid_rad_at mb rb (l * n + c % n))

-- sizes up to 32, lists of midpoints and radii that are long enough, and lengths of the result slices that are
pub record Sized (m k n : ℕ) (ma ra mb rb : List ℕ) (lo up : ℕ) : Type 0 where
  pub rows : m ≤ 32
  pub inner : k ≤ 32
  pub columns : n ≤ 32
  pub a : MidRads (m * k) ma ra
  pub b : MidRads (k * n) mb rb
  pub lowers : m * n ≤ lo
  pub uppers : m * n ≤ up

-- the same of both matrices in one value
abbrev pub Fits : Operands → (lo up : ℕ) → Type 0
Fits o lo up = Sized o.shape.m o.shape.k o.shape.n o.ma.now o.ra.now o.mb.now o.rb.now lo up

abbrev pub entries_of : Method → Operands → ℕ → Option Range
entries_of method o = entry_from method o.shape.k o.shape.n o.ma.now o.ra.now o.mb.now o.rb.now

-- the entries by a method are written, up to the first that is refused
abbrev pub EntriesOf : Method → Operands → (lo up : List ℕ) → Found → (lo' up' : List ℕ) → Type 0
EntriesOf method o = Written (entries_of method o) o.shape.m o.shape.n
