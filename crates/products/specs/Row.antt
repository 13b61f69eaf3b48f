-- A row of patterns unpacked. Definitions only, for the contracts of private functions.
use Rattle.std.specs.Prelude.{List, ℕ, ◌+◌, ◌*◌, ◌≤◌, ◌<◌, length, get_or}
use Rattle.unpacked.specs.declared.Number.{Number}
use Rattle.unpacked.specs.Number.{Unpacked, zero_number}

-- row i of k columns is within the patterns
pub record RowReaches (k i : ℕ) (patterns : List ℕ) : Type 0 where
  pub few : k ≤ 32
  pub each : (l : ℕ) → l < k → (i * k + l < 1024) × (i * k + l < length patterns)

-- the first k numbers are those of row i of the patterns
pub record RowUnpacked (k i : ℕ) (patterns : List ℕ) (numbers : List Number) : Type 0 where
  pub long : k ≤ length numbers
  pub each : (l : ℕ) → l < k → Unpacked (get_or patterns (i * k + l) 0) (get_or numbers l zero_number)
