-- The contents of a lent slice after its front was cleared. Definitions only.
use Rattle.std.specs.Prelude.{List, ◌++◌, ℕ, min, length, drop, replicate}

-- d with its first n numbers replaced by zeros
abbrev pub zeros : ℕ → List ℕ → List ℕ
zeros n d = replicate n 0 ++ drop n d

-- the same for any n: all numbers where d has fewer than n
unfoldable pub cleared : ℕ → List ℕ → List ℕ
cleared n d = zeros (min n (length d)) d
