-- The buffer after a piece of text was written to its start. Definitions only.
use Rattle.std.specs.Prelude.{◌≡◌, List, ℕ, ◌++◌, length, drop}

-- out is the buffer d with the text t at its start; n is the length of t
pub record Put (t d : List ℕ) (n : ℕ) (out : List ℕ) : Type 0 where
  pub size : n ≡ length t
  pub left : out ≡ t ++ drop (length t) d
