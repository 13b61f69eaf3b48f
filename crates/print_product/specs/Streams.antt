-- What reading into a buffer and writing a text leave, where the bytes that a reader has left and a writer holds are known. Definitions only.
use Rattle.std.specs.Prelude.{ℕ, List, take, Option, Result, MatchResult}
use Rattle.std.specs.Io.KnownBytes.{Consumes, Appends}

-- some first bytes were taken, maybe none
abbrev pub TakesSome : Option (List ℕ) → Option (List ℕ) → Type 0
TakesSome old new = (bs : List ℕ) × Consumes old new bs

-- all of bs was written, or, at an error, a front part of it, maybe nothing
abbrev pub Writes : {A E : Type 0} → Option (List ℕ) → Option (List ℕ) → Result A E → List ℕ → Type 0
Writes old new r bs = MatchResult r (λ _. Appends old new bs) (λ _. (k : ℕ) × Appends old new (take k bs))
