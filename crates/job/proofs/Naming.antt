-- An answer whose refusal gets a matrix number by `map_err`. Assumes nothing.
use mathlib.Core.Path.{◌≡◌, ap}
use Prim.Native.Nat.{ℕ}
use Rattle.std.specs.Prelude.{MatchResult, IsErrAnd}
use Rattle.refusals.specs.declared.Refusal.{Refusal}
use Rattle.refusals.specs.Refusal.{named}
use Rattle.refusals.specs.Answer.{Answer, gives, refuses, naming}

-- from what the closure ensures of a refusal r and the one that it makes of it
pub named_by : {A : Type 0} (n : ℕ) (P : Refusal → Refusal → Type 0) → ((r s : Refusal) → P r s → s ≡ named n r) → (a b : Answer A)
    → MatchResult a (λ v. b ≡ gives v) (λ r. IsErrAnd b (P r)) → b ≡ naming n a
named_by n P f (gives v) b h = h
named_by n P f (refuses r) (refuses s) h = ap refuses (f r s h)
named_by n P f (refuses r) (gives v) h = absurd h
