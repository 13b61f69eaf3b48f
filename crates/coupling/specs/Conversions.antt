-- The two words that a conversion writes for a caller in C. Definitions only.
use Rattle.std.specs.Prelude.{ℕ, Result}
use Rattle.rounding.specs.Format.{binary32}
use Rattle.enclosure.specs.Optimal.{Optimal}
use Rattle.refusals.specs.Answer.{Judged, gives, refuses}
use Rattle.binary32.specs.Number.{value_of}

-- what a conversion leaves in a word that held d: the first or the second number of its answer, or d on a refusal
abbrev pub first_after : {E : Type 0} → Result (ℕ × ℕ) E → ℕ → ℕ
first_after (gives v) d = v.0
first_after (refuses r) d = d

abbrev pub second_after : {E : Type 0} → Result (ℕ × ℕ) E → ℕ → ℕ
second_after (gives v) d = v.1
second_after (refuses r) d = d

-- the two words m and r after an answer of the conversion from bounds: where it gave a pair, they are optimal for these bounds
abbrev pub OptimalWords : ℕ → ℕ → Judged (ℕ × ℕ) → ℕ → ℕ → Type 0
OptimalWords lower upper (gives v) m r = Optimal binary32 (value_of lower) (value_of upper) (value_of m) (value_of r)
OptimalWords lower upper (refuses x) m r = Unit {0}
