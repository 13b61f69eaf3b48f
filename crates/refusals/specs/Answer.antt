-- The answer of a call: its values, or why there are none. Definitions only.
use Rattle.std.specs.Prelude.{Bool, true, false, ℕ, Result}
use Rattle.refusals.specs.declared.Refusal.{Refusal}
use Rattle.refusals.specs.declared.reason.Reason.{Reason}
use Rattle.refusals.specs.Refusal.{of_matrix, of_cell, named, code_of}
pub use Rattle.std.specs.Prelude.{Ok as gives, Err as refuses}

-- the answer of a call: its values, or a refusal
abbrev pub Answer : Type 0 → Type 0
Answer A = Result A Refusal

-- the answer of a step that knows neither matrix nor cell: its values, or the reason alone
abbrev pub Judged : Type 0 → Type 0
Judged A = Result A Reason

-- the answer of a call that has no values to give
abbrev pub done : {E : Type 0} → Result (Unit {0}) E
done = gives tt

-- a refusal with zeros for matrix, row and column
abbrev pub refuse : {A : Type 0} → Reason → Answer A
refuse n = refuses (of_matrix n 0)

-- the refusal of a judged answer, for a matrix and a cell, and for none
abbrev pub at_cell : {A : Type 0} → ℕ → ℕ → ℕ → Judged A → Answer A
at_cell m i j (gives v) = gives v
at_cell m i j (refuses n) = refuses (of_cell n m i j)

abbrev pub unplaced : {A : Type 0} → Judged A → Answer A
unplaced = at_cell 0 0 0

-- a check: done where the test holds, else refused with r
abbrev pub unless : {E : Type 0} → Bool → E → Result (Unit {0}) E
unless true r = done
unless false r = refuses r

-- the refusal; or else the next answer, which depends on the values
abbrev pub and_then : {A B E : Type 0} → Result A E → (A → Result B E) → Result B E
and_then (gives v) next = next v
and_then (refuses r) next = refuses r

-- the first refusal of two answers; or else the values of the second
abbrev pub then : {A B E : Type 0} → Result A E → Result B E → Result B E
then (gives v) next = next
then (refuses r) next = refuses r

-- the values of both, or the first refusal
abbrev pub both : {A B E : Type 0} → Result A E → Result B E → Result (A × B) E
both (gives v) (gives w) = gives (v, w)
both (gives v) (refuses r) = refuses r
both (refuses r) next = refuses r

-- the same answer; a refusal gets the matrix number m
abbrev pub naming : {A : Type 0} → ℕ → Answer A → Answer A
naming m (gives v) = gives v
naming m (refuses r) = refuses (named m r)

-- lent memory after a call: `after`, or `before` where the answer is a refusal
abbrev pub unless_refused : {A B : Type 0} → Answer A → B → B → B
unless_refused (gives v) after before = after
unless_refused (refuses r) after before = before

-- the answer as one number for a caller in C: `number` of the values, or the refusal's code
abbrev pub coded : {A : Type 0} → (A → ℕ) → Answer A → ℕ
coded number (gives v) = number v
coded number (refuses r) = code_of r
