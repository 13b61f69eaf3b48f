-- What a running entry shows after any calls: the entry by method 1 over all pairs taken, each widened by the amounts in force when it was taken.
-- Definitions only.
use Rattle.std.specs.Prelude.{◌≡◌, not, List, [], ◌∷◌, ◌++◌, ℕ, ltb, length, get_or}
use Rattle.std.proofs.Math.Option.{Option}
use Rattle.rounding.specs.Format.{binary32, units}
use Rattle.enclosure.specs.Arithmetic.{of}
use Rattle.enclosure.specs.Cell.{Cell}
use Rattle.enclosure.specs.Methods.{Range, classical, entry}
use Rattle.enclosure.specs.Demand.{Encloses}
use Rattle.refusals.specs.declared.reason.Reason.TheVariants.{WrongSize, TooLarge}
use Rattle.refusals.specs.Answer.{Answer, gives, done, unplaced, unless, then, and_then}
use Rattle.refusals.specs.Sizes.{largest_size}
use Rattle.matrices.specs.Entries.{refused}
use Rattle.sheets.specs.Wear.{fixed_amounts}
use Rattle.sheets.specs.Load.{load_of}
use Rattle.products.specs.Classical.{pattern_cell}
use Rattle.products.specs.Pair.{range_of, range_answer}
use Rattle.running.specs.declared.cell.Gauged.{Gauged}
use Rattle.running.specs.declared.Running.{Running}
use Rattle.running.specs.declared.Shown.{Shown}
use Rattle.running.specs.Gauged.{gauged_of}
use Rattle.running.specs.Value.{new_of, take_of, exchange_of, or_same}

-- the calls on a value from its beginning, refused ones too: none yet; or those of a history and then a pair of cells, or a load
pub data History : Type 0 where
  new : History
  take : History → Gauged → Gauged → History
  exchange : History → List ℕ → History

-- ---- the value that the calls carry on

unfoldable pub carried : History → Running
carried new = new_of
carried (take h a b) = or_same (take_of (carried h) a b) (carried h)
carried (exchange h load) = or_same (exchange_of (carried h) load) (carried h)

-- ---- what it stands for

-- a pair of cells as it was taken: the bounds of each, widened
abbrev pub Pair : Type 0
Pair = (ℕ × ℕ) × (ℕ × ℕ)

-- the first and the second cell of pair l
abbrev pub first_at : List Pair → ℕ → Cell
first_at ps l = let x = (get_or ps l ((0, 0), (0, 0))).0 in pattern_cell x.0 x.1

abbrev pub second_at : List Pair → ℕ → Cell
second_at ps l = let x = (get_or ps l ((0, 0), (0, 0))).1 in pattern_cell x.0 x.1

-- the entry by method 1 over these pairs, in order; none where a step is refused
unfoldable pub entry_over : List Pair → Option Range
entry_over ps = entry (of binary32) classical (length ps) (first_at ps) (second_at ps)

-- the amounts in force, and the pairs taken so far, each as it was widened then
pub record Taken : Type 0 where
  pub amounts : List ℕ
  pub pairs : List Pair

-- one pair more: refused as the thirty-third, then by the first cell, by the second, and as too large where the entry over all pairs is
unfoldable pub taken_with : Taken → Gauged → Gauged → Answer Taken
taken_with t a b =
    unplaced (then (unless (ltb (length t.pairs) largest_size) WrongSize)
    (and_then (gauged_of t.amounts a) λ x. and_then (gauged_of t.amounts b) λ y.
    then (unless (not (refused (entry_over (t.pairs ++ ((x, y) ∷ []))))) TooLarge)
    (gives (record { amounts = t.amounts; pairs = t.pairs ++ ((x, y) ∷ []) }))))

-- other amounts for the pairs that follow
unfoldable pub taken_load : Taken → List ℕ → Answer Taken
taken_load t load = unplaced (and_then (load_of load) λ amounts. gives (record { amounts = amounts; pairs = t.pairs }))

-- what is taken after a history: what was refused changes nothing
unfoldable pub taken : History → Taken
taken new = record { amounts = fixed_amounts; pairs = [] }
taken (take h a b) = or_same (taken_with (taken h) a b) (taken h)
taken (exchange h load) = or_same (taken_load (taken h) load) (taken h)

-- ---- the promise: a range shown after a history is the entry over all pairs taken, as patterns, and the number is theirs; and whatever fractions are
-- picked from the cells as they were taken, the sum of their products lies in the range
pub record ShowsAfter (h : History) (s : Shown) : Type 0 where
  pub pairs : s.pairs ≡ length (taken h).pairs
  pub range : range_answer (entry_over (taken h).pairs) ≡ gives (s.lower, s.upper)
  pub encloses :
      Encloses (units binary32) (length (taken h).pairs) (first_at (taken h).pairs) (second_at (taken h).pairs) (range_of (s.lower, s.upper))

-- ---- of a value v, whatever calls carried it on

-- the answer o to a pair of cells is that of the pairs taken
abbrev pub AnswersAfter : Running → Gauged → Gauged → Answer (Unit {0}) → Type 0
AnswersAfter v a b o = (h : History) → v ≡ carried h → o ≡ then (taken_with (taken h) a b) done

-- what it shows is the promise
abbrev pub ShowsEntry : Running → Shown → Type 0
ShowsEntry v s = (h : History) → v ≡ carried h → ShowsAfter h s
