-- Laws of one record on the chain: `judge_of` by its tests, and what a cell that is passed tells. Assumes nothing.
use mathlib.Core.Path.{◌≡◌, refl, ap, ◌∙◌}
use mathlib.Core.Bool.{Bool, true, false, cond}
use Prim.Native.Nat.{ℕ, ◌*◌, ◌≤◌, ◌<◌}
use native.Mathlib.Omega.{arith}
use lib.Arith.{digits_lt}
use lib.Dec.{ltb, leb}
use borrow.Author.Tests.{le-ltb, lt-leb, leb-false, ltb-false}
use Rattle.refusals.specs.declared.reason.Reason.TheVariants.{Outside, NotRising}
use Rattle.refusals.specs.Answer.{Answer, Judged, gives, refuses, done, refuse, and_then}
use Rattle.refusals.proofs.Answers.{not_both, next_tells}
use Rattle.intervals.specs.Conversion.{outward_of}
use Rattle.sheets.specs.declared.layout.Record.{Record}
use Rattle.sheets.specs.declared.chain.Cell.{Cell}
use Rattle.sheets.specs.Cell.{worn_fault, widened_of}
use Rattle.sheets.specs.Chain.{position_of, cell_from, worn_cell, judge_of}
use Rattle.sheets.proofs.Bounding.{widened_tells}

-- the cell c that a record r passes as, by a rule for its amount
pub record Passed (rule : Record → Answer ℕ) (rows columns least : ℕ) (r : Record) (c : Cell) : Type 0 where
  pub row : r.row < rows
  pub column : r.column < columns
  pub free : least ≤ position_of columns r
  pub amount : ℕ
  pub ruled : rule r ≡ gives amount
  pub fine : worn_fault r.lower r.upper amount ≡ done
  pub outward : outward_of r.lower r.upper amount ≡ gives (c.lower, c.upper)
  pub position : position_of columns r ≡ c.position
  pub next : r.next ≡ c.next

cell_tells : (columns : ℕ) (r : Record) (c : Cell) (x : Judged (ℕ × ℕ)) → cell_from columns r x ≡ gives c
    → (x ≡ gives (c.lower, c.upper)) × (position_of columns r ≡ c.position) × (r.next ≡ c.next)
cell_tells columns r c (refuses x) h = absurd (not_both h)
cell_tells columns r c (gives x) h =
    let d : ◌≡◌ {A = Cell} (record { next = r.next; position = position_of columns r; lower = x.0; upper = x.1 }) c = cc in
    (ap (λ (y : Cell). gives (y.lower, y.upper)) d, ap (λ (y : Cell). y.position) d, ap (λ (y : Cell). y.next) d)

module _ (rule : Record → Answer ℕ) (rows columns least : ℕ) (r : Record) where
  -- 7 by row and by column, 8; then the answer x by the rule and the bounds
  abbrev by_tests : Bool → Bool → Bool → Answer Cell → Answer Cell
  by_tests s t u x = cond s (refuse Outside) (cond t (refuse Outside) (cond u (refuse NotRising) x))

  pub judge_by : (s t u : Bool) → leb rows r.row ≡ s → leb columns r.column ≡ t → ltb (position_of columns r) least ≡ u
      → by_tests s t u (and_then (rule r) (worn_cell columns r)) ≡ judge_of rule rows columns least r
  unfolding judge_of
  judge_by s t u a b c = rw (a, b, c)

  -- a record that passes 7 and 8
  pub judge_ruled : r.row < rows → r.column < columns → least ≤ position_of columns r → and_then (rule r) (worn_cell columns r) ≡ judge_of rule rows columns least r
  judge_ruled h k l = judge_by false false false (lt-leb rows r.row h) (lt-leb columns r.column k) (le-ltb (position_of columns r) least l)

  -- and has the amount w
  pub judge_cell : (w : ℕ) (x : Judged (ℕ × ℕ)) → r.row < rows → r.column < columns → least ≤ position_of columns r → rule r ≡ gives w
      → widened_of r.lower r.upper w ≡ x → cell_from columns r x ≡ judge_of rule rows columns least r
  judge_cell w x h k l e f = rw (← f, ← judge_ruled h k l, e)

  pub judge_passed : (c : Cell) → judge_of rule rows columns least r ≡ gives c → Passed rule rows columns least r c
  judge_passed c e = go (leb rows r.row) (leb columns r.column) (ltb (position_of columns r) least) refl refl refl (judge_by _ _ _ refl refl refl ∙ e)
    where
      go : (s t u : Bool) → leb rows r.row ≡ s → leb columns r.column ≡ t → ltb (position_of columns r) least ≡ u
          → by_tests s t u (and_then (rule r) (worn_cell columns r)) ≡ gives c → Passed rule rows columns least r c
      go true t u i j k h = absurd (not_both h)
      go false true u i j k h = absurd (not_both h)
      go false false true i j k h = absurd (not_both h)
      go false false false i j k h =
          let n = next_tells (rule r) (worn_cell columns r) c h in
          let y = cell_tells columns r c (widened_of r.lower r.upper n.0) n.2 in
          let z = widened_tells _ _ _ _ y.0 in
          record {
            row = leb-false _ _ i;
            column = leb-false _ _ j;
            free = ltb-false _ _ k;
            amount = n.0;
            ruled = n.1;
            fine = z.0;
            outward = z.1;
            position = y.1;
            next = y.2;
          }

-- its position is free, and in the matrix
pub judge_tells : (rule : Record → Answer ℕ) (rows columns least : ℕ) (r : Record) (c : Cell) → judge_of rule rows columns least r ≡ gives c
    → (least ≤ c.position) × (c.position < rows * columns)
judge_tells rule rows columns least r c e =
    let k = judge_passed rule rows columns least r c e in
    (omega (arith, k.free, k.position), omega (arith, k.position, digits_lt k.row k.column))
