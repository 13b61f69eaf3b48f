-- `chain::judge` meets its contract: each return is a case of the definition.
use mathlib.Core.Path.{◌≡◌, refl, sym, ap, ◌∙◌}
use mathlib.Core.Bool.{true, false}
use mathlib.Core.List.{List}
use native.Mathlib.Omega.{arith}
use Prim.Native.Nat.{ℕ, ◌≤◌, ◌<◌}
use borrow.Author.Rules.{rules}
use borrow.Author.Tests.{le-leb, lt-leb, lt-ltb}
use Rattle.refusals.specs.Answer.{Answer, Judged, gives, refuses, done, at_cell, and_then, then}
use Rattle.sheets.specs.declared.amount.Kind.{Kind}
use Rattle.sheets.specs.declared.layout.Record.{Record}
use Rattle.sheets.specs.declared.chain.Cell.{Cell}
use Rattle.sheets.specs.Amount.{cell_amount}
use Rattle.sheets.specs.Cell.{widened_of}
use Rattle.sheets.specs.Chain.{position_of, cell_from, worn_cell, judge_of}
use Rattle.sheets.proofs.CellAmounts.{amount_given, amount_refused}
use Rattle.sheets.proofs.Judging.{judge_by, judge_ruled}
use Rattle.sheets.proofs.chain.judge.Goals as goal

abbrev verdict : Answer Cell → Answer (Unit {0})
verdict j = then j done

placing_is : (columns : ℕ) (r : Record) (a : Judged (ℕ × ℕ)) → at_cell 0 r.row r.column (then a done) ≡ verdict (cell_from columns r a)
placing_is columns r (gives x) = refl
placing_is columns r (refuses x) = refl

pub returns-then-row-rows : goal.returns-then-row-rows
returns-then-row-rows c = ap refuses c.of_matrix.ensures ∙ ap verdict (judge_by _ _ _ _ _ true _ _ (le-leb c.args.sizes.rows c.args.r.row (omega arith)) refl refl)

pub returns-then-column-columns : goal.returns-then-column-columns
returns-then-column-columns c =
    ap refuses c.of_matrix-then-column-columns.ensures ∙ ap verdict (judge_by _ _ _ _ _ false true _ (lt-leb c.args.sizes.rows c.args.r.row (omega arith)) (le-leb c.args.sizes.columns c.args.r.column (omega arith)) refl)

pub returns-then-position-least : goal.returns-then-position-least
returns-then-position-least c =
    ap refuses c.of_matrix-then-position-least.ensures
    ∙ ap verdict (judge_by _ _ _ _ _ false false true (lt-leb c.args.sizes.rows c.args.r.row (omega arith)) (lt-leb c.args.sizes.columns c.args.r.column (omega arith)) (lt-ltb (position_of c.args.sizes.columns c.args.r) c.args.least (omega arith)))

module _ (kind : Kind) (amounts : List ℕ) (rows columns least : ℕ) (r : Record) (h : r.row < rows) (k : r.column < columns) (l : least ≤ position_of columns r) where
  -- 7 and 8 have passed: by the amount x
  amounted : (x : Answer ℕ) → x ≡ cell_amount kind amounts r → verdict (and_then x (worn_cell columns r)) ≡ verdict (judge_of (cell_amount kind amounts) rows columns least r)
  amounted x e = ap (λ v. verdict (and_then v (worn_cell columns r))) e ∙ ap verdict (judge_ruled _ _ _ _ _ h k l)

  -- with the amount w: by the answer z on the bounds
  worn : (w : ℕ) (z : Judged (Unit {0})) → gives w ≡ cell_amount kind amounts r → z ≡ then (widened_of r.lower r.upper w) done
      → at_cell 0 r.row r.column z ≡ verdict (judge_of (cell_amount kind amounts) rows columns least r)
  worn w z e f = ap (at_cell 0 r.row r.column) f ∙ placing_is columns r (widened_of r.lower r.upper w) ∙ amounted (gives w) e

pub returns-in_err-check_wear : goal.returns-in_err-check_wear
returns-in_err-check_wear c =
    let a = c.args in
    let e : c.from_residual.result ≡ refuses c.in_err-check_wear.field-0.0 = search rules in
    e
    ∙ amounted a.rule.kind a.rule.amounts.now a.sizes.rows a.sizes.columns a.least a.r (omega arith) (omega arith) (omega arith) _
    (amount_refused _ _ _ _ (sym c.check_wear.ensures ∙ c.in_err-check_wear.was))

pub amount-requires : goal.amount-requires
amount-requires c = sym c.check_wear.ensures ∙ c.in_ok-check_wear.was

pub returns : goal.returns
returns c =
    let a = c.args in
    let e : c.map_err.result ≡ at_cell 0 a.r.row a.r.column c.check_worn.result = search rules in
    e
    ∙ worn a.rule.kind a.rule.amounts.now a.sizes.rows a.sizes.columns a.least a.r (omega arith) (omega arith) (omega arith) _ _
    (ap gives c.amount.ensures ∙ amount_given _ _ _ (sym c.check_wear.ensures ∙ c.in_ok-check_wear.was)) c.check_worn.ensures
