-- The order of the chain: a position that rises is a cell that comes later by row, then column, and 8 is said of a cell exactly where it does not. Assumes nothing.
use mathlib.Core.Path.{◌≡◌, refl, sym, ap, ◌∙◌}
use mathlib.Core.Bool.{Bool, true, false, cond, not}
use mathlib.Core.List.{List}
use mathlib.Core.Logic.{◌↔◌, ◌⊎◌, inl, inr}
use mathlib.Core.Option.{Option, none, some}
use Prim.Native.Nat.{ℕ, ◌+◌, ◌*◌, ◌≤◌, ◌<◌}
use native.Mathlib.Omega.{arith}
use lib.Arith.{digits_lt}
use lib.Dec.{leb, ltb}
use lib.IntN.{ℤ}
use borrow.Author.Tests.{lt-leb, lt-ltb, ltb-true, ltb-false}
use Rattle.rounding.specs.Rounding.{up, down}
use Rattle.refusals.specs.declared.reason.Reason.TheVariants.{NotFinite, Crossed, WrongLayout, NotRising, UnknownClass, NegativeAmount}
use Rattle.refusals.specs.Reason.{number_of}
use Rattle.refusals.specs.declared.Refusal.{Refusal}
use Rattle.refusals.specs.Refusal.{of_matrix, of_cell}
use Rattle.refusals.specs.Answer.{Answer, Judged, gives, refuses, done, refuse, unless, and_then, then, both}
use Rattle.refusals.proofs.Answers.{not_both}
use Rattle.binary32.specs.Number.{value_of, finite, finites}
use Rattle.binary32.specs.Operations.{add, sub, answer_of, answer, sub_down, add_up}
use Rattle.binary32.specs.Order.{at_most}
use Rattle.intervals.specs.Conversion.{fault_of, outward_of}
use Rattle.sheets.specs.declared.amount.Kind.{Kind}
use Rattle.sheets.specs.declared.amount.Kind.TheVariants.{Classes, Amounts}
use Rattle.sheets.specs.declared.layout.Record.{Record}
use Rattle.sheets.specs.declared.chain.Cell.{Cell}
use Rattle.sheets.specs.Amount.{below_zero, check_wear, wear_amount, cell_amount}
use Rattle.sheets.specs.Cell.{worn_fault, widened_of}
use Rattle.sheets.specs.Chain.{position_of, cell_from, worn_cell, judge_of}
use Rattle.sheets.proofs.Judging.{judge_by, judge_ruled}

-- the cell in row i and column j comes before that in row k and column l
abbrev pub Before : ℕ → ℕ → ℕ → ℕ → Type 0
Before i j k l = (i < k) ⊎ ((i ≡ k) × (j < l))

module _ (n i j k l : ℕ) (hj : j < n) (hl : l < n) where
  to : i * n + j < k * n + l → Before i j k l
  to h = go (ltb i k) (ltb k i) refl refl
    where
      go : (s t : Bool) → ltb i k ≡ s → ltb k i ≡ t → Before i j k l
      go true t p q = inl (ltb-true i k p)
      go false true p q = absurd (omega (arith, digits_lt (ltb-true k i q) hl))
      go false false p q =
          let e : i ≡ k = omega (arith, ltb-false i k p, ltb-false k i q) in
          let m : i * n ≡ k * n = ap (λ (x : ℕ). x * n) e in
          inr (e, omega arith)

  from : Before i j k l → i * n + j < k * n + l
  from (inl h) = omega (arith, digits_lt h hj)
  from (inr (e, h)) = let m : i * n ≡ k * n = ap (λ (x : ℕ). x * n) e in omega arith

-- ---- 8, `NotRising`, is said of the order alone: no bound and no amount is refused with it

-- the number of a reason is 5 or less: a cell's widening is refused with 3, 4 or 5
abbrev Low : {A : Type 0} → Judged A → Type 0
Low (gives v) = Unit {0}
Low (refuses x) = number_of x ≤ 5

answer_low : (op : ℤ → ℤ → Option ℤ) (a b : ℕ) → Low (answer op a b)
unfolding answer
answer_low op a b = go (finites a b) (op (value_of a) (value_of b))
  where
    go : (t : Bool) (o : Option ℤ) → Low (cond t (answer_of o) (refuses NotFinite))
    go true (some v) = tt
    go true none = omega arith
    go false o = omega arith

both_low : {A B : Type 0} (a : Judged A) (b : Judged B) → Low a → Low b → Low (both a b)
both_low (gives v) (gives w) h k = tt
both_low (gives v) (refuses r) h k = k
both_low (refuses r) b h k = h

widened_low : (a b w : ℕ) → Low (widened_of a b w)
unfolding widened_of worn_fault fault_of
widened_low a b w = go (finite w) (finites a b) (at_most a b) (both_low (sub_down a w) (add_up b w) (answer_low (sub down) a w) (answer_low (add up) b w))
  where
    go : (r s t : Bool) → Low (outward_of a b w)
        → Low (then (then (unless r NotFinite) (cond s (cond t done (refuses Crossed)) (refuses NotFinite))) (outward_of a b w))
    go true true true h = h
    go true true false h = omega arith
    go true false t h = omega arith
    go false s t h = omega arith

-- nor is an amount refused with 8: 6, 10 and 14 are other numbers too
abbrev No8 : {A : Type 0} → Answer A → Type 0
No8 (gives v) = Unit {0}
No8 (refuses x) = number_of x.reason ≡ 8 → ⊥

amount_no8 : (kind : Kind) (amounts : List ℕ) (r : Record) → No8 (cell_amount kind amounts r)
unfolding check_wear cell_amount
amount_no8 Classes amounts r = go (ltb 255 r.wear) (leb r.wear 7)
  where
    go : (t u : Bool) → No8 (then (cond t (refuse WrongLayout) (unless u (of_cell UnknownClass 0 r.row r.column))) (gives (wear_amount Classes amounts r.wear)))
    go true u = λ e. omega arith
    go false true = tt
    go false false = λ e. omega arith
amount_no8 Amounts amounts r = go (below_zero r.wear)
  where
    go : (t : Bool) → No8 (then (unless (not t) (of_cell NegativeAmount 0 r.row r.column)) (gives (wear_amount Amounts amounts r.wear)))
    go true = λ e. omega arith
    go false = tt

-- a record r after q, both in the matrix: 8 exactly where q does not come before r
module _ (kind : Kind) (amounts : List ℕ) (rows columns : ℕ) (q r : Record) (hq : q.column < columns) (hr : r.row < rows) (hc : r.column < columns) where
  abbrev rule : Record → Answer ℕ
  rule = cell_amount kind amounts

  abbrev Later : Type 0
  Later = Before q.row q.column r.row r.column

  unordered : (Later → ⊥) → judge_of rule rows columns (position_of columns q + 1) r ≡ refuse NotRising
  unordered h =
      sym (judge_by rule rows columns (position_of columns q + 1) r false false true (lt-leb rows r.row hr) (lt-leb columns r.column hc)
      (lt-ltb (position_of columns r) (position_of columns q + 1) (below (ltb (position_of columns q) (position_of columns r)) refl)))
    where
      below : (t : Bool) → ltb (position_of columns q) (position_of columns r) ≡ t → position_of columns r < position_of columns q + 1
      below true e = absurd (h (to columns q.row q.column r.row r.column hq hc (ltb-true _ _ e)))
      below false e = omega (arith, ltb-false (position_of columns q) (position_of columns r) e)

  ordered : judge_of rule rows columns (position_of columns q + 1) r ≡ refuse NotRising → Later → ⊥
  ordered e h =
      let f : position_of columns q < position_of columns r = from columns q.row q.column r.row r.column hq hc h in
      go (cell_amount kind amounts r) (amount_no8 kind amounts r) (judge_ruled rule rows columns (position_of columns q + 1) r hr hc (omega arith) ∙ e)
    where
      no : (x : Refusal) → refuses x ≡ refuse {A = Cell} NotRising → (number_of x.reason ≡ 8 → ⊥) → ⊥
      no x k n = n (let z : x ≡ of_matrix NotRising 0 = cc in ap (λ (y : Refusal). number_of y.reason) z)

      bounds : (x : Judged (ℕ × ℕ)) → Low x → cell_from columns r x ≡ refuse NotRising → ⊥
      bounds (gives x) l k = not_both (sym k)
      bounds (refuses x) l k = no _ k (λ n. omega arith)

      go : (a : Answer ℕ) → No8 a → and_then a (worn_cell columns r) ≡ refuse NotRising → ⊥
      go (refuses x) n k = no x k n
      go (gives w) n k = bounds (widened_of r.lower r.upper w) (widened_low r.lower r.upper w) k

  pub unordered_is : (judge_of rule rows columns (position_of columns q + 1) r ≡ refuse NotRising) ↔ (Later → ⊥)
  unordered_is = (ordered, unordered)
