-- Laws of the count of a matrix's cells, with 3 and 4 by cells: one for each way out of `scan`, and what a count tells. Assumes nothing.
use mathlib.Core.Path.{◌≡◌, refl, sym, ap, ◌∙◌}
use mathlib.Core.Bool.{Bool, true, false, cond}
use mathlib.Core.List.{List}
use mathlib.Core.Logic.{⊎_elim}
use Prim.Native.Nat.{ℕ, zero, suc, ◌+◌, ◌-◌, ◌/◌, ◌%◌, ◌<◌}
use native.Mathlib.Nat.{add-zero, add-suc, eq-or-lt_of_le}
use native.Mathlib.Numerals.{add-one}
use native.Mathlib.Omega.{arith}
use lib.ListN.{get_or}
use Rattle.std.specs.Prelude.{Option, Some, None, is_some}
use Rattle.refusals.specs.declared.Refusal.{Refusal}
use Rattle.refusals.specs.declared.reason.Reason.{Reason}
use Rattle.refusals.specs.Refusal.{of_cell}
use Rattle.refusals.specs.Answer.{Answer, Judged, gives, refuses, done, at_cell, then}
use Rattle.refusals.proofs.Answers.{not_both, next_tells}
use Rattle.intervals.specs.Conversion.{fault_of}
use Rattle.sheets.specs.Cell.{HandedIn, canonical_of, both_zero, handed_of}
use Rattle.sheets.specs.Sheet.{cell_at, tally, count_to}
use Rattle.sheets.specs.Writing.{unless_faulty, scan_to}

tally_is : (x : Option (ℕ × ℕ)) (t : Bool) → t ≡ is_some x → tally (gives x) ≡ cond t 1 0
unfolding tally
tally_is None t h = rw h
tally_is (Some (a, b)) t h = rw h

module _ (columns : ℕ) (lo up : List ℕ) where
  pub scan_none : scan_to columns lo up 0 ≡ gives 0
  unfolding scan_to
  scan_none = refl

  -- the cell at position p, handed in as b
  pub scan_more : (p k : ℕ) (b : HandedIn) → scan_to columns lo up p ≡ gives k → cell_at lo up p ≡ b → scan_to columns lo up (p + 1) ≡ unless_faulty columns p b (gives (k + tally b))
  unfolding scan_to
  scan_more p k b e f = rw (add-one, e, f)

  -- a cell without a fault, of which the code asks whether it gets a record
  pub scan_counted : (p k : ℕ) (z : HandedIn) (x : Option (ℕ × ℕ)) (t : Bool) → scan_to columns lo up p ≡ gives k → z ≡ cell_at lo up p → z ≡ gives x → t ≡ is_some x
      → scan_to columns lo up (p + 1) ≡ gives (k + cond t 1 0)
  scan_counted p k z x t e f g h = scan_more p k (gives x) e (sym f ∙ g) ∙ ap (λ (n : ℕ). gives (k + n)) (tally_is x t h)

  stays : (p y : ℕ) (r : Refusal) → scan_to columns lo up p ≡ refuses r → scan_to columns lo up (p + y) ≡ refuses r
  unfolding scan_to
  stays p zero r e = simp add-zero e
  stays p (suc y) r e = rw (add-suc, stays p y r e)

  pub scan_faulty : (p m k : ℕ) (x : Reason) → p < m → scan_to columns lo up p ≡ gives k → cell_at lo up p ≡ refuses x → scan_to columns lo up m ≡ refuses (of_cell x 0 (p / columns) (p % columns))
  scan_faulty p m k x h e f =
      let y : p + 1 + (m - (p + 1)) ≡ m = omega arith in
      rw (← y) (stays (p + 1) (m - (p + 1)) _ (scan_more p k (refuses x) e f))

  -- the same, by the answer for the cell
  pub scan_judged : (p m k : ℕ) (j : HandedIn) (x : Refusal) → p < m → scan_to columns lo up p ≡ gives k → cell_at lo up p ≡ j
      → at_cell 0 (p / columns) (p % columns) j ≡ refuses x → refuses x ≡ scan_to columns lo up m
  scan_judged p m k (gives v) x h e f g = absurd (not_both (sym g))
  scan_judged p m k (refuses n) x h e f g = sym (ap again g) ∙ sym (scan_faulty p m k n h e f)
    where
      again : Answer (Option (ℕ × ℕ)) → Answer ℕ
      again (gives v) = gives 0
      again (refuses r) = refuses r

  cell_fine : (p k m a b : ℕ) → unless_faulty columns p (handed_of a b) (gives m) ≡ gives k → (k ≡ m) × (fault_of a b ≡ done)
  unfolding handed_of
  cell_fine p k m a b e = go (fault_of a b) (both_zero (canonical_of a) (canonical_of b)) refl e
    where
      go : (s : Judged (Unit {0})) (t : Bool) → fault_of a b ≡ s → unless_faulty columns p (then s (cond t (gives None) (gives (Some (canonical_of a, canonical_of b))))) (gives m) ≡ gives k
          → (k ≡ m) × (fault_of a b ≡ done)
      go (gives u) true i h = (cc, i)
      go (gives u) false i h = (cc, i)
      go (refuses n) t i h = absurd (not_both h)

  -- k of the first p cells are not [0, 0], and none has a fault
  pub scan_tells : (p k : ℕ) → scan_to columns lo up p ≡ gives k → (k ≡ count_to lo up p) × ((q : ℕ) → q < p → fault_of (get_or lo q 0) (get_or up q 0) ≡ done)
  unfolding scan_to count_to
  scan_tells zero k e = (cc, λ q h. absurd (omega arith))
  scan_tells (suc p) k e =
      let t = next_tells (scan_to columns lo up p) _ k e in
      let g = cell_fine p k _ _ _ t.2 in
      let h = scan_tells p t.0 t.1 in
      (g.0 ∙ ap (λ (n : ℕ). n + tally (cell_at lo up p)) h.0, λ q v. ⊎_elim (λ (w : q ≡ p). rw w g.1) (h.1 q) (eq-or-lt_of_le (omega arith)))
