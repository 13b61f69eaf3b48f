-- The checks of a product: of its cells one after another, and all checks in their order.
use mathlib.Core.Path.{◌≡◌, sym, ap, ◌∙◌}
use mathlib.Core.Bool.{Bool, cond}
use Prim.Native.Nat.{ℕ, ◌+◌, ◌*◌, ◌/◌, ◌%◌, ◌<◌}
use native.Mathlib.Omega.{arith}
use lib.Dec.{ltb}
use borrow.Author.Tests.{lt-ltb, le-ltb}
use Rattle.refusals.specs.declared.Refusal.{Refusal}
use Rattle.refusals.specs.declared.reason.Reason.{Reason}
use Rattle.refusals.specs.Refusal.{of_cell}
use Rattle.refusals.specs.Answer.{Answer, Judged, gives, refuses, done, at_cell, then}
use Rattle.refusals.proofs.Answers.{not_both, then_gives, then_refuses}
use Rattle.matrices.specs.Lists.{first}
use Rattle.matrices.specs.Matrix.{Matrix, fault_at}
use Rattle.matrices.specs.Checks.{Given, faulty, check_cells, check_both, check_slices, check_shapes, check_of}
use Rattle.matrices.proofs.Firsts.{first_none, first_more, first_here}

-- ---- 3 and 4
module _ (X : Matrix) where
  abbrev test : ℕ → Bool
  test c = faulty (fault_at X c)

  -- the cells before c have no fault
  abbrev pub Passed : ℕ → Type 0
  Passed c = first test c ≡ c

  pub passed_none : Passed 0
  passed_none = first_none test

  pub passed_more : (c : ℕ) → Passed c → fault_at X c ≡ done → Passed (c + 1)
  passed_more c h e = first_more test c h (ap faulty e)

module _ (matrix rows columns : ℕ) (X : Matrix) where
  abbrev n : ℕ
  n = rows * columns

  abbrev at : ℕ → Answer (Unit {0})
  at c = at_cell matrix (c / columns) (c % columns) (fault_at X c)

  abbrev by_position : ℕ → Answer (Unit {0})
  by_position c = cond (ltb c n) (at c) done

  pub cells_here : (c : ℕ) (reason : Reason) → Passed X c → c < rows * columns → refuses reason ≡ fault_at X c
      → refuses (of_cell reason matrix (c / columns) (c % columns)) ≡ check_cells matrix rows columns X
  unfolding check_cells
  cells_here c reason h l t =
      let s : first (test X) n ≡ c = first_here (test X) c n h (sym (ap faulty t)) l in
      ap (at_cell matrix (c / columns) (c % columns)) t ∙ sym (ap by_position s ∙ ap (λ u. cond u (at c) done) (lt-ltb c n l))

  -- the same, by the answer for the cell
  pub cells_judged : (c : ℕ) (j : Judged (Unit {0})) (x : Refusal) → Passed X c → c < rows * columns → j ≡ fault_at X c
      → at_cell matrix (c / columns) (c % columns) j ≡ refuses x → refuses x ≡ check_cells matrix rows columns X
  cells_judged c (gives v) x h l e f = absurd (not_both (sym f))
  cells_judged c (refuses n) x h l e f = sym f ∙ cells_here c n h l e

  pub cells_done : Passed X (rows * columns) → done ≡ check_cells matrix rows columns X
  unfolding check_cells
  cells_done h = sym (ap by_position h ∙ ap (λ u. cond u (at n) done) (le-ltb n n (omega arith)))

-- ---- all of them
module _ (g : Given) where
  abbrev pub both : Answer (Unit {0})
  both = check_both g.a_rows g.a_columns g.b_rows g.b_columns g.A g.B

  pub all_1 : (x : Refusal) → check_shapes g ≡ refuses x → refuses x ≡ check_of g
  unfolding check_of
  all_1 x e = then_refuses (check_shapes g) (then (check_slices g) both) x e

  pub all_2 : (x : Refusal) → check_shapes g ≡ done → check_slices g ≡ refuses x → refuses x ≡ check_of g
  unfolding check_of
  all_2 x e f = then_gives (check_shapes g) tt (then (check_slices g) both) (refuses x) e (then_refuses (check_slices g) both x f)

  pub all_3 : (r : Answer (Unit {0})) → check_shapes g ≡ done → check_slices g ≡ done → r ≡ both → r ≡ check_of g
  unfolding check_of
  all_3 r e f i = then_gives (check_shapes g) tt (then (check_slices g) both) r e (then_gives (check_slices g) tt both r f i)
