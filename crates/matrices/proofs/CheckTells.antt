-- What an accepted check tells: the method, the sizes, the slices' lengths, and that every cell is a pair of numbers in order.
use mathlib.Core.Path.{◌≡◌, refl, sym, ap, subst, ◌∙◌}
use mathlib.Core.Bool.{Bool, true, false, not, cond}
use mathlib.Core.Option.{Option, none, some}
use Prim.Native.Nat.{ℕ, ◌*◌, ◌/◌, ◌%◌, ◌≤◌, ◌<◌}
use native.Mathlib.Omega.{arith}
use lib.Dec.{T, ltb, eqb, eqb→eq, ltb→lt, nltb→le}
use lib.ListN.{length}
use Rattle.enclosure.specs.Methods.{Method}
use Rattle.refusals.specs.declared.reason.Reason.TheVariants.{UnknownMethod, WrongSize}
use Rattle.refusals.specs.Refusal.{of_matrix}
use Rattle.refusals.specs.Answer.{Judged, gives, refuses, done, at_cell}
use Rattle.refusals.specs.Sizes.{check_size, check_lengths}
use Rattle.refusals.proofs.Answers.{placed_tells, then_tells, unless_tells}
use Rattle.refusals.proofs.SizeLaws.{size_tells, lengths_tell}
use Rattle.matrices.specs.Lists.{first}
use Rattle.matrices.specs.Matrix.{Matrix, fault_at, AllFine}
use Rattle.matrices.specs.Checks.{Given, Covered, method_of, known, check_method, check_sizes, check_operands, check_lent, check_slices, faulty, check_cells, check_both, check_shapes, check_of}
use Rattle.matrices.proofs.Firsts.{first_le, first_before, first_holds}

-- ---- 9
pub method_tells : (n : ℕ) → check_method n ≡ done → (m : Method) × (method_of n ≡ some m)
unfolding check_method
method_tells n e = go (method_of n) (unless_tells (known (method_of n)) (of_matrix UnknownMethod 0) e)
  where
    go : (o : Option Method) → known o ≡ true → (m : Method) × (o ≡ some m)
    go (some m) e = (m, refl)
    go none e = let z : ◌≡◌ {A = ℕ} 0 1 = cc in absurd (omega arith)

-- ---- 1
pub record Sized (ar ac br bc : ℕ) : Type 0 where
  pub a_rows_above : 1 ≤ ar
  pub a_rows_below : ar ≤ 32
  pub a_columns_above : 1 ≤ ac
  pub a_columns_below : ac ≤ 32
  pub b_rows_above : 1 ≤ br
  pub b_rows_below : br ≤ 32
  pub b_columns_above : 1 ≤ bc
  pub b_columns_below : bc ≤ 32
  pub inner : ac ≡ br

pub sizes_tell : (ar ac br bc : ℕ) → check_sizes ar ac br bc ≡ done → Sized ar ac br bc
unfolding check_sizes
sizes_tell ar ac br bc e =
    let t = then_tells (check_size 1 ar ac) _ tt e in
    let u = then_tells (check_size 2 br bc) _ tt t.1 in
    let a = size_tells ar ac 1 t.0.1 in
    let b = size_tells br bc 2 u.0.1 in
    record {
      a_rows_above = a.0;
      a_rows_below = a.1;
      a_columns_above = a.2;
      a_columns_below = a.3;
      b_rows_above = b.0;
      b_rows_below = b.1;
      b_columns_above = b.2;
      b_columns_below = b.3;
      inner = eqb→eq ac br (subst T (sym (unless_tells (eqb ac br) (of_matrix WrongSize 2) u.1)) tt);
    }

-- ---- 2
pub record Long (g : Given) : Type 0 where
  pub a_cells : (g.a_rows * g.a_columns ≤ length g.A.lowers) × (g.a_rows * g.a_columns ≤ length g.A.uppers)
  pub b_cells : (g.b_rows * g.b_columns ≤ length g.B.lowers) × (g.b_rows * g.b_columns ≤ length g.B.uppers)
  pub a_work : (g.a_rows * g.a_columns ≤ g.a_mids) × (g.a_rows * g.a_columns ≤ g.a_rads)
  pub b_work : (g.b_rows * g.b_columns ≤ g.b_mids) × (g.b_rows * g.b_columns ≤ g.b_rads)
  pub result : (g.a_rows * g.b_columns ≤ g.lowers) × (g.a_rows * g.b_columns ≤ g.uppers)

pub slices_tell : (g : Given) → check_slices g ≡ done → Long g
unfolding check_slices check_operands check_lent
slices_tell g e =
    let a = g.a_rows * g.a_columns in
    let b = g.b_rows * g.b_columns in
    let c = g.a_rows * g.b_columns in
    let s = then_tells (check_operands a b g.A g.B) _ tt e in
    let t = then_tells (check_lengths 1 a (length g.A.lowers) (length g.A.uppers)) _ tt s.0.1 in
    let u = then_tells (check_lengths 0 a g.a_mids g.a_rads) _ tt s.1 in
    let v = then_tells (check_lengths 0 b g.b_mids g.b_rads) _ tt u.1 in
    record {
      a_cells = lengths_tell 1 a _ _ t.0.1;
      b_cells = lengths_tell 2 b _ _ t.1;
      a_work = lengths_tell 0 a _ _ u.0.1;
      b_work = lengths_tell 0 b _ _ v.0.1;
      result = lengths_tell 3 c _ _ v.1;
    }

-- ---- 3 and 4

not_faulty : (v : Judged (Unit {0})) → faulty v ≡ false → v ≡ done
not_faulty (gives tt) t = refl
not_faulty (refuses n) t = let z : ◌≡◌ {A = ℕ} 0 1 = cc in absurd (omega arith)

is_faulty : (v : Judged (Unit {0})) → v ≡ done → faulty v ≡ true → ⊥
is_faulty v e t = let z : false ≡ true = sym (ap faulty e) ∙ t in let y : ◌≡◌ {A = ℕ} 0 1 = cc in omega arith

pub cells_tell : (matrix rows columns : ℕ) (X : Matrix) → check_cells matrix rows columns X ≡ done → AllFine X (rows * columns)
unfolding check_cells
cells_tell matrix rows columns X e c l = not_faulty (fault_at X c) (first_before test n all c l)
  where
    n : ℕ
    n = rows * columns

    test : ℕ → Bool
    test c = faulty (fault_at X c)

    go : (t : Bool) → (T (not t) → n ≤ first test n) → (T t → first test n < n)
        → cond t (at_cell matrix (first test n / columns) (first test n % columns) (fault_at X (first test n))) done ≡ done → n ≤ first test n
    go true g l e = absurd (is_faulty _ (placed_tells _ _ _ _ tt e) (first_holds test n (l tt)))
    go false g l e = g tt

    all : first test n ≡ n
    all =
        let h : n ≤ first test n = go (ltb (first test n) n) (nltb→le (first test n) n) (ltb→lt (first test n) n) e in
        let i : first test n ≤ n = first_le test n in
        omega arith

-- ---- all of them
module _ (g : Given) where
  pub shapes_tell : check_shapes g ≡ done → ((m : Method) × (method_of g.method ≡ some m)) × Sized g.a_rows g.a_columns g.b_rows g.b_columns
  unfolding check_shapes
  shapes_tell e =
      let s = then_tells (check_method g.method) _ tt e in
      (method_tells g.method s.0.1, sizes_tell g.a_rows g.a_columns g.b_rows g.b_columns s.1)

  -- what the cells' check asks for
  pub a_covered : Sized g.a_rows g.a_columns g.b_rows g.b_columns → Long g → Covered g.a_rows g.a_columns g.A.lowers g.A.uppers
  a_covered s l = (s.a_columns_above, s.a_rows_below, s.a_columns_below, l.a_cells.0, l.a_cells.1)

  pub b_covered : Sized g.a_rows g.a_columns g.b_rows g.b_columns → Long g → Covered g.b_rows g.b_columns g.B.lowers g.B.uppers
  b_covered s l = (s.b_columns_above, s.b_rows_below, s.b_columns_below, l.b_cells.0, l.b_cells.1)

pub record Checked (g : Given) : Type 0 where
  pub method : (m : Method) × (method_of g.method ≡ some m)
  pub sizes : Sized g.a_rows g.a_columns g.b_rows g.b_columns
  pub lengths : Long g
  pub a_fine : AllFine g.A (g.a_rows * g.a_columns)
  pub b_fine : AllFine g.B (g.b_rows * g.b_columns)

pub checked_tells : (g : Given) → check_of g ≡ done → Checked g
unfolding check_of check_both
checked_tells g e =
    let s = then_tells (check_shapes g) _ tt e in
    let t = then_tells (check_slices g) _ tt s.1 in
    let u = then_tells (check_cells 1 g.a_rows g.a_columns g.A) (check_cells 2 g.b_rows g.b_columns g.B) tt t.1 in
    let v = shapes_tell g s.0.1 in
    record {
      method = v.0;
      sizes = v.1;
      lengths = slices_tell g t.0.1;
      a_fine = cells_tell 1 g.a_rows g.a_columns g.A u.0.1;
      b_fine = cells_tell 2 g.b_rows g.b_columns g.B u.1;
    }
