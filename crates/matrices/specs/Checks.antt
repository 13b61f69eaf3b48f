-- The checks of a product before it computes anything, in their order. Definitions only.
use Rattle.std.specs.Prelude.{Bool, true, false, cond, List, ℕ, ◌*◌, ◌/◌, ◌%◌, ◌≤◌, ◌<◌, ltb, eqb, length}
use Rattle.std.proofs.Math.Option.{Option, none, some, get_or}
use Rattle.enclosure.specs.Methods.{Method, classical, three, four, five, seven}
use Rattle.refusals.specs.declared.reason.Reason.TheVariants.{UnknownMethod, WrongSize}
use Rattle.refusals.specs.Refusal.{of_matrix}
use Rattle.refusals.specs.Answer.{Answer, Judged, gives, refuses, done, at_cell, unless, then}
use Rattle.refusals.specs.Sizes.{check_size, check_lengths}
use Rattle.matrices.specs.Lists.{first}
use Rattle.matrices.specs.Matrix.{Matrix, of_bounds, fault_at}

-- the arguments of a product: the method's number, the sizes, the two matrices, and the lengths of the slices lent for writing
pub record Given : Type 0 where
  pub method : ℕ
  pub a_rows : ℕ
  pub a_columns : ℕ
  pub b_rows : ℕ
  pub b_columns : ℕ
  pub A : Matrix
  pub B : Matrix
  pub a_mids : ℕ
  pub a_rads : ℕ
  pub b_mids : ℕ
  pub b_rads : ℕ
  pub lowers : ℕ
  pub uppers : ℕ

-- the arguments from the bounds of A and B and the lengths of the lent slices
abbrev pub given : (method ar ac br bc : ℕ) (al au bl bu : List ℕ) (ma ra mb rb lo up : ℕ) → Given
given method ar ac br bc al au bl bu ma ra mb rb lo up =
    record {
      method = method;
      a_rows = ar;
      a_columns = ac;
      b_rows = br;
      b_columns = bc;
      A = of_bounds al au;
      B = of_bounds bl bu;
      a_mids = ma;
      a_rads = ra;
      b_mids = mb;
      b_rads = rb;
      lowers = lo;
      uppers = up;
    }

-- the same from the lent slices themselves
abbrev pub called : (method ar ac br bc : ℕ) (al au bl bu ma ra mb rb lo up : List ℕ) → Given
called method ar ac br bc al au bl bu ma ra mb rb lo up =
    given method ar ac br bc al au bl bu (length ma) (length ra) (length mb) (length rb) (length lo) (length up)

-- ---- refusal 9: the method is not 1, 3, 4, 5 or 7
unfoldable pub method_of : ℕ → Option Method
method_of n =
    cond (eqb n 1) (some classical) (cond (eqb n 3) (some three) (cond (eqb n 4) (some four) (cond (eqb n 5) (some five) (cond (eqb n 7) (some seven) none))))

-- the method with the number n; where n is not 1, 3, 4, 5 or 7 (refusal 9) this value is not used
abbrev pub chosen : ℕ → Method
chosen n = get_or (method_of n) classical

-- whether there is a method
abbrev pub known : Option Method → Bool
known (some m) = true
known none = false

unfoldable pub check_method : ℕ → Answer (Unit {0})
check_method n = unless (known (method_of n)) (of_matrix UnknownMethod 0)

-- ---- refusal 1: A's sizes (matrix 1), then B's sizes or the mismatch of A's columns and B's rows (matrix 2)
unfoldable pub check_sizes : ℕ → ℕ → ℕ → ℕ → Answer (Unit {0})
check_sizes ar ac br bc = then (check_size 1 ar ac) (then (check_size 2 br bc) (unless (eqb ac br) (of_matrix WrongSize 2)))

-- ---- refusal 2: a slice is shorter than its cells; in this order A's (matrix 1), B's (2), work slices (0, for method 1 too), result (3)
unfoldable pub check_operands : (a b : ℕ) → Matrix → Matrix → Answer (Unit {0})
check_operands a b A B = then (check_lengths 1 a (length A.lowers) (length A.uppers)) (check_lengths 2 b (length B.lowers) (length B.uppers))

unfoldable pub check_lent : (a b c ma ra mb rb lo up : ℕ) → Answer (Unit {0})
check_lent a b c ma ra mb rb lo up = then (check_lengths 0 a ma ra) (then (check_lengths 0 b mb rb) (check_lengths 3 c lo up))

unfoldable pub check_slices : Given → Answer (Unit {0})
check_slices g =
    let a = g.a_rows * g.a_columns in
    let b = g.b_rows * g.b_columns in
    let c = g.a_rows * g.b_columns in
    then (check_operands a b g.A g.B) (check_lent a b c g.a_mids g.a_rads g.b_mids g.b_rads g.lowers g.uppers)

-- ---- refusals 3 and 4: the first faulty cell by rows; at each cell 3 before 4
abbrev pub faulty : Judged (Unit {0}) → Bool
faulty (gives v) = false
faulty (refuses n) = true

unfoldable pub check_cells : ℕ → ℕ → ℕ → Matrix → Answer (Unit {0})
check_cells matrix rows columns X =
    let c = first (λ c. faulty (fault_at X c)) (rows * columns) in
    cond (ltb c (rows * columns)) (at_cell matrix (c / columns) (c % columns) (fault_at X c)) done

-- A's cells, then B's
unfoldable pub check_both : (ar ac br bc : ℕ) → Matrix → Matrix → Answer (Unit {0})
check_both ar ac br bc A B = then (check_cells 1 ar ac A) (check_cells 2 br bc B)

-- what the checks before have shown of a matrix when its cells are checked
abbrev pub Covered : (rows columns : ℕ) → List ℕ → List ℕ → Type 0
Covered rows columns lowers uppers = (0 < columns) × (rows ≤ 32) × (columns ≤ 32) × (rows * columns ≤ length lowers) × (rows * columns ≤ length uppers)

-- ---- all checks, in their order

-- refusals 9 and 1
unfoldable pub check_shapes : Given → Answer (Unit {0})
check_shapes g = then (check_method g.method) (check_sizes g.a_rows g.a_columns g.b_rows g.b_columns)

unfoldable pub check_of : Given → Answer (Unit {0})
check_of g = then (check_shapes g) (then (check_slices g) (check_both g.a_rows g.a_columns g.b_rows g.b_columns g.A g.B))
