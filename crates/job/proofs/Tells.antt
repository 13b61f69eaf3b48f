-- What a read and a step of the fold that are not refused tell. Assumes nothing.
use mathlib.Core.Path.{◌≡◌, sym, ap, ap₂, ◌∙◌}
use mathlib.Core.List.{List}
use Prim.Native.Nat.{ℕ}
use lib.Dec.{eqb}
use borrow.Author.Tests.{eqb-true}
use Rattle.refusals.specs.declared.reason.Reason.TheVariants.{WrongSize}
use Rattle.refusals.specs.Refusal.{of_matrix}
use Rattle.refusals.specs.Answer.{gives, done, naming, unless}
use Rattle.refusals.proofs.Answers.{gives_injective, then_tells, unless_tells, naming_tells, next_tells}
use Rattle.sheets.specs.Layout.{rows_of, columns_of}
use Rattle.sheets.specs.Reading.{sizes}
use Rattle.sheets.proofs.Answers.{done_tells}
use Rattle.matrices.specs.Product.{product_of}
use Rattle.job.specs.Factor.{Factor, matrix_in, sheet_read, read_as}
use Rattle.job.specs.Fold.{operands, product_in, times_of, step_of}

pub record WasRead (s : List ℕ) (Y : Factor) : Type 0 where
  pub answer : sheet_read s ≡ gives (sizes (rows_of s) (columns_of s))
  pub matrix : Y ≡ matrix_in s

pub read_tells : (p : ℕ) (s : List ℕ) (Y : Factor) → read_as p s ≡ gives Y → WasRead s Y
unfolding read_as
read_tells p s Y e =
    let t = then_tells (naming p (sheet_read s)) (gives (matrix_in s)) Y e in
    let f = naming_tells p (sheet_read s) t.0.0 t.0.1 in
    let d = done_tells s 1024 1024 t.0.0.rows t.0.0.columns f in
    record { answer = f ∙ ap₂ (λ (r c : ℕ). gives (sizes r c)) (sym d.rows) (sym d.columns); matrix = sym (gives_injective t.1) }

pub record Stepped (method : ℕ) (X Y : Factor) (s : List ℕ) : Type 0 where
  pub answer : sheet_read s ≡ gives (sizes (rows_of s) (columns_of s))
  pub fits : X.columns ≡ rows_of s
  pub product : product_of (operands method X (matrix_in s)) ≡ done
  pub matrix : Y ≡ product_in method X (matrix_in s)

pub step_tells : (method n p : ℕ) (X : Factor) (s : List ℕ) (Z : Factor) → step_of method n p X s ≡ gives Z → Stepped method X Z s
unfolding step_of times_of
step_tells method n p X s Z e =
    let r = next_tells (read_as p s) _ Z e in
    let Y = r.0 in
    let w = read_tells p s Y r.1 in
    let t = then_tells (unless (eqb X.columns Y.rows) (of_matrix WrongSize p)) (times_of method n X Y) Z r.2 in
    let u = then_tells (naming n (product_of (operands method X Y))) (gives (product_in method X Y)) Z t.1 in
    record {
      answer = w.answer;
      fits = eqb-true _ _ (unless_tells _ _ t.0.1) ∙ ap (λ F. F.rows) w.matrix;
      product = sym (ap (λ F. product_of (operands method X F)) w.matrix) ∙ naming_tells n _ tt u.0.1;
      matrix = sym (gives_injective u.1) ∙ ap (product_in method X) w.matrix;
    }
