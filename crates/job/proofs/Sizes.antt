-- The sizes of sheets and of their products are small, so that the arrays are long enough. Assumes nothing.
use mathlib.Core.Path.{◌≡◌, sym, subst}
use mathlib.Core.List.{List, [], ◌∷◌}
use Prim.Native.Nat.{ℕ, ◌+◌, ◌≤◌}
use Rattle.refusals.specs.Answer.{Answer, gives, refuses}
use Rattle.refusals.proofs.Answers.{gives_injective, not_both, next_tells}
use Rattle.refusals.proofs.SizeLaws.{small}
use Rattle.sheets.specs.declared.Sizes.{Sizes}
use Rattle.sheets.specs.Layout.{rows_of, columns_of}
use Rattle.sheets.specs.Reading.{sizes}
use Rattle.sheets.proofs.Answers.{done_tells}
use Rattle.job.specs.Factor.{Factor, matrix_in, sheet_read, read_as, in_front, in_arrays, Few}
use Rattle.job.specs.Fold.{step_of, fold_from, sheets_product}
use Rattle.job.proofs.Tells.{read_tells, step_tells}

pub record Small (F : Factor) : Type 0 where
  pub rows : F.rows ≤ 32
  pub some_column : 1 ≤ F.columns
  pub columns : F.columns ≤ 32

pub sheet_small : (s : List ℕ) → sheet_read s ≡ gives (sizes (rows_of s) (columns_of s)) → Small (matrix_in s)
sheet_small s e = let z = (done_tells s 1024 1024 (rows_of s) (columns_of s) e).sized in record { rows = z.rows; some_column = z.some_column; columns = z.columns }

pub read_small : (p : ℕ) (s : List ℕ) (Y : Factor) → read_as p s ≡ gives Y → Small Y
read_small p s Y e = let w = read_tells p s Y e in subst Small (sym w.matrix) (sheet_small s w.answer)

step_small : (method n p : ℕ) (X : Factor) (s : List ℕ) (Z : Factor) → Small X → step_of method n p X s ≡ gives Z → Small Z
step_small method n p X s Z h e =
    let t = step_tells method n p X s Z e in
    let z = sheet_small s t.answer in
    subst Small (sym t.matrix) (record { rows = h.rows; some_column = z.some_column; columns = z.columns })

fold_small : (method n p : ℕ) (X : Factor) (ss : List (List ℕ)) (Z : Factor) → Small X → fold_from method n p X ss ≡ gives Z → Small Z
unfolding fold_from
fold_small method n p X [] Z h e = subst Small (gives_injective e) h
fold_small method n p X (s ∷ ss) Z h e =
    let t = next_tells (step_of method n p X s) _ Z e in
    fold_small method n (p + 1) t.0 ss Z (step_small method n p X s t.0 h t.1) t.2

pub product_small : (method n : ℕ) (ss : List (List ℕ)) (Z : Factor) → sheets_product method n ss ≡ gives Z → Small Z
unfolding sheets_product
product_small method n [] Z e = absurd (not_both e)
product_small method n (s ∷ ss) Z e =
    let t = next_tells (read_as 1 s) _ Z e in
    fold_small method n 2 t.0 ss Z (read_small 1 s t.0 t.1) t.2

-- so the product fits the arrays in which the code's answer o says that it stands
pub few : (lo up : List ℕ) (o : Answer Sizes) {A : Answer Factor} → in_arrays o lo up ≡ A → ((Z : Factor) → A ≡ gives Z → Small Z) → Few o
few lo up (gives z) e h = let f = h (in_front z.rows z.columns lo up) (sym e) in small z.rows z.columns f.rows f.columns
few lo up (refuses x) e h = tt
