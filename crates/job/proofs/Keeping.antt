-- Enclosure through a product of sheets: each step keeps it, and so the picks' exact product stays inside. Assumes nothing.
use mathlib.Core.Path.{◌≡◌, sym, ap, subst, ◌∙◌}
use mathlib.Core.List.{List, [], ◌∷◌, ◌++◌, append-nil}
use Prim.Native.Nat.{ℕ, ◌+◌, ◌<◌}
use lib.Seq.{drop-nil}
use Rattle.rounding.specs.Format.{binary32, units}
use Rattle.enclosure.specs.Demand.{sum_of_products}
use Rattle.enclosure.specs.Fraction.{In}
use Rattle.refusals.specs.Answer.{gives}
use Rattle.refusals.proofs.Answers.{gives_injective, not_both, next_tells}
use Rattle.sheets.specs.Layout.{rows_of}
use Rattle.matrices.specs.Lists.{tabulate, front}
use Rattle.matrices.specs.Matrix.{cell_at}
use Rattle.matrices.specs.Entries.{lower_of, upper_of}
use Rattle.matrices.specs.Checks.{Given}
use Rattle.matrices.specs.Product.{entries, cells}
use Rattle.matrices.proofs.Keeping.{entries_keep}
use Rattle.job.specs.Factor.{Factor, matrix_in, read_as}
use Rattle.job.specs.Fold.{operands, product_in, step_of, fold_from, sheets_product}
use Rattle.job.specs.Demand.{range_in}
use Rattle.job.specs.TrainDemand.{Fractions, PickedFrom, times, PickedAll, exact_from, exact_product, StepKeeps, StepsKeep, AllKeep}
use Rattle.job.proofs.Tells.{read_tells, Stepped, step_tells}

-- ---- one step
front_nil : (n : ℕ) (f : ℕ → ℕ) → front n f [] ≡ tabulate n f
front_nil n f = ap (λ l. tabulate n f ++ l) (drop-nil n) ∙ append-nil (tabulate n f)

pub step_keeps : {method : ℕ} {X Y : Factor} {s : List ℕ} → Stepped method X Y s → StepKeeps method X s
step_keeps {method} {X} {Y} {s} t =
    record {
      reads = t.answer;
      fits = t.fits;
      keeps = λ i j hi hj. rw (front_nil (cells g) (λ c. lower_of (entries g c)), front_nil (cells g) (λ c. upper_of (entries g c))) at (entries_keep g t.product [] [] i j hi hj);
    }
  where
    g : Given
    g = operands method X (matrix_in s)

-- the exact product of two picks lies in the product of the factors
step_encloses : (method : ℕ) (X : Factor) (s : List ℕ) (x y : Fractions) → StepKeeps method X s → PickedFrom X x → PickedFrom (matrix_in s) y
    → PickedFrom (product_in method X (matrix_in s)) (times (rows_of s) x y)
unfolding cell_at
step_encloses method X s x y k h m i hi j hj =
    subst (λ c. In (units binary32) (range_in Z i j).lower (range_in Z i j).upper (sum_of_products c (x i) (λ l. y l j))) k.fits
    ((k.keeps i j hi hj).encloses (x i) (λ l. y l j) (h i hi) (λ l hl. m l (subst (λ c. l < c) k.fits hl) j hj))
  where
    Z : Factor
    Z = product_in method X (matrix_in s)

-- ---- all steps
fold_keeps : (method n p : ℕ) (X : Factor) (ss : List (List ℕ)) (Z : Factor) → fold_from method n p X ss ≡ gives Z → StepsKeep method X ss
unfolding fold_from StepsKeep
fold_keeps method n p X [] Z e = tt
fold_keeps method n p X (s ∷ ss) Z e =
    let t = next_tells (step_of method n p X s) _ Z e in
    let w = step_tells method n p X s t.0 t.1 in
    (step_keeps w, subst (λ F. StepsKeep method F ss) w.matrix (fold_keeps method n (p + 1) t.0 ss Z t.2))

fold_encloses : (method n p : ℕ) (X : Factor) (ss : List (List ℕ)) (Z : Factor) (x : Fractions) (picks : ℕ → Fractions) → fold_from method n p X ss ≡ gives Z → PickedFrom X x
    → PickedAll p ss picks → PickedFrom Z (exact_from p x ss picks)
unfolding fold_from PickedAll exact_from
fold_encloses method n p X [] Z x picks e h k = subst (λ F. PickedFrom F x) (gives_injective e) h
fold_encloses method n p X (s ∷ ss) Z x picks e h k =
    let t = next_tells (step_of method n p X s) _ Z e in
    let w = step_tells method n p X s t.0 t.1 in
    let y = times (rows_of s) x (picks p) in
    fold_encloses method n (p + 1) t.0 ss Z y picks t.2 (subst (λ F. PickedFrom F y) (sym w.matrix) (step_encloses method X s x (picks p) (step_keeps w) h k.0)) k.1

-- ---- the product of the sheets
pub product_keeps : (method n : ℕ) (ss : List (List ℕ)) (Z : Factor) → sheets_product method n ss ≡ gives Z → AllKeep method ss
unfolding sheets_product AllKeep
product_keeps method n [] Z e = tt
product_keeps method n (s ∷ ss) Z e =
    let t = next_tells (read_as 1 s) _ Z e in
    let w = read_tells 1 s t.0 t.1 in
    (w.answer, subst (λ F. StepsKeep method F ss) w.matrix (fold_keeps method n 2 t.0 ss Z t.2))

pub product_encloses : (method n : ℕ) (ss : List (List ℕ)) (Z : Factor) → sheets_product method n ss ≡ gives Z
    → (picks : ℕ → Fractions) → PickedAll 1 ss picks → PickedFrom Z (exact_product ss picks)
unfolding sheets_product PickedAll exact_product
product_encloses method n [] Z e picks k = absurd (not_both e)
product_encloses method n (s ∷ ss) Z e picks k =
    let t = next_tells (read_as 1 s) _ Z e in
    let w = read_tells 1 s t.0 t.1 in
    fold_encloses method n 2 t.0 ss Z (picks 1) picks t.2 (subst (λ F. PickedFrom F (picks 1)) (sym w.matrix) k.0) k.1
