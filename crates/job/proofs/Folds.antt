-- Laws of the product of sheets from the left, step by step. Assumes nothing.
use mathlib.Core.Path.{◌≡◌, refl, sym}
use mathlib.Core.List.{List, [], ◌∷◌, ◌++◌}
use Prim.Native.Nat.{ℕ, ◌+◌}
use Rattle.refusals.specs.declared.Refusal.{Refusal}
use Rattle.refusals.specs.Answer.{Answer, gives, refuses, and_then}
use Rattle.refusals.proofs.Answers.{not_both}
use Rattle.job.specs.Factor.{Factor, read_as}
use Rattle.job.specs.Fold.{step_of, fold_from, sheets_product}

module _ (method n : ℕ) (s : List ℕ) (ss : List (List ℕ)) where
  -- ---- the first sheet
  pub product_unread : {x : Refusal} → refuses x ≡ read_as 1 s → refuses x ≡ sheets_product method n (s ∷ ss)
  unfolding sheets_product
  product_unread e = rw (sym e)

  pub product_goes : {X : Factor} → gives X ≡ read_as 1 s → fold_from method n 2 X ss ≡ sheets_product method n (s ∷ ss)
  unfolding sheets_product
  product_goes e = rw (sym e)

  -- ---- a later sheet
  module _ (p : ℕ) (X : Factor) where
    pub fold_stops : {x : Refusal} → refuses x ≡ step_of method n p X s → refuses x ≡ fold_from method n p X (s ∷ ss)
    unfolding fold_from
    fold_stops e = rw (sym e)

    pub fold_goes : {Y : Factor} → gives Y ≡ step_of method n p X s → fold_from method n p X (s ∷ ss) ≡ fold_from method n (p + 1) Y ss
    unfolding fold_from
    fold_goes e = rw (sym e)

-- ---- the last sheet, and none
pub fold_last : (method n p : ℕ) (X : Factor) (s : List ℕ) → step_of method n p X s ≡ fold_from method n p X (s ∷ [])
unfolding fold_from
fold_last method n p X s = again (step_of method n p X s)
  where
    again : (A : Answer Factor) → A ≡ and_then A (λ Y. gives Y)
    again (gives Y) = refl
    again (refuses x) = refl

pub fold_none : (method n p : ℕ) (X : Factor) → gives X ≡ fold_from method n p X []
unfolding fold_from
fold_none method n p X = refl

-- ---- a sheet is read only when its turn comes: what stands behind a refused one changes nothing
refused_too : {A B : Type 0} (a : Answer A) (f g : A → Answer B) {x : Refusal} → ((v : A) → f v ≡ refuses x → g v ≡ refuses x) → and_then a f ≡ refuses x → and_then a g ≡ refuses x
refused_too (gives v) f g h e = h v e
refused_too (refuses r) f g h e = e

fold_unread : (method n p : ℕ) (X : Factor) (ss ts : List (List ℕ)) {x : Refusal} → fold_from method n p X ss ≡ refuses x → fold_from method n p X (ss ++ ts) ≡ refuses x
unfolding fold_from
fold_unread method n p X [] ts e = absurd (not_both (sym e))
fold_unread method n p X (s ∷ ss) ts e = refused_too (step_of method n p X s) _ _ (λ Y f. fold_unread method n (p + 1) Y ss ts f) e

pub later_unread : (method n : ℕ) (s : List ℕ) (ss ts : List (List ℕ)) {x : Refusal} → sheets_product method n (s ∷ ss) ≡ refuses x → sheets_product method n (s ∷ (ss ++ ts)) ≡ refuses x
unfolding sheets_product
later_unread method n s ss ts e = refused_too (read_as 1 s) _ _ (λ X f. fold_unread method n 2 X ss ts f) e
