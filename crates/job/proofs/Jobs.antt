-- Laws of the product of two sheets: by its checks, and where it is copied to. Assumes nothing.
use mathlib.Core.Path.{◌≡◌, refl, ap, ◌∙◌}
use mathlib.Core.List.{List, [], ◌∷◌, ◌++◌}
use Prim.Native.Nat.{ℕ, ◌*◌, ◌≤◌}
use lib.ListN.{length, take, drop}
use lib.Seq.{length-take-le}
use Rattle.refusals.specs.declared.Refusal.{Refusal}
use Rattle.refusals.specs.Answer.{Answer, gives, refuses, done}
use Rattle.refusals.proofs.Answers.{then_tells}
use Rattle.matrices.specs.Checks.{check_method}
use Rattle.job.specs.Factor.{Factor, read_as, in_front}
use Rattle.job.specs.Fold.{step_of, sheets_product}
use Rattle.job.specs.Job.{job_product, array_after, factor_lowers, factor_uppers}
use Rattle.job.proofs.Factors.{factor_is, front_is}
use Rattle.job.proofs.Folds.{product_unread, product_goes, fold_last}
use Rattle.job.proofs.Sizes.{Small, product_small}

module _ (method : ℕ) (a b : List ℕ) where
  module _ (e : check_method method ≡ done) where
    job_product_is : sheets_product method 3 (a ∷ b ∷ []) ≡ job_product method a b
    unfolding job_product
    job_product_is = rw e

    pub job_first : {x : Refusal} → refuses x ≡ read_as 1 a → refuses x ≡ job_product method a b
    job_first f = product_unread method 3 a (b ∷ []) f ∙ job_product_is

    pub job_second : {X : Factor} → gives X ≡ read_as 1 a → step_of method 3 2 X b ≡ job_product method a b
    job_second {X} f = fold_last method 3 2 X b ∙ product_goes method 3 a (b ∷ []) f ∙ job_product_is

pub job_small : (method : ℕ) (a b : List ℕ) (Z : Factor) → job_product method a b ≡ gives Z → Small Z
unfolding job_product
job_small method a b Z e = product_small method 3 (a ∷ b ∷ []) Z (then_tells (check_method method) _ Z e).1

-- ---- the product, copied to arrays that are lent

-- what `multiply_sheets` ensures of its answer v
abbrev Copied : (v A : Answer Factor) (lo up lo' up' : List ℕ) → Type 0
Copied v A lo up lo' up' = (v ≡ A) × ((lo' ≡ array_after factor_lowers A lo) × (up' ≡ array_after factor_uppers A up))

pub arrays_kept : {A : Answer Factor} {x : Refusal} (lo up : List ℕ) → refuses x ≡ A → Copied (refuses x) A lo up lo up
unfolding array_after
arrays_kept lo up e = (e, (ap (λ A. array_after factor_lowers A lo) e, ap (λ A. array_after factor_uppers A up) e))

pub arrays_filled : {A : Answer Factor} (r c : ℕ) (l u lo up lo' up' : List ℕ) → r * c ≤ length l → r * c ≤ length u
    → gives (in_front r c l u) ≡ A → lo' ≡ take (r * c) l ++ drop (r * c) lo → up' ≡ take (r * c) u ++ drop (r * c) up → Copied (gives (in_front r c lo' up')) A lo up lo' up'
unfolding array_after
arrays_filled r c l u lo up lo' up' h k e f g = (
  ap gives (factor_is refl refl (front l lo lo' h f) (front u up up' k g)) ∙ e,
  (f ∙ ap (λ A. array_after factor_lowers A lo) e, g ∙ ap (λ A. array_after factor_uppers A up) e),
)
  where
    front : (d x y : List ℕ) → r * c ≤ length d → y ≡ take (r * c) d ++ drop (r * c) x → take (r * c) y ≡ take (r * c) d
    front d x y p q = front_is (r * c) (take (r * c) d) _ y (length-take-le (r * c) d p) q
