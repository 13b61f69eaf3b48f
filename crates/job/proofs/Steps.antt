-- Laws of one step, the left factor times a sheet: one for each way out of the code. Assumes nothing.
use mathlib.Core.Path.{◌≡◌, refl, sym, ap, ◌∙◌}
use mathlib.Core.List.{List, ◌++◌}
use mathlib.Core.Option.{Option}
use Prim.Native.Nat.{ℕ, ◌*◌}
use lib.ListN.{take, drop}
use borrow.Author.Tests.{eq-eqb, ne_eqb}
use Rattle.refusals.specs.declared.reason.Reason.TheVariants.{WrongSize}
use Rattle.refusals.specs.declared.Refusal.{Refusal}
use Rattle.refusals.specs.Refusal.{of_matrix}
use Rattle.refusals.specs.Answer.{Answer, gives, refuses, done, then, naming}
use Rattle.enclosure.specs.Methods.{Range}
use Rattle.matrices.specs.Lists.{tabulate}
use Rattle.matrices.specs.Entries.{lower_of, upper_of}
use Rattle.matrices.specs.Product.{entries, product_of, result_after}
use Rattle.matrices.proofs.Fronts.{tabulate_length}
use Rattle.matrices.proofs.Keeping.{result_done}
use Rattle.job.specs.Factor.{Factor, read_as, in_front}
use Rattle.job.specs.Fold.{operands, product_in, times_of, step_of}
use Rattle.job.proofs.Factors.{factor_is, front_is}

-- ---- the product. The code gives W for X
module _ (method n : ℕ) (X Y : Factor) {W : Factor} (w : W ≡ X) {o : Answer (Unit {0})} (a : o ≡ product_of (operands method W Y)) where
  e : o ≡ product_of (operands method X Y)
  e = a ∙ ap (λ F. product_of (operands method F Y)) w

  -- by the same with its refusal named
  pub times_refused : {b : Answer (Unit {0})} {x : Refusal} → b ≡ naming n o → b ≡ refuses x → refuses x ≡ times_of method n X Y
  unfolding times_of
  times_refused f g = sym (ap (λ a. then a (gives (product_in method X Y))) (ap (naming n) (sym e) ∙ sym f ∙ g))

  -- a result array, which held d, is copied to the front of another, which held l
  copied : (bound : Option Range → ℕ) (d d' l l' : List ℕ) → o ≡ done → d' ≡ result_after (operands method W Y) bound d
      → l' ≡ take (X.rows * Y.columns) d' ++ drop (X.rows * Y.columns) l
      → take (X.rows * Y.columns) l' ≡ tabulate (X.rows * Y.columns) (λ c. bound (entries (operands method X Y) c))
  copied bound d d' l l' f g h =
      let k = X.rows * Y.columns in
      let E : ℕ → ℕ = λ c. bound (entries (operands method X Y) c) in
      let t : take k d' ≡ tabulate k E = front_is k (tabulate k E) _ d' (tabulate_length k E) (g ∙ ap (λ F. result_after (operands method F Y) bound d) w ∙ result_done (operands method X Y) (sym e ∙ f) bound d) in
      front_is k (tabulate k E) _ l' (tabulate_length k E) (h ∙ ap (λ x. x ++ drop k l) t)

  pub times_gives : (cl cu cl' cu' lo up lo' up' : List ℕ) → o ≡ done → cl' ≡ result_after (operands method W Y) lower_of cl → cu' ≡ result_after (operands method W Y) upper_of cu
      → lo' ≡ take (X.rows * Y.columns) cl' ++ drop (X.rows * Y.columns) lo → up' ≡ take (X.rows * Y.columns) cu' ++ drop (X.rows * Y.columns) up
      → gives (in_front X.rows Y.columns lo' up') ≡ times_of method n X Y
  unfolding times_of
  times_gives cl cu cl' cu' lo up lo' up' f l u p q =
      rw (sym e ∙ f) (ap gives (factor_is refl refl (copied lower_of cl cl' lo lo' f l p) (copied upper_of cu cu' up up' f u q)))

-- ---- the step
module _ (method n p : ℕ) (X : Factor) (s : List ℕ) where
  pub step_unread : {x : Refusal} → refuses x ≡ read_as p s → refuses x ≡ step_of method n p X s
  unfolding step_of
  step_unread e = rw (sym e)

  module _ {Y : Factor} (e : gives Y ≡ read_as p s) where
    pub step_unfit : {x : Refusal} → (X.columns ≡ Y.rows → ⊥) → x ≡ of_matrix WrongSize p → refuses x ≡ step_of method n p X s
    unfolding step_of
    step_unfit h f = rw (sym e, ne_eqb X.columns Y.rows h, f)

    pub step_fits : X.columns ≡ Y.rows → times_of method n X Y ≡ step_of method n p X s
    unfolding step_of
    step_fits h = rw (sym e, eq-eqb X.columns Y.rows h)
