-- Laws of the sheets of a train behind the first, one after another: k bytes are the next sheet, and `left` others come after it. Assumes nothing.
use mathlib.Core.Path.{◌≡◌, sym, ap, subst, ◌∙◌}
use mathlib.Core.List.{List}
use Prim.Native.Nat.{ℕ, suc, ◌+◌, ◌-◌, ◌≤◌}
use lib.ListN.{length, take, drop}
use Rattle.refusals.specs.declared.Refusal.{Refusal}
use Rattle.refusals.specs.Answer.{Answer, gives, refuses}
use Rattle.sheets.specs.declared.Sizes.{Sizes}
use Rattle.sheets.proofs.Cuts.{rest_is}
use Rattle.job.specs.Factor.{Factor, in_front, in_arrays}
use Rattle.job.specs.Fold.{step_of, fold_from}
use Rattle.job.specs.Train.{next_length, sheets_in}
use Rattle.job.proofs.Factors.{arrays_by}
use Rattle.job.proofs.Folds.{fold_stops, fold_goes, fold_none}
use Rattle.job.proofs.Tells.{Stepped, step_tells}
use Rattle.job.proofs.Sizes.{sheet_small}
use Rattle.job.proofs.Trains.{sheets_next}

module _ (method p : ℕ) (X : Factor) (lo up rest : List ℕ) (m left k : ℕ) (e : m ≡ suc left) (f : k ≡ next_length left rest) {o : Answer Sizes}
    (g : in_arrays o lo up ≡ step_of method 9 p X (take k rest)) where
  pub others_stop : {x : Refusal} → o ≡ refuses x → refuses x ≡ fold_from method 9 p X (sheets_in m rest)
  others_stop h =
      fold_stops method 9 (take k rest) (sheets_in left (drop k rest)) p X (arrays_by lo up g h) ∙ ap (fold_from method 9 p X) (sym (sheets_next m left k rest e f))

  module _ {z : Sizes} (h : o ≡ gives z) where
    stepped : Stepped method X (in_front z.rows z.columns lo up) (take k rest)
    stepped = step_tells method 9 p X (take k rest) (in_front z.rows z.columns lo up) (sym (arrays_by lo up g h))

    pub others_columns : z.columns ≤ 32
    others_columns = subst (λ c. c ≤ 32) (sym (ap (λ F. F.columns) stepped.matrix)) (sheet_small (take k rest) stepped.answer).columns

    pub others_rows : z.rows ≡ X.rows
    others_rows = ap (λ F. F.rows) stepped.matrix

    pub others_go : fold_from method 9 p X (sheets_in m rest)
        ≡ fold_from method 9 (p + 1) (in_front z.rows z.columns lo up) (sheets_in left (take (length rest - k) (drop k rest)))
    others_go =
        ap (fold_from method 9 p X) (sheets_next m left k rest e f) ∙ fold_goes method 9 (take k rest) (sheets_in left (drop k rest)) p X (arrays_by lo up g h)
        ∙ ap (λ s. fold_from method 9 (p + 1) (in_front z.rows z.columns lo up) (sheets_in left s)) (sym (rest_is rest k))

pub others_end : (method p : ℕ) (X : Factor) (left : ℕ) (rest : List ℕ) → left ≡ 0 → gives X ≡ fold_from method 9 p X (sheets_in left rest)
unfolding sheets_in
others_end method p X left rest e = rw e (fold_none method 9 p X)
